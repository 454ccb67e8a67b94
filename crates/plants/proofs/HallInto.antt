-- The lanes into a node of a hall.
use Rattle.std.proofs.Common.{◌≡◌, ℕ, zero, suc, ◌+◌, ◌-◌, ◌*◌, ◌/◌, ◌%◌, ◌<◌, ◌≤◌, Bool, true, false, cond, not, ltb, List, [], ◌∷◌, Some, None, sym, refl, ap, ◌∙◌, subst, ⊎_elim, arith}
use Rattle.std.specs.List.{slice_get}
use Rattle.std.proofs.lemmas.Bool.{cases_Bool, ltb-true, leb-true, lt-ltb, le-leb, not-true, not_from_false, cond-true, cond-false}
use Rattle.cost.specs.declared.class.Class.{Class}
use Rattle.plant.specs.declared.lane.Lane.{Lane}
use Rattle.plant.specs.Floor.{into_of}
use Rattle.plants.specs.Hall.{has_north, has_east, has_south, has_west, neighbour, lane_to, hall_lane, grid}
use Rattle.plants.specs.Picked.{Among, Listed, picked}
use Rattle.plants.proofs.Slots.{Slot, slot, kept, before, one_if, one_if_not, slot_at, slots_past, among_slots, listed_slot}
use Rattle.plants.specs.HallSides.{Rows, west_below, east_below, more_columns}
use Rattle.plants.specs.HallLanes.{lane_at, head_in}

-- the lanes that may lead into v, by rising number: from the north and the west, v's own that would leave the hall, from the east and the south
abbrev pub into_slots : ℕ → ℕ → ℕ → List Slot
into_slots nodes columns v =
    slot (has_north columns v) (4 * (v - columns) + 2)
    ∷ slot (has_west columns v) (4 * (v - 1) + 1)
    ∷ slot (not (has_north columns v)) (4 * v)
    ∷ slot (not (has_east columns v)) (4 * v + 1)
    ∷ slot (not (has_south nodes columns v)) (4 * v + 2)
    ∷ slot (not (has_west columns v)) (4 * v + 3)
    ∷ slot (has_east columns v) (4 * (v + 1) + 3)
    ∷ slot (has_south nodes columns v) (4 * (v + columns))
    ∷ []

-- on each side there is a neighbour or an edge
pub record Edges (nodes columns v : ℕ) : Type 0 where
  pub north : one_if (has_north columns v) + one_if (not (has_north columns v)) ≡ 1
  pub east : one_if (has_east columns v) + one_if (not (has_east columns v)) ≡ 1
  pub south : one_if (has_south nodes columns v) + one_if (not (has_south nodes columns v)) ≡ 1
  pub west : one_if (has_west columns v) + one_if (not (has_west columns v)) ≡ 1

edges : (nodes columns v : ℕ) → Edges nodes columns v
edges nodes columns v = record { north = one_if_not _; east = one_if_not _; south = one_if_not _; west = one_if_not _ }

-- where a lane leads, whose side has a neighbour or not
module _ (cells : List ℕ) (v : ℕ) (b : Bool) (w : ℕ) where
  goes : b ≡ true → (lane_to cells v (cond b (Some w) None)).head ≡ w
  goes h = ap (λ t. (lane_to cells v t).head) (cond-true b (Some w) None h)

  stays : b ≡ false → (lane_to cells v (cond b (Some w) None)).head ≡ v
  stays h = ap (λ t. (lane_to cells v t).head) (cond-false b (Some w) None h)

module _ (nodes columns : ℕ) (cells : List ℕ) (rows : Rows nodes columns) where
  abbrev head : ℕ → ℕ
  head k = (hall_lane nodes columns cells k).head

  head_at : (v side k w : ℕ) → k ≡ 4 * v + side → side < 4 → (lane_to cells v (neighbour nodes columns v side)).head ≡ w → head k ≡ w
  head_at v side k w e lt is = ap (λ (l : Lane Class). l.head) (lane_at nodes columns cells v side k e lt) ∙ is

  module _ (v : ℕ) (inside : v < nodes) where
    abbrev slots : List Slot
    slots = into_slots nodes columns v

    -- each slot's lane, where the slot is filled, leads to v
    listed : Listed head v 0 (4 * nodes) (kept slots)
    listed =
        let wide = rows.wide in
        let some = rows.some in
        listed_slot head v 0 (4 * (v + 1 - columns)) _ (has_north columns v) _ _ (omega arith)
        (λ h.
        let le = leb-true columns v h in
        let back : v - columns + columns ≡ v = omega arith in
        (omega arith, omega arith, omega arith, head_at (v - columns) 2 _ v refl (omega arith) (goes cells (v - columns) _ _ (lt-ltb _ _ (omega arith)) ∙ back)))
        (listed_slot head v (4 * (v + 1 - columns)) (4 * v) _ (has_west columns v) _ _ (omega arith)
        (λ h.
        let beside = ltb-true 0 (v % columns) h in
        let more = more_columns columns v some beside in
        let past = west_below columns v beside in
        let back : v - 1 + 1 ≡ v = omega arith in
        (omega arith, omega arith, omega arith, head_at (v - 1) 1 _ v refl (omega arith) (goes cells (v - 1) _ _ (subst (λ u. ltb 0 (u % columns) ≡ true) (sym back) h) ∙ back)))
        (listed_slot head v (4 * v) (4 * v + 1) _ (not (has_north columns v)) _ _ (omega arith)
        (λ h. (omega arith, omega arith, omega arith, head_at v 0 (4 * v) v (omega arith) (omega arith) (stays cells v _ _ (not-true _ h))))
        (listed_slot head v (4 * v + 1) (4 * v + 2) _ (not (has_east columns v)) _ _ (omega arith)
        (λ h. (omega arith, omega arith, omega arith, head_at v 1 _ v refl (omega arith) (stays cells v _ _ (not-true _ h))))
        (listed_slot head v (4 * v + 2) (4 * v + 3) _ (not (has_south nodes columns v)) _ _ (omega arith)
        (λ h. (omega arith, omega arith, omega arith, head_at v 2 _ v refl (omega arith) (stays cells v _ _ (not-true _ h))))
        (listed_slot head v (4 * v + 3) (4 * (v + 1)) _ (not (has_west columns v)) _ _ (omega arith)
        (λ h. (omega arith, omega arith, omega arith, head_at v 3 _ v refl (omega arith) (stays cells v _ _ (not-true _ h))))
        (listed_slot head v (4 * (v + 1)) (4 * (v + columns)) _ (has_east columns v) _ _ (omega arith)
        (λ h.
        let beside = ltb-true 0 ((v + 1) % columns) h in
        let more = more_columns columns (v + 1) some beside in
        let past = east_below nodes columns v rows inside beside in
        let back : v + 1 - 1 ≡ v = omega arith in
        (omega arith, omega arith, omega arith, head_at (v + 1) 3 _ v refl (omega arith) (goes cells (v + 1) _ _ h ∙ back)))
        (listed_slot head v (4 * (v + columns)) (4 * (v + columns) + 1) _ (has_south nodes columns v) _ _ (omega arith)
        (λ h.
        let past = ltb-true (v + columns) nodes h in
        let back : v + columns - columns ≡ v = omega arith in
        (omega arith, omega arith, omega arith, head_at (v + columns) 0 (4 * (v + columns)) v (omega arith) (omega arith) (goes cells (v + columns) _ _ (le-leb columns (v + columns) (omega arith)) ∙ back)))
        tt)))))))

    -- a lane that leads to v is that of a filled slot, by its side and whether the side has a neighbour
    came : (u side i : ℕ) → i ≡ 4 * u + side → u < nodes → side < 4 → (lane_to cells u (neighbour nodes columns u side)).head ≡ v → Among i (kept slots)
    came u zero i e below lt to =
        ⊎_elim
        (λ h.
        let le = leb-true columns u h in
        let there : u - columns ≡ v = sym (goes cells u (has_north columns u) _ h) ∙ to in
        among_slots 7 i slots _ refl (lt-ltb (v + columns) nodes (omega arith)) (omega arith))
        (λ h.
        let same : u ≡ v = sym (stays cells u (has_north columns u) _ h) ∙ to in
        among_slots 2 i slots _ refl (not_from_false _ (subst (λ x. has_north columns x ≡ false) same h)) (omega arith))
        (cases_Bool (has_north columns u))
    came u (suc zero) i e below lt to =
        ⊎_elim
        (λ h.
        let there : u + 1 ≡ v = sym (goes cells u (has_east columns u) _ h) ∙ to in
        among_slots 1 i slots _ refl (subst (λ x. ltb 0 (x % columns) ≡ true) there h) (omega arith))
        (λ h.
        let same : u ≡ v = sym (stays cells u (has_east columns u) _ h) ∙ to in
        among_slots 3 i slots _ refl (not_from_false _ (subst (λ x. has_east columns x ≡ false) same h)) (omega arith))
        (cases_Bool (has_east columns u))
    came u (suc (suc zero)) i e below lt to =
        ⊎_elim
        (λ h.
        let there : u + columns ≡ v = sym (goes cells u (has_south nodes columns u) _ h) ∙ to in
        among_slots 0 i slots _ refl (le-leb columns v (omega arith)) (omega arith))
        (λ h.
        let same : u ≡ v = sym (stays cells u (has_south nodes columns u) _ h) ∙ to in
        among_slots 4 i slots _ refl (not_from_false _ (subst (λ x. has_south nodes columns x ≡ false) same h)) (omega arith))
        (cases_Bool (has_south nodes columns u))
    came u (suc (suc (suc zero))) i e below lt to =
        ⊎_elim
        (λ h.
        let past = west_below columns u (ltb-true 0 (u % columns) h) in
        let there : u - 1 ≡ v = sym (goes cells u (has_west columns u) _ h) ∙ to in
        let next : u ≡ v + 1 = omega arith in
        among_slots 6 i slots _ refl (subst (λ x. ltb 0 (x % columns) ≡ true) next h) (omega arith))
        (λ h.
        let same : u ≡ v = sym (stays cells u (has_west columns u) _ h) ∙ to in
        among_slots 5 i slots _ refl (not_from_false _ (subst (λ x. has_west columns x ≡ false) same h)) (omega arith))
        (cases_Bool (has_west columns u))
    came u (suc (suc (suc (suc side)))) i e below lt to = absurd (omega arith)

    into_is : into_of (grid nodes columns cells) v ≡ kept slots
    into_is =
        picked (λ l. l.head) (hall_lane nodes columns cells) v (4 * nodes) 0 (4 * nodes) (kept slots) (omega arith) listed
        (λ i low lt to. came (i / 4) (i % 4) i (omega arith) (omega arith) (omega arith) to)

    -- the lane of slot n, where j of the slots before it are filled, and it is too
    pub into_at : (n j : ℕ) (s : Slot) → slice_get slots n ≡ Some s → (Edges nodes columns v → (before n slots ≤ j) × (j < before (suc n) slots)) → slice_get (into_of (grid nodes columns cells) v) j ≡ Some s.number
    into_at n j s e within = let r = within (edges nodes columns v) in ap (λ l. slice_get l j) into_is ∙ slot_at n j slots s e r.0 r.1

    pub into_past : (j : ℕ) → 4 ≤ j → slice_get (into_of (grid nodes columns cells) v) j ≡ None
    into_past j le = let r = edges nodes columns v in ap (λ l. slice_get l j) into_is ∙ slots_past j slots (omega arith)

  pub into_outside : (v j : ℕ) → nodes ≤ v → slice_get (into_of (grid nodes columns cells) v) j ≡ None
  into_outside v j past =
      ap (λ l. slice_get l j)
      (picked (λ l. l.head) (hall_lane nodes columns cells) v (4 * nodes) 0 (4 * nodes) [] (omega arith) tt
      (λ i low lt to. let below = head_in nodes columns cells rows i lt in omega arith))
