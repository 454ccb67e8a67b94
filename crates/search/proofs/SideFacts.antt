-- What holds of one side of the two-way search, and what it says of walks.
use Rattle.std.proofs.Common.{◌≡◌, ℕ, ◌<◌, true, false, ◌⊎◌, List, [], ◌∷◌, length, Some, sym, refl, ap, ◌∙◌, subst, inl, inr}
use Rattle.std.specs.List.{slice_get}
use Rattle.cost.specs.Kind.{Kind, Laws}
use Rattle.plant.specs.declared.lane.Lane.{Lane}
use Rattle.plant.specs.Floor.{Floor, FloorLaws}
use Rattle.plant.specs.Walk.{Walk, walk_cost, lane_cost}
use Rattle.search.specs.declared.row.Row.{Row}
use Rattle.search.specs.declared.row.State.TheVariants.{Blank, Scanned, Dropped}
use Rattle.search.specs.Rows.{is_open}
use Rattle.search.proofs.At.{label_at, state_at, key_at}
use Rattle.search.specs.Order.{Le, le_refl, le_trans, le_eq, le_mono_right, zero_join, le_zero}
use Rattle.search.proofs.States.{state_cases}
use Rattle.search.proofs.Treks.{Trek, trek_none, trek_append, trek_lane, walk_bound, trek_bound}

-- no walk from s to t through v costs less than m
abbrev pub Closed : {C : Type 0} → Kind C → Floor C → ℕ → ℕ → C → ℕ → Type 0
Closed {C} k f s t m v = (a b : C) → Trek k f s v a → Trek k f v t b → Le k m (k.join a b)

-- a walk from s to t through v that costs less than m costs no less with v's label for its first part
abbrev pub Best : {C : Type 0} → Kind C → Floor C → ℕ → ℕ → C → ℕ → C → Type 0
Best {C} k f s t m v g = (a b : C) → Trek k f s v a → Trek k f v t b → Le k m (k.join a b) ⊎ Le k (k.join g b) (k.join a b)

-- v's lanes have been followed
pub record Followed {C : Type 0} (k : Kind C) (f : Floor C) (s t : ℕ) (rows : List (Row C)) (m : C) (v : ℕ) : Type 0 where
  pub chain : (i : ℕ) (l : Lane C) → slice_get f.lanes i ≡ Some l → l.tail ≡ v → Le k (key_at k f t rows l.head) (k.join (k.join (label_at k rows v) l.cost) (f.bound l.head t))
  pub best : Best k f s t m v (label_at k rows v)

-- what holds of a side that goes from s towards t over f, whose last key is `last`, where the best meeting costs m
pub record SideInv {C : Type 0} (k : Kind C) (f : Floor C) (s t : ℕ) (rows : List (Row C)) (last m : C) : Type 0 where
  pub long : length rows ≡ f.nodes
  pub void : (v : ℕ) → state_at k rows v ≡ Blank → label_at k rows v ≡ k.beyond
  pub reach : (v : ℕ) → (label_at k rows v ≡ k.beyond) ⊎ Trek k f s v (label_at k rows v)
  pub source : Le k (label_at k rows s) k.zero
  pub last_low : (v : ℕ) → is_open (state_at k rows v) ≡ true → Le k last (key_at k f t rows v)
  pub last_high : (v : ℕ) → is_open (state_at k rows v) ≡ false → Le k (key_at k f t rows v) last
  pub settled : (v : ℕ) → state_at k rows v ≡ Scanned → Closed k f s t m v ⊎ Followed k f s t rows m v
  pub gone : (v : ℕ) → state_at k rows v ≡ Dropped → Closed k f s t m v
  pub scans : (v : ℕ) → state_at k rows v ≡ Scanned → (c : C) → Trek k f s t c → Le k (key_at k f t rows v) c

-- where a walk to z leaves the followed nodes: at a node that no walk below m passes, at an open node, or not at all
-- S bounds the label of that node joined with the rest of the walk and with y
pub data Front {C : Type 0} (k : Kind C) (f : Floor C) (rows : List (Row C)) (z : ℕ) (y m T S : C) : Type 0 where
  closed : Le k m T → Front k f rows z y m T S
  ajar : (q : ℕ) (is : List ℕ) → is_open (state_at k rows q) ≡ true → Walk f q is z → Le k (k.join (label_at k rows q) (k.join (walk_cost k f is) y)) S → Front k f rows z y m T S
  through : state_at k rows z ≡ Scanned → Le k (k.join (label_at k rows z) y) S → Front k f rows z y m T S

module _ {C : Type 0} {k : Kind C} (laws : Laws k) where
  regroup : (a b c d : C) → k.join (k.join a b) (k.join c d) ≡ k.join a (k.join (k.join b c) d)
  regroup a b c d = laws.join_assoc a b (k.join c d) ∙ ap (k.join a) (sym (laws.join_assoc b c d))

  module _ {f : Floor C} (fl : FloorLaws k f) {s t : ℕ} (t-in : t < f.nodes) {rows : List (Row C)} {last m : C} (inv : SideInv k f s t rows last m) where
    module _ {z : ℕ} {c2 : C} (after : Trek k f z t c2) {y : C} (hy : Le k (f.bound z t) y) (T S : C) where
      closes : (is : List ℕ) (p : ℕ) → Closed k f s t m p → Walk f p is z → (c0 : C) → Trek k f s p c0 → Le k (k.join c0 (k.join (walk_cost k f is) c2)) T → Le k m T
      closes is p cl w c0 t0 hT =
          let mine : Trek k f p z (walk_cost k f is) = record { lanes = is; walk = w; costs = refl } in
          le_trans k laws (cl c0 _ t0 (trek_append k laws mine after)) hT

      front_at : (is : List ℕ) (p : ℕ) → Walk f p is z → (c0 : C) → Trek k f s p c0 → Le k (k.join c0 (k.join (walk_cost k f is) c2)) T → Le k (k.join (label_at k rows p) (k.join (walk_cost k f is) y)) S →
          (state_at k rows p ≡ Scanned → Followed k f s t rows m p → Front k f rows z y m T S) → Front k f rows z y m T S
      front_at is p w c0 t0 hT hS go = elim (state_cases (state_at k rows p)) [
        | inl o ↦ ajar p is o w hS
        | inr x ↦ elim x [
          | inl sc ↦ elim (inv.settled p sc) [ inl cl ↦ closed (closes is p cl w c0 t0 hT) | inr fo ↦ go sc fo ]
          | inr d ↦ closed (closes is p (inv.gone p d) w c0 t0 hT)
        ]
      ]

      front : (is : List ℕ) (p : ℕ) → Walk f p is z → (c0 : C) → Trek k f s p c0 → Le k (k.join c0 (k.join (walk_cost k f is) c2)) T → Le k (k.join (label_at k rows p) (k.join (walk_cost k f is) y)) S → Front k f rows z y m T S
      front [] p w c0 t0 hT hS = front_at [] p w c0 t0 hT hS
          (λ sc fo. subst (λ x. state_at k rows x ≡ Scanned → Le k (k.join (label_at k rows x) y) S → Front k f rows z y m T S) (sym w) through sc
          (subst (λ x. Le k (k.join (label_at k rows p) x) S) (zero_join k laws y) hS))
      front (i ∷ is) p w c0 t0 hT hS = front_at (i ∷ is) p w c0 t0 hT hS
          (λ sc fo.
          let l = w.0 in
          let rest = walk_cost k f is in
          let lane : Trek k f p l.head l.cost = subst (λ x. Trek k f x l.head l.cost) w.2 (trek_lane k laws f i l w.1) in
          let hT' : Le k (k.join c0 (k.join (k.join l.cost rest) c2)) T = subst (λ o. Le k (k.join c0 (k.join (k.join (lane_cost k o) rest) c2)) T) w.1 hT in
          let hS' : Le k (k.join (label_at k rows p) (k.join (k.join l.cost rest) y)) S = subst (λ o. Le k (k.join (label_at k rows p) (k.join (k.join (lane_cost k o) rest) y)) S) w.1 hS in
          let reach : Le k (f.bound l.head t) (k.join rest y) = le_trans k laws (walk_bound k laws f fl t t-in is l.head z w.3) (le_mono_right k laws rest hy) in
          let step = laws.shared (label_at k rows l.head) (k.join (label_at k rows p) l.cost) (f.bound l.head t) (k.join rest y) (fo.chain i l w.1 w.2) reach in
          front is l.head w.3 (k.join c0 l.cost) (trek_append k laws t0 lane)
          (subst (λ x. Le k x T) (sym (regroup c0 l.cost rest c2)) hT')
          (le_trans k laws step (subst (λ x. Le k x S) (sym (regroup (label_at k rows p) l.cost rest y)) hS')))

      -- from the source on
      front_from : (a : C) → Trek k f s z a → Le k (k.join a c2) T → Le k (k.join a y) S → Front k f rows z y m T S
      front_from a w hT hS = front w.lanes s w.walk k.zero (trek_none k laws f s)
          (le_trans k laws (le_eq k laws (zero_join k laws _ ∙ ap (λ x. k.join x c2) w.costs)) hT)
          (le_trans k laws (le_zero k laws _ inv.source) (le_trans k laws (le_eq k laws (ap (λ x. k.join x y) w.costs)) hS))

    -- a key grows along a walk by no more than its cost
    key_along : (q z : ℕ) (is : List ℕ) → Walk f q is z → Le k (key_at k f t rows q) (k.join (label_at k rows q) (k.join (walk_cost k f is) (f.bound z t)))
    key_along q z is w = le_mono_right k laws (label_at k rows q) (walk_bound k laws f fl t t-in is q z w)

    -- a node e whose key is at most that of each open node has the best label
    pub picked_best : (e : ℕ) → ((v : ℕ) → is_open (state_at k rows v) ≡ true → Le k (key_at k f t rows e) (key_at k f t rows v)) → Best k f s t m e (label_at k rows e)
    picked_best e low a b ta tb = go (front_from tb (trek_bound k laws fl t-in tb) (k.join a b) (k.join a b) a ta (le_refl k laws _) (le_refl k laws _))
      where
        go : Front k f rows e b m (k.join a b) (k.join a b) → Le k m (k.join a b) ⊎ Le k (k.join (label_at k rows e) b) (k.join a b)
        go (closed h) = inl h
        go (through sc h) = inr h
        go (ajar q is o w h) =
            let g = label_at k rows q in
            let c = walk_cost k f is in
            let keys = le_trans k laws (low q o) (le_trans k laws (key_along q e is w) (le_eq k laws (sym (laws.join_assoc g c (f.bound e t))))) in
            let mine = laws.shared (label_at k rows e) (k.join g c) (f.bound e t) b keys (trek_bound k laws fl t-in tb) in
            inr (le_trans k laws mine (le_trans k laws (le_eq k laws (laws.join_assoc g c b)) h))

    -- a walk from source to target costs at least m, or at least the key of an open node
    pub walk_low : Le k m (label_at k rows t) → (c : C) → Trek k f s t c → Le k m c ⊎ ((q : ℕ) × (is_open (state_at k rows q) ≡ true) × Le k (key_at k f t rows q) c)
    walk_low met c w = go (front_from (trek_none k laws f t) (le_eq k laws (fl.bound_self t t-in)) c c c w (le_eq k laws (laws.join_zero c)) (le_eq k laws (laws.join_zero c)))
      where
        go : Front k f rows t k.zero m c c → Le k m c ⊎ ((q : ℕ) × (is_open (state_at k rows q) ≡ true) × Le k (key_at k f t rows q) c)
        go (closed h) = inl h
        go (through sc h) = inl (le_trans k laws met (subst (λ x. Le k x c) (laws.join_zero _) h))
        go (ajar q is o v h) = inr (q, o, le_trans k laws (subst (λ x. Le k (key_at k f t rows q) (k.join (label_at k rows q) (k.join (walk_cost k f is) x))) (fl.bound_self t t-in) (key_along q t is v)) h)

    -- a walk through a node e that is not scanned costs at least m, or its part from the source to e makes up for the last key
    pub unscanned_low : (e : ℕ) → (state_at k rows e ≡ Scanned → ⊥) → (a b : C) → Trek k f s e a → Trek k f e t b → Le k m (k.join a b) ⊎ Le k last (k.join a (f.bound e t))
    unscanned_low e un a b ta tb = go (front_from tb (le_refl k laws _) (k.join a b) (k.join a (f.bound e t)) a ta (le_refl k laws _) (le_refl k laws _))
      where
        go : Front k f rows e (f.bound e t) m (k.join a b) (k.join a (f.bound e t)) → Le k m (k.join a b) ⊎ Le k last (k.join a (f.bound e t))
        go (closed h) = inl h
        go (through sc h) = absurd (un sc)
        go (ajar q is o w h) = inr (le_trans k laws (inv.last_low q o) (le_trans k laws (key_along q e is w) h))
