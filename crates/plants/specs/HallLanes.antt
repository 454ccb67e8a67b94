-- The lanes of a hall, and those out of a node.
use Rattle.std.proofs.Common.{◌≡◌, ℕ, ◌+◌, ◌*◌, ◌/◌, ◌%◌, ◌<◌, ◌≤◌, List, [], get_or, ltb, MatchOption, IfSome, Some, None, Option, sym, refl, ap, ◌∙◌, inl, inr, ⊎_elim, arith}
use Rattle.std.specs.List.{slice_get}
use Rattle.std.specs.Option.{is_some, unwrap_or}
use Rattle.std.proofs.lemmas.Bool.{false≢true, cases_eq, cases_lt, lt-ltb, le-ltb, ltb-true}
use Rattle.cost.specs.declared.class.Class.{Class}
use Rattle.cost.specs.Classes.{same_class}
use Rattle.plant.specs.declared.lane.Lane.{Lane}
use Rattle.plant.specs.Floor.{out_of}
use Rattle.plants.specs.Index.{each}
use Rattle.plants.specs.Hall.{class_of, neighbour, lane_to, hall_lane, grid}
use Rattle.plants.specs.Numbered.{each_nth, each_past}
use Rattle.plants.specs.Picked.{Among, Listed, picked}
use Rattle.plants.specs.HallSides.{Rows, neighbour_in}

-- a class that holds a number is that number's
pub class_is : (x : Class) (n : ℕ) → x.grade ≡ n → x ≡ class_of n
class_is x n e = same_class x (class_of n) (omega (arith, e, x.ok))

module _ (cells : List ℕ) (v : ℕ) where
  tail_is : (to : Option ℕ) → (lane_to cells v to).tail ≡ v
  tail_is None = refl
  tail_is (Some w) = refl

  head_below : (nodes : ℕ) (to : Option ℕ) → v < nodes → ((w : ℕ) → to ≡ Some w → w < nodes) → (lane_to cells v to).head < nodes
  head_below nodes None inside below = inside
  head_below nodes (Some w) inside below = below w refl

module _ (nodes columns : ℕ) (cells : List ℕ) where
  abbrev lane : ℕ → Lane Class
  lane k = hall_lane nodes columns cells k

  pub lane_at : (v side k : ℕ) → k ≡ 4 * v + side → side < 4 → lane k ≡ lane_to cells v (neighbour nodes columns v side)
  lane_at v side k e lt =
      let p : k / 4 ≡ v = omega arith in
      let q : k % 4 ≡ side = omega arith in
      λ i. lane_to cells (p i) (neighbour nodes columns (p i) (q i))

  lane_is : (k : ℕ) (to : Option ℕ) → k / 4 < nodes → to ≡ neighbour nodes columns (k / 4) (k % 4) → ◌≡◌ {A = Option (Lane Class)} (Some (lane_to cells (k / 4) to)) (slice_get (grid nodes columns cells).lanes k)
  lane_is k to inside e = ap (λ t. Some (lane_to cells (k / 4) t)) e ∙ sym (each_nth lane 0 (4 * nodes) k k (omega arith) (omega arith))

  lane_entering : (k w : ℕ) (x : Class) → k / 4 < nodes → Some w ≡ neighbour nodes columns (k / 4) (k % 4) → x.grade ≡ get_or cells w 0 → ◌≡◌ {A = Option (Lane Class)} (Some (record { tail = k / 4; head = w; cost = x })) (slice_get (grid nodes columns cells).lanes k)
  lane_entering k w x inside e cost = (λ i. Some (record { tail = k / 4; head = w; cost = class_is x (get_or cells w 0) cost i })) ∙ lane_is k (Some w) inside e

  lane_leaving : (k : ℕ) (x : Class) → k / 4 < nodes → None ≡ neighbour nodes columns (k / 4) (k % 4) → x.grade ≡ 255 → ◌≡◌ {A = Option (Lane Class)} (Some (record { tail = k / 4; head = k / 4; cost = x })) (slice_get (grid nodes columns cells).lanes k)
  lane_leaving k x inside e cost = (λ i. Some (record { tail = k / 4; head = k / 4; cost = class_is x 255 cost i })) ∙ lane_is k None inside e

  -- the same, whether there is a neighbour or not
  pub lane_of : (k : ℕ) (to : Option ℕ) (x : Class) → k / 4 < nodes → to ≡ neighbour nodes columns (k / 4) (k % 4) → MatchOption to (x.grade ≡ 255) (λ w. x.grade ≡ get_or cells w 0) → ◌≡◌ {A = Option (Lane Class)} (Some (record { tail = k / 4; head = unwrap_or to (k / 4); cost = x })) (slice_get (grid nodes columns cells).lanes k)
  lane_of k None x inside e cost = lane_leaving k x inside e cost
  lane_of k (Some w) x inside e cost = lane_entering k w x inside e cost

  pub lane_past : (k : ℕ) → nodes ≤ k / 4 → slice_get (grid nodes columns cells).lanes k ≡ None
  lane_past k past = each_past lane 0 (4 * nodes) k (omega arith)

  pub tail_at : (k : ℕ) → (lane k).tail ≡ k / 4
  tail_at k = tail_is cells (k / 4) (neighbour nodes columns (k / 4) (k % 4))

  pub head_in : Rows nodes columns → (k : ℕ) → k < 4 * nodes → (lane k).head < nodes
  head_in rows k lt =
      let inside : k / 4 < nodes = omega arith in
      head_below cells (k / 4) nodes (neighbour nodes columns (k / 4) (k % 4)) inside (neighbour_in nodes columns rows (k / 4) inside (k % 4))

  abbrev out-list : ℕ → List ℕ
  out-list v = out_of (grid nodes columns cells) v

  abbrev four : ℕ → List ℕ
  four v = each (λ j. 4 * v + j) 0 4

  out_is : (v : ℕ) → v < nodes → out-list v ≡ four v
  out_is v inside =
      let tail : (j : ℕ) → j < 4 → (lane (4 * v + j)).tail ≡ v = λ j lt. tail_at (4 * v + j) ∙ omega arith in
      let listed : Listed (λ k. (lane k).tail) v 0 (4 * nodes) (four v) = (
        omega arith,
        omega arith,
        tail 0 (omega arith),
        (
          omega arith,
          omega arith,
          tail 1 (omega arith),
          (omega arith, omega arith, tail 2 (omega arith), (omega arith, omega arith, tail 3 (omega arith), tt)),
        ),
      ) in
      let all : (i : ℕ) → 0 ≤ i → i < 4 * nodes → (lane i).tail ≡ v → Among i (four v) =
      λ i low lt e.
      let here : i / 4 ≡ v = sym (tail_at i) ∙ e in
      ⊎_elim inl (λ (a : i ≡ 4 * v + 0 → ⊥). inr
      (⊎_elim inl (λ (b : i ≡ 4 * v + 1 → ⊥). inr
      (⊎_elim inl (λ (c : i ≡ 4 * v + 2 → ⊥). inr (inl (omega arith)))
      (cases_eq i (4 * v + 2)))) (cases_eq i (4 * v + 1)))) (cases_eq i (4 * v + 0)) in
      picked (λ l. l.tail) lane v (4 * nodes) 0 (4 * nodes) (four v) (omega arith) listed all

  out_at : (v j : ℕ) → v < nodes → j < 4 → slice_get (out-list v) j ≡ Some (4 * v + j)
  out_at v j inside lt = ap (λ l. slice_get l j) (out_is v inside) ∙ each_nth (λ i. 4 * v + i) 0 4 j j (omega arith) lt

  out_past : (v j : ℕ) → v < nodes → 4 ≤ j → slice_get (out-list v) j ≡ None
  out_past v j inside le = ap (λ l. slice_get l j) (out_is v inside) ∙ each_past (λ i. 4 * v + i) 0 4 j le

  out_outside : (v j : ℕ) → nodes ≤ v → slice_get (out-list v) j ≡ None
  out_outside v j past =
      let none : (i : ℕ) → 0 ≤ i → i < 4 * nodes → (lane i).tail ≡ v → ⊥ = λ i low lt e. let here : i / 4 ≡ v = sym (tail_at i) ∙ e in omega arith in
      ap (λ l. slice_get l j) (picked (λ l. l.tail) lane v (4 * nodes) 0 (4 * nodes) [] (omega arith) tt none)

  -- what is answered at a node, and elsewhere
  pub out_inside : (v j : ℕ) (r : Option ℕ) → v < nodes → is_some r ≡ ltb j 4 → IfSome r (λ k. k ≡ 4 * v + j) → r ≡ slice_get (out-list v) j
  out_inside v j None inside some is =
      ⊎_elim (λ (lt : j < 4). absurd (false≢true (some ∙ lt-ltb j 4 lt))) (λ (le : 4 ≤ j). sym (out_past v j inside le)) (cases_lt j 4)
  out_inside v j (Some k) inside some is = ap Some is ∙ sym (out_at v j inside (ltb-true j 4 (sym some)))

  pub out_elsewhere : (v j : ℕ) (r : Option ℕ) → nodes ≤ v → is_some r ≡ ltb v nodes → r ≡ slice_get (out-list v) j
  out_elsewhere v j None past some = sym (out_outside v j past)
  out_elsewhere v j (Some k) past some = absurd (false≢true (sym (le-ltb v nodes past) ∙ sym some))
