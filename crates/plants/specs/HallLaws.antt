-- The floor of a hall keeps the laws.
use Rattle.std.proofs.Common.{◌≡◌, ℕ, ◌*◌, ◌/◌, ◌%◌, ◌<◌, ◌≤◌, min, true, cond, ◌&&◌, eqb, ltb, ◌⊎◌, List, get_or, Some, None, Option, sym, refl, ap, ◌∙◌, subst, ⊎_elim, arith}
use Rattle.std.specs.List.{slice_get}
use Rattle.std.proofs.lemmas.Bool.{cases_eq, and_from, and_left, and_right, lt-ltb, le-ltb, le-leb, eq-eqb, ne_eqb, cond-true, cond-false, cond_both}
use Rattle.cost.specs.declared.class.Class.{Class}
use Rattle.cost.specs.Class.{class_kind}
use Rattle.cost.specs.Classes.{same_class}
use Rattle.plant.specs.declared.lane.Lane.{Lane}
use Rattle.plant.specs.Floor.{FloorLaws}
use Rattle.plants.specs.Hall.{class_of, neighbour, lane_to, hall_lane, hall_bound, grid}
use Rattle.plants.specs.Numbered.{each_length, each_from}
use Rattle.plants.specs.HallSides.{Rows}
use Rattle.plants.specs.HallLanes.{tail_at, head_in}

-- a lane costs no less than the byte of its head
enters : (cells : List ℕ) (v : ℕ) (to : Option ℕ) → min (get_or cells (lane_to cells v to).head 0) 255 ≤ (lane_to cells v to).cost.grade
enters cells v None = omega arith
enters cells v (Some w) = omega arith

module _ (nodes : ℕ) (cells : List ℕ) (v w : ℕ) where
  pub bound_none : (nodes ≤ v) ⊎ (nodes ≤ w) → hall_bound nodes cells v w ≡ class_of 0
  bound_none past =
      cond-false (ltb v nodes && ltb w nodes) _ _
      (⊎_elim (λ le. and_left (ltb v nodes) (ltb w nodes) (le-ltb v nodes le)) (λ le. and_right (ltb v nodes) (ltb w nodes) (le-ltb w nodes le)) past)

  pub bound_same : v ≡ w → hall_bound nodes cells v w ≡ class_of 0
  bound_same e =
      cond_both (ltb v nodes && ltb w nodes) (cond (eqb v w) (class_of 0) (class_of (get_or cells w 0))) (class_of 0) (λ x. x ≡ class_of 0)
      (λ h. cond-true (eqb v w) (class_of 0) (class_of (get_or cells w 0)) (eq-eqb v w e)) (λ h. refl)

  pub bound_other : v < nodes → w < nodes → (v ≡ w → ⊥) → hall_bound nodes cells v w ≡ class_of (get_or cells w 0)
  bound_other lv lw ne =
      cond-true (ltb v nodes && ltb w nodes) _ _ (and_from _ _ (lt-ltb v nodes lv) (lt-ltb w nodes lw)) ∙ cond-false (eqb v w) _ _ (ne_eqb v w ne)

  bound_most : (hall_bound nodes cells v w).grade ≤ min (get_or cells w 0) 255
  bound_most =
      cond_both (ltb v nodes && ltb w nodes) (cond (eqb v w) (class_of 0) (class_of (get_or cells w 0))) (class_of 0) (λ (x : Class). x.grade ≤ min (get_or cells w 0) 255)
      (λ h. cond_both (eqb v w) (class_of 0) (class_of (get_or cells w 0)) (λ (x : Class). x.grade ≤ min (get_or cells w 0) 255) (λ e. omega arith) (λ e. omega arith))
      (λ h. omega arith)

record Sound (nodes : ℕ) (cells : List ℕ) (l : Lane Class) : Type 0 where
  from : l.tail < nodes
  to : l.head < nodes
  enough : min (get_or cells l.head 0) 255 ≤ l.cost.grade

module _ (nodes columns : ℕ) (cells : List ℕ) (rows : Rows nodes columns) where
  sound : (i : ℕ) (l : Lane Class) → slice_get (grid nodes columns cells).lanes i ≡ Some l → Sound nodes cells l
  sound i l e =
      let found = each_from (hall_lane nodes columns cells) 0 (4 * nodes) i i l (omega arith) e in
      let lt = found.0 in
      subst (Sound nodes cells) (sym found.1) (record {
        from = let is = tail_at nodes columns cells i in omega arith;
        to = head_in nodes columns cells rows i lt;
        enough = enters cells (i / 4) (neighbour nodes columns (i / 4) (i % 4));
      })

  -- from the head the bound is the whole byte of z, unless the head is z, which the lane then enters
  out_holds : (l : Lane Class) (z : ℕ) → Sound nodes cells l → z < nodes → class_kind.at_most (hall_bound nodes cells l.tail z) (class_kind.join l.cost (hall_bound nodes cells l.head z)) ≡ true
  out_holds l z s lz =
      let most = bound_most nodes cells l.tail z in
      ⊎_elim
      (λ (e : l.head ≡ z).
      let enough = subst (λ u. min (get_or cells u 0) 255 ≤ l.cost.grade) e s.enough in
      le-leb _ _ (omega arith))
      (λ (ne : l.head ≡ z → ⊥).
      let other = ap (λ (x : Class). x.grade) (bound_other nodes cells l.head z s.to lz ne) in
      le-leb _ _ (omega arith))
      (cases_eq l.head z)

  in_holds : (l : Lane Class) (z : ℕ) → Sound nodes cells l → class_kind.at_most (hall_bound nodes cells z l.head) (class_kind.join (hall_bound nodes cells z l.tail) l.cost) ≡ true
  in_holds l z s = let enough = s.enough in le-leb _ _ (omega (arith, bound_most nodes cells z l.head))

  pub hall_laws : FloorLaws class_kind (grid nodes columns cells)
  hall_laws = record {
    some_node = omega (arith, rows.some, rows.wide);
    few_nodes = rows.few;
    few_lanes = omega (arith, each_length (hall_lane nodes columns cells) 0 (4 * nodes), rows.few);
    tail_node = λ i l e. (sound i l e).from;
    head_node = λ i l e. (sound i l e).to;
    bound_self = λ v lt. bound_same nodes cells v v refl ∙ same_class _ _ refl;
    bound_out = λ i l z e lz. out_holds l z (sound i l e) lz;
    bound_in = λ i l z e lz. in_holds l z (sound i l e);
    bound_outside = λ v w past. bound_none nodes cells v w past ∙ same_class _ _ refl;
  }
