-- Walks with their costs: joining them, turning them round, and what bounds them from below.
use Rattle.std.proofs.Common.{◌≡◌, ℕ, ◌<◌, List, [], ◌∷◌, ◌++◌, Some, sym, refl, ap, ◌∙◌, subst}
use Rattle.std.specs.List.{slice_get}
use Rattle.cost.specs.Kind.{Kind, Laws}
use Rattle.plant.specs.declared.lane.Lane.{Lane}
use Rattle.plant.specs.Floor.{Floor, FloorLaws, turned, turn}
use Rattle.plant.specs.Walk.{Walk, walk_cost, lane_cost}
use Rattle.plant.specs.FloorFacts.{lane_turned, turned_twice}
use Rattle.search.specs.Order.{Le, le_trans, le_eq, le_mono_right, zero_join}

-- a walk from v to z that costs c
pub record Trek {C : Type 0} (k : Kind C) (f : Floor C) (v z : ℕ) (c : C) : Type 0 where
  pub lanes : List ℕ
  pub walk : Walk f v lanes z
  pub costs : walk_cost k f lanes ≡ c

pub walk-append : {C : Type 0} (f : Floor C) (is js : List ℕ) (v w z : ℕ) → Walk f v is w → Walk f w js z → Walk f v (is ++ js) z
walk-append f [] js v w z e h = subst (λ x. Walk f x js z) (sym e) h
walk-append f (i ∷ is) js v w z h j = (h.0, h.1, h.2, walk-append f is js h.0.head w z h.3 j)

module _ {C : Type 0} (k : Kind C) (laws : Laws k) where
  pub cost_append : (f : Floor C) (is js : List ℕ) → walk_cost k f (is ++ js) ≡ k.join (walk_cost k f is) (walk_cost k f js)
  cost_append f [] js = sym (zero_join k laws _)
  cost_append f (i ∷ is) js = ap (k.join (lane_cost k (slice_get f.lanes i))) (cost_append f is js) ∙ sym (laws.join_assoc _ _ _)

  pub trek_none : (f : Floor C) (v : ℕ) → Trek k f v v k.zero
  trek_none f v = record { lanes = []; walk = refl; costs = refl }

  pub trek_append : {f : Floor C} {v w z : ℕ} {a b : C} → Trek k f v w a → Trek k f w z b → Trek k f v z (k.join a b)
  trek_append {f} {v} {w} {z} {a} {b} s t = record {
    lanes = s.lanes ++ t.lanes;
    walk = walk-append f s.lanes t.lanes v w z s.walk t.walk;
    costs = cost_append f s.lanes t.lanes ∙ (ap (λ x. k.join x (walk_cost k f t.lanes)) s.costs ∙ ap (k.join a) t.costs);
  }

  pub trek_lane : (f : Floor C) (i : ℕ) (l : Lane C) → slice_get f.lanes i ≡ Some l → Trek k f l.tail l.head l.cost
  trek_lane f i l e = record { lanes = i ∷ []; walk = (l, e, refl, refl); costs = laws.join_zero _ ∙ ap (lane_cost k) e }

  pub trek_same : {f : Floor C} {v z : ℕ} {a b : C} → Trek k f v z a → a ≡ b → Trek k f v z b
  trek_same {f} {v} {z} t e = subst (λ x. Trek k f v z x) e t

  pub walk_turned : (f : Floor C) (is : List ℕ) (v z : ℕ) → Walk f v is z → Trek k (turned f) z v (walk_cost k f is)
  walk_turned f [] v z e = subst (λ x. Trek k (turned f) x v k.zero) e (trek_none (turned f) v)
  walk_turned f (i ∷ is) v z h =
      let l = h.0 in
      let rest = walk_turned f is l.head z h.3 in
      let here : Trek k (turned f) l.head v l.cost = subst (λ x. Trek k (turned f) l.head x l.cost) h.2 (trek_lane (turned f) i (turn l) (lane_turned f.lanes i l h.1)) in
      trek_same (trek_append rest here) (laws.join_comm _ _ ∙ ap (λ o. k.join (lane_cost k o) (walk_cost k f is)) (sym h.1))

  pub trek_turned : {f : Floor C} {v z : ℕ} {c : C} → Trek k f v z c → Trek k (turned f) z v c
  trek_turned {f} {v} {z} t = trek_same (walk_turned f t.lanes v z t.walk) t.costs

  pub trek_unturned : {f : Floor C} {v z : ℕ} {c : C} → Trek k (turned f) v z c → Trek k f z v c
  trek_unturned {f} {v} {z} {c} t = subst (λ x. Trek k x z v c) (turned_twice f) (trek_turned t)

  -- the bound from v falls along a walk by at most its cost
  pub walk_bound : (f : Floor C) → FloorLaws k f → (t : ℕ) → t < f.nodes → (is : List ℕ) (v z : ℕ) → Walk f v is z → Le k (f.bound v t) (k.join (walk_cost k f is) (f.bound z t))
  walk_bound f fl t ht [] v z e = le_eq k laws (ap (λ x. f.bound x t) e ∙ sym (zero_join k laws _))
  walk_bound f fl t ht (i ∷ is) v z h =
      let l = h.0 in
      let one : Le k (f.bound v t) (k.join l.cost (f.bound l.head t)) = subst (λ x. Le k (f.bound x t) (k.join l.cost (f.bound l.head t))) h.2 (fl.bound_out i l t h.1 ht) in
      let more = le_mono_right k laws l.cost (walk_bound f fl t ht is l.head z h.3) in
      le_trans k laws (le_trans k laws one more) (le_eq k laws (sym (laws.join_assoc _ _ _) ∙ ap (λ o. k.join (k.join (lane_cost k o) (walk_cost k f is)) (f.bound z t)) (sym h.1)))

  pub trek_bound : {f : Floor C} {v z : ℕ} {c : C} → FloorLaws k f → z < f.nodes → Trek k f v z c → Le k (f.bound v z) c
  trek_bound {f} {v} {z} {c} fl hz t =
      le_trans k laws (walk_bound f fl z hz t.lanes v z t.walk) (le_eq k laws (ap (k.join (walk_cost k f t.lanes)) (fl.bound_self z hz) ∙ (laws.join_zero _ ∙ t.costs)))
