-- Walks over a floor, their routes and costs.
use Rattle.std.specs.Prelude.{◌≡◌, ℕ, true, ◌⊎◌, List, [], ◌∷◌, Some, None, Option}
use Rattle.std.specs.List.{slice_get}
use Rattle.cost.specs.Kind.{Kind}
use Rattle.plant.specs.declared.lane.Lane.{Lane}
use Rattle.plant.specs.Floor.{Floor}

-- the lanes, one after another, lead from v to z
abbrev pub Walk : {C : Type 0} → Floor C → ℕ → List ℕ → ℕ → Type 0
Walk f v [] z = v ≡ z
Walk {C} f v (i ∷ is) z = (l : Lane C) × (slice_get f.lanes i ≡ Some l) × (l.tail ≡ v) × Walk f l.head is z

abbrev pub lane_cost : {C : Type 0} → Kind C → Option (Lane C) → C
lane_cost k None = k.beyond
lane_cost k (Some l) = l.cost

abbrev pub walk_cost : {C : Type 0} → Kind C → Floor C → List ℕ → C
walk_cost k f [] = k.zero
walk_cost k f (i ∷ is) = k.join (lane_cost k (slice_get f.lanes i)) (walk_cost k f is)

abbrev pub lane_head : {C : Type 0} → Option (Lane C) → ℕ
lane_head None = 0
lane_head (Some l) = l.head

-- the heads of the lanes of a walk; its route is its start and then these
abbrev pub heads : {C : Type 0} → Floor C → List ℕ → List ℕ
heads f [] = []
heads f (i ∷ is) = lane_head (slice_get f.lanes i) ∷ heads f is

abbrev pub route : {C : Type 0} → Floor C → ℕ → List ℕ → List ℕ
route f v is = v ∷ heads f is

-- no walk from v to z costs less than c
abbrev pub NoneBelow : {C : Type 0} → Kind C → Floor C → ℕ → ℕ → C → Type 0
NoneBelow k f v z c = (is : List ℕ) → Walk f v is z → k.at_most c (walk_cost k f is) ≡ true

-- c is the smallest cost of a walk from v to z, or beyond where there is none
pub record Least {C : Type 0} (k : Kind C) (f : Floor C) (v z : ℕ) (c : C) : Type 0 where
  pub lower : NoneBelow k f v z c
  pub reached : (c ≡ k.beyond) ⊎ ((is : List ℕ) × Walk f v is z × (walk_cost k f is ≡ c))
