-- What an answer is held to, in the words of walks and their costs.
use Rattle.std.specs.Prelude.{◌≡◌, ℕ, ◌<◌, true, ◌↔◌, List, ◌≢◌}
use Rattle.cost.specs.Kind.{Kind}
use Rattle.plant.specs.Floor.{Floor}
use Rattle.plant.specs.Walk.{Walk, walk_cost, route, NoneBelow, Least}
use Rattle.search.specs.declared.row.Row.{Row}
use Rattle.search.specs.declared.row.State.TheVariants.{Scanned}
use Rattle.search.specs.Lists.{Distinct}
use Rattle.search.specs.Rows.{row_at}

-- the nodes are those of a walk from s to t that costs c, and none stands twice
pub record RouteOf {C : Type 0} (k : Kind C) (f : Floor C) (s t : ℕ) (c : C) (nodes : List ℕ) : Type 0 where
  pub lanes : List ℕ
  pub walk : Walk f s lanes t
  pub costs : walk_cost k f lanes ≡ c
  pub is : nodes ≡ route f s lanes
  pub distinct : Distinct nodes

-- every walk from s to t costs beyond
abbrev pub AllBeyond : {C : Type 0} → Kind C → Floor C → ℕ → ℕ → Type 0
AllBeyond k f s t = (is : List ℕ) → Walk f s is t → walk_cost k f is ≡ k.beyond

-- v is worth scanning from the start for an answer c: its least cost from s, joined with its bound to t, is at most c
abbrev pub WorthForward : {C : Type 0} → Kind C → Floor C → ℕ → ℕ → C → ℕ → Type 0
WorthForward {C} k f s t c v = (d : C) × Least k f s v d × (k.at_most (k.join d (f.bound v t)) c ≡ true)

-- v is worth scanning from the goal: its bound from s, joined with its least cost to t, is at most c
abbrev pub WorthBackward : {C : Type 0} → Kind C → Floor C → ℕ → ℕ → C → ℕ → Type 0
WorthBackward {C} k f s t c v = (d : C) × Least k f v t d × (k.at_most (k.join (f.bound s v) d) c ≡ true)

-- the answer c from s to t, with the nodes that are told and the rows that the search leaves
pub record Right {C : Type 0} (k : Kind C) (f : Floor C) (s t : ℕ) (c : C) (nodes : List ℕ) (rows : List (Row C)) : Type 0 where
  -- no walk costs less
  pub optimal : NoneBelow k f s t c
  pub route : (c ≢ k.beyond) → RouteOf k f s t c nodes
  pub beyond : (c ≡ k.beyond) ↔ AllBeyond k f s t
  -- only nodes that are worth it are scanned
  pub scans : (v : ℕ) → (row_at k rows v).state ≡ Scanned → WorthForward k f s t c v

-- the same of a search from both ends, with the rows that its two sides leave
pub record RightBoth {C : Type 0} (k : Kind C) (f : Floor C) (s t : ℕ) (c : C) (nodes : List ℕ) (near far : List (Row C)) : Type 0 where
  pub right : Right k f s t c nodes near
  pub scans_back : (v : ℕ) → (row_at k far v).state ≡ Scanned → WorthBackward k f s t c v

-- the rows that a survey from s leaves: each label is the least cost from s
pub record LabelsLeast {C : Type 0} (k : Kind C) (f : Floor C) (s : ℕ) (rows : List (Row C)) : Type 0 where
  pub labels : (v : ℕ) → Least k f s v (row_at k rows v).label

-- every two nodes have a least cost
abbrev pub LeastExist : {C : Type 0} → Kind C → Floor C → Type 0
LeastExist {C} k f = (v z : ℕ) → v < f.nodes → z < f.nodes → (c : C) × Least k f v z c
