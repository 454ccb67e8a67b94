-- What a plant means: a count of nodes, a list of lanes, and a bound for each pair of nodes; and the laws of that.
use Rattle.std.specs.Prelude.{◌≡◌, ℕ, suc, ◌<◌, ◌≤◌, true, cond, ◌⊎◌, List, [], ◌∷◌, map, length, Some, ◌==◌}
use Rattle.std.specs.List.{slice_get}
use Rattle.cost.specs.Kind.{Kind}
use Rattle.plant.specs.declared.lane.Lane.{Lane}

-- lanes are numbered from 0, by their place in the list
pub record Floor (C : Type 0) : Type 0 where
  pub nodes : ℕ
  pub lanes : List (Lane C)
  pub bound : ℕ → ℕ → C

pub record FloorLaws {C : Type 0} (k : Kind C) (f : Floor C) : Type 0 where
  pub some_node : 0 < f.nodes
  pub few_nodes : f.nodes ≤ 4096
  pub few_lanes : length f.lanes ≤ 16384
  pub tail_node : (i : ℕ) (l : Lane C) → slice_get f.lanes i ≡ Some l → l.tail < f.nodes
  pub head_node : (i : ℕ) (l : Lane C) → slice_get f.lanes i ≡ Some l → l.head < f.nodes
  pub bound_self : (v : ℕ) → v < f.nodes → f.bound v v ≡ k.zero
  -- no lane makes a bound fall by more than its cost, seen from either end
  pub bound_out : (i : ℕ) (l : Lane C) (z : ℕ) → slice_get f.lanes i ≡ Some l → z < f.nodes → k.at_most (f.bound l.tail z) (k.join l.cost (f.bound l.head z)) ≡ true
  pub bound_in : (i : ℕ) (l : Lane C) (z : ℕ) → slice_get f.lanes i ≡ Some l → z < f.nodes → k.at_most (f.bound z l.head) (k.join (f.bound z l.tail) l.cost) ≡ true
  pub bound_outside : (v w : ℕ) → (f.nodes ≤ v) ⊎ (f.nodes ≤ w) → f.bound v w ≡ k.zero

-- the numbers, from `from` on, of the lanes of ls that are at v by `at`, by rising number
abbrev pub at_from : {C : Type 0} → (Lane C → ℕ) → ℕ → List (Lane C) → ℕ → List ℕ
at_from at from [] v = []
at_from at from (l ∷ ls) v = cond (at l == v) (from ∷ at_from at (suc from) ls v) (at_from at (suc from) ls v)

abbrev pub out_of : {C : Type 0} → Floor C → ℕ → List ℕ
out_of f v = at_from (λ l. l.tail) 0 f.lanes v

abbrev pub into_of : {C : Type 0} → Floor C → ℕ → List ℕ
into_of f v = at_from (λ l. l.head) 0 f.lanes v

abbrev pub turn : {C : Type 0} → Lane C → Lane C
turn l = record { tail = l.head; head = l.tail; cost = l.cost }

-- every lane and every bound the other way round
abbrev pub turned : {C : Type 0} → Floor C → Floor C
turned f = record { nodes = f.nodes; lanes = map turn f.lanes; bound = λ v w. f.bound w v }

-- the same lanes, and every bound zero
abbrev pub blinded : {C : Type 0} → Kind C → Floor C → Floor C
blinded k f = record { nodes = f.nodes; lanes = f.lanes; bound = λ v w. k.zero }
