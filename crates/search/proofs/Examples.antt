-- Worked examples: both searches on a floor of four nodes, by computation.
use Rattle.std.proofs.Common.{◌≡◌, ℕ, ◌+◌, ◌-◌, min, max, leb, [], ◌∷◌, Some, None, refl}
use Rattle.std.specs.List.{slice_get}
use Rattle.cost.specs.Kind.{Kind}
use Rattle.plant.specs.declared.lane.Lane.{Lane}
use Rattle.plant.specs.Floor.{Floor}
use Rattle.search.specs.OneWay.{one_way, one_route}
use Rattle.search.specs.Steps.{count_scanned}
use Rattle.search.specs.TwoWay.{two_way, two_route}

-- the costs: plain numbers, whose sums stop at the greatest 32-bit number
abbrev top : ℕ
top = 4294967295

abbrev numbers : Kind ℕ
numbers = record { zero = 0; beyond = top; at_most = leb; join = λ a b. min (a + b) top; rest = λ a b. a - b }

-- the costs to the mark, which is node 3, and from it
abbrev to_mark : ℕ → ℕ
to_mark v = elim (slice_get (10 ∷ 6 ∷ 1 ∷ 0 ∷ []) v) [ None ↦ 0 | Some n ↦ n ]

abbrev from_mark : ℕ → ℕ
from_mark v = elim (slice_get (top ∷ top ∷ top ∷ 0 ∷ []) v) [ None ↦ 0 | Some n ↦ n ]

abbrev lane : ℕ → ℕ → ℕ → Lane ℕ
lane t h c = record { tail = t; head = h; cost = c }

abbrev floor : Floor ℕ
floor = record {
  nodes = 4;
  lanes = lane 0 1 4 ∷ lane 0 2 10 ∷ lane 1 2 5 ∷ lane 1 3 12 ∷ lane 2 3 1 ∷ [];
  bound = λ v w. max (to_mark v - to_mark w) (from_mark w - from_mark v);
}

one_cost : (one_way numbers floor 0 3).cost ≡ 10
one_cost = refl

one_count : count_scanned (one_way numbers floor 0 3).rows ≡ 3
one_count = refl

one_nodes : one_route numbers floor 0 3 ≡ 0 ∷ 1 ∷ 2 ∷ 3 ∷ []
one_nodes = refl

two_cost : (two_way numbers floor 0 3).met.cost ≡ 10
two_cost = refl

two_count : count_scanned (two_way numbers floor 0 3).near.rows ≡ 2
two_count = refl

two_count_back : count_scanned (two_way numbers floor 0 3).far.rows ≡ 1
two_count_back = refl

pub two_nodes : two_route numbers floor 0 3 ≡ 0 ∷ 1 ∷ 2 ∷ 3 ∷ []
two_nodes = refl

-- from a node to itself
self_cost : (two_way numbers floor 2 2).met.cost ≡ 0
self_cost = refl

self_nodes : two_route numbers floor 2 2 ≡ 2 ∷ []
self_nodes = refl

-- no way leads back
back_cost : (two_way numbers floor 3 0).met.cost ≡ top
back_cost = refl
