-- The one-way search: scan the first node by key until the goal is the first, or none is left.
use Rattle.std.specs.Prelude.{ℕ, zero, suc, true, false, List, [], Some, None, ◌==◌}
use Rattle.cost.specs.Kind.{Kind}
use Rattle.plant.specs.Floor.{Floor}
use Rattle.search.specs.declared.row.Row.{Row}
use Rattle.search.specs.Steps.{in_reach, pick, scan, start_rows, trace}

pub record Found (C : Type 0) : Type 0 where
  pub rows : List (Row C)
  pub cost : C

-- at most n steps from the rows on; a cost of beyond where no key below beyond is left
abbrev pub one_from : {C : Type 0} → Kind C → Floor C → ℕ → ℕ → List (Row C) → Found C
one_from k f goal zero rows = record { rows = rows; cost = k.beyond }
one_from {C} k f goal (suc n) rows =
    elim (pick k f goal (in_reach k) rows) [
      | None ↦ record { rows = rows; cost = k.beyond }
      | Some e ↦ elim (e.node == goal) [ true ↦ record { rows = rows; cost = e.label } | false ↦ one_from k f goal n (scan k f rows e.node) ]
    ]

abbrev pub one_way : {C : Type 0} → Kind C → Floor C → ℕ → ℕ → Found C
one_way k f start goal = one_from k f goal (suc f.nodes) (start_rows k f start)

abbrev pub one_route : {C : Type 0} → Kind C → Floor C → ℕ → ℕ → List ℕ
one_route k f start goal = trace k f start (one_way k f start goal).rows f.nodes goal []
