-- The survey: the one-way steps with every bound zero and no goal, until no node is left to scan.
use Rattle.std.specs.Prelude.{ℕ, zero, suc, List, Some, None}
use Rattle.cost.specs.Kind.{Kind}
use Rattle.plant.specs.Floor.{Floor, blinded}
use Rattle.search.specs.declared.row.Row.{Row}
use Rattle.search.specs.Steps.{in_reach, pick, scan, start_rows}

-- at most n steps from the rows on
abbrev pub survey_from : {C : Type 0} → Kind C → Floor C → ℕ → List (Row C) → List (Row C)
survey_from k f zero rows = rows
survey_from k f (suc n) rows = elim (pick k f 0 (in_reach k) rows) [ None ↦ rows | Some e ↦ survey_from k f n (scan k f rows e.node) ]

abbrev pub survey : {C : Type 0} → Kind C → Floor C → ℕ → List (Row C)
survey k f start = survey_from k (blinded k f) (suc f.nodes) (start_rows k f start)
