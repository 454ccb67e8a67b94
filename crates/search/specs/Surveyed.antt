-- What a call of the survey answers and leaves.
use Rattle.std.specs.Prelude.{◌≡◌, ℕ, ◌<◌, List, map, take, drop, Some, Option}
use Rattle.std.specs.List.{slice_get}
use Rattle.std.specs.Option.{option_or}
use Rattle.cost.specs.Kind.{Kind}
use Rattle.plant.specs.Floor.{Floor}
use Rattle.plant.specs.Walk.{Least}
use Rattle.search.specs.declared.row.Row.{Row}
use Rattle.search.specs.declared.fault.SearchFault.{SearchFault}
use Rattle.search.specs.declared.fault.SearchFault.TheVariants.{Start, Rows, Costs}
use Rattle.search.specs.Faults.{node_fault, room_fault, queue_fault}
use Rattle.search.specs.Lists.{onto}
use Rattle.search.specs.Steps.{count_scanned, label_of}
use Rattle.search.specs.Survey.{survey}

-- the first thing that is wrong with a call, by how many rows, entries and costs it lends
abbrev pub survey_fault : {C : Type 0} → Floor C → ℕ → ℕ → ℕ → ℕ → Option SearchFault
survey_fault f start rows entries costs =
    option_or (node_fault f start (Start start)) (option_or (room_fault f rows Rows) (option_or (queue_fault f entries) (room_fault f costs Costs)))

-- by the steps: the first rows, the count and the costs are theirs, and what is past them is as it was
pub record Surveyed {C : Type 0} (k : Kind C) (f : Floor C) (start : ℕ) (rows rows' : List (Row C)) (costs costs' : List C) (n : ℕ) : Type 0 where
  pub rows_are : take f.nodes rows' ≡ survey k f start
  pub rows_past : drop f.nodes rows' ≡ drop f.nodes rows
  pub count_is : n ≡ count_scanned (survey k f start)
  pub costs_are : costs' ≡ onto (map label_of (survey k f start)) costs

-- by walks: each node's cost is the least from the start
abbrev pub CostsLeast : {C : Type 0} → Kind C → Floor C → ℕ → List C → Type 0
CostsLeast {C} k f start costs = (v : ℕ) (c : C) → v < f.nodes → slice_get costs v ≡ Some c → Least k f start v c
