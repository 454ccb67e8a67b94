-- What a call of the two-way search answers and leaves.
use Rattle.std.specs.Prelude.{◌≡◌, ℕ, List, take, drop, Option}
use Rattle.cost.specs.Kind.{Kind}
use Rattle.plant.specs.Floor.{Floor}
use Rattle.search.specs.declared.row.Row.{Row}
use Rattle.search.specs.declared.answer.Answer.{Answer}
use Rattle.search.specs.declared.answer.Both.{Both}
use Rattle.search.specs.declared.fault.SearchFault.{SearchFault}
use Rattle.search.specs.Faults.{two_short, search_fault}
use Rattle.search.specs.Lists.{onto}
use Rattle.search.specs.Steps.{count_scanned}
use Rattle.search.specs.Searched.{answer_of, nodes_of}
use Rattle.search.specs.TwoWay.{two_way, two_route}

-- the first thing that is wrong with a call, by how many rows and entries it lends to each side, and how many route places
abbrev pub two_fault : {C : Type 0} → Floor C → ℕ → ℕ → ℕ → ℕ → ℕ → ℕ → ℕ → Option SearchFault
two_fault f start goal rows back_rows entries back_entries places = search_fault f start goal (two_short f rows back_rows entries back_entries places)

-- how many nodes each side's steps mark scanned
abbrev pub both_scanned : {C : Type 0} → Kind C → Floor C → ℕ → ℕ → Both
both_scanned k f start goal = record { forward = count_scanned (two_way k f start goal).near.rows; back = count_scanned (two_way k f start goal).far.rows }

abbrev pub two_answer : {C : Type 0} → Kind C → Floor C → ℕ → ℕ → Answer C Both
two_answer k f start goal = answer_of k (both_scanned k f start goal) (two_way k f start goal).met.cost (two_route k f start goal)

abbrev pub two_nodes : {C : Type 0} → Kind C → Floor C → ℕ → ℕ → List ℕ
two_nodes k f start goal = nodes_of k (two_way k f start goal).met.cost (two_route k f start goal)

-- by the turns: the first rows of both sides, the answer and the route are theirs, and what is past them is as it was
pub record SearchedBoth {C : Type 0} (k : Kind C) (f : Floor C) (start goal : ℕ) (rows rows' theirs theirs' : List (Row C)) (route route' : List ℕ) (a : Answer C Both) : Type 0 where
  pub rows_are : take f.nodes rows' ≡ (two_way k f start goal).near.rows
  pub rows_past : drop f.nodes rows' ≡ drop f.nodes rows
  pub back_are : take f.nodes theirs' ≡ (two_way k f start goal).far.rows
  pub back_past : drop f.nodes theirs' ≡ drop f.nodes theirs
  pub answer_is : a ≡ two_answer k f start goal
  pub route_is : route' ≡ onto (two_nodes k f start goal) route
