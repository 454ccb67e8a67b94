-- What a call of the one-way search answers and leaves.
use Rattle.std.specs.Prelude.{◌≡◌, ℕ, cond, List, [], length, take, drop, Some, None, Option}
use Rattle.cost.specs.Kind.{Kind}
use Rattle.plant.specs.Floor.{Floor}
use Rattle.search.specs.declared.row.Row.{Row}
use Rattle.search.specs.declared.answer.Answer.{Answer}
use Rattle.search.specs.declared.answer.Route.{Route}
use Rattle.search.specs.declared.fault.SearchFault.{SearchFault}
use Rattle.search.specs.Faults.{one_short, search_fault}
use Rattle.search.specs.Lists.{onto}
use Rattle.search.specs.Steps.{count_scanned}
use Rattle.search.specs.OneWay.{one_way, one_route}

-- the first thing that is wrong with a call, by how many rows, entries and route places it lends
abbrev pub fault_of : {C : Type 0} → Floor C → ℕ → ℕ → ℕ → ℕ → ℕ → Option SearchFault
fault_of f start goal rows entries places = search_fault f start goal (one_short f rows entries places)

-- what a search answers that scans so many and comes to the cost c over these nodes: a route, unless the cost is beyond
abbrev pub answer_of : {C N : Type 0} → Kind C → N → C → List ℕ → Answer C N
answer_of k scanned c nodes = record { scanned = scanned; route = cond (k.at_most k.beyond c) None (Some (record { cost = c; nodes = length nodes })) }

-- the nodes that it writes: none where the cost is beyond
abbrev pub nodes_of : {C : Type 0} → Kind C → C → List ℕ → List ℕ
nodes_of k c nodes = cond (k.at_most k.beyond c) [] nodes

abbrev pub one_answer : {C : Type 0} → Kind C → Floor C → ℕ → ℕ → Answer C ℕ
one_answer k f start goal = answer_of k (count_scanned (one_way k f start goal).rows) (one_way k f start goal).cost (one_route k f start goal)

abbrev pub one_nodes : {C : Type 0} → Kind C → Floor C → ℕ → ℕ → List ℕ
one_nodes k f start goal = nodes_of k (one_way k f start goal).cost (one_route k f start goal)

-- by the steps: the first rows, the answer and the route are theirs, and what is past them is as it was
pub record Searched {C : Type 0} (k : Kind C) (f : Floor C) (start goal : ℕ) (rows rows' : List (Row C)) (route route' : List ℕ) (a : Answer C ℕ) : Type 0 where
  pub rows_are : take f.nodes rows' ≡ (one_way k f start goal).rows
  pub rows_past : drop f.nodes rows' ≡ drop f.nodes rows
  pub answer_is : a ≡ one_answer k f start goal
  pub route_is : route' ≡ onto (one_nodes k f start goal) route

-- what an answer tells of its route: the cost, and how many nodes
abbrev pub cost_told : {C : Type 0} → Kind C → Option (Route C) → C
cost_told k None = k.beyond
cost_told k (Some r) = r.cost

abbrev pub count_told : {C : Type 0} → Option (Route C) → ℕ
count_told None = 0
count_told (Some r) = r.nodes

abbrev pub cost_of : {C N : Type 0} → Kind C → Answer C N → C
cost_of k a = cost_told k a.route

abbrev pub node_count_of : {C N : Type 0} → Answer C N → ℕ
node_count_of a = count_told a.route
