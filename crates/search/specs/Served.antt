-- What a shift replies to its calls, one after another, and the nodes that it writes: by what it has closed and the places taken.
use Rattle.std.specs.Prelude.{◌≡◌, ℕ, ◌+◌, ◌-◌, ◌≤◌, cond, List, [], ◌∷◌, ◌++◌, length, Some, None, Option, Ok, Err, nat_lt}
use Rattle.cost.specs.Kind.{Kind}
use Rattle.plant.specs.declared.layers.shift.ShiftFault.{ShiftFault}
use Rattle.plant.specs.Floor.{Floor}
use Rattle.plant.specs.Closed.{among, without, shut}
use Rattle.plant.specs.Shifted.{close_fault, reopen_fault}
use Rattle.search.specs.declared.call.Call.{Call}
use Rattle.search.specs.declared.call.Call.TheVariants.{Close, Reopen, One, Two}
use Rattle.search.specs.declared.fault.SearchFault.{SearchFault}
use Rattle.search.specs.declared.fault.SearchFault.TheVariants.{Replies}
use Rattle.search.specs.declared.reply.CallFault.TheVariants.{Search, Shift}
use Rattle.search.specs.declared.reply.Done.TheVariants.{Closed, Reopened, Searched as Told}
use Rattle.search.specs.declared.row.Row.{Row}
use Rattle.search.specs.Lists.{onto, onto_at}
use Rattle.search.specs.OneWay.{one_way, one_route}
use Rattle.search.specs.TwoWay.{two_way, two_route}
use Rattle.search.specs.Faults.{search_fault}
use Rattle.search.specs.Searched.{answer_of, nodes_of}
use Rattle.search.specs.Calls.{Reply, Areas}
use Rattle.search.specs.Life.{counts_of, rows_forward, rows_backward, too_short}

-- a reply, with the nodes and the rows that are written for it
pub record Made (C : Type 0) : Type 0 where
  pub reply : Reply C
  pub nodes : List ℕ
  pub near : List (Row C)
  pub far : List (Row C)

abbrev pub plain : {C : Type 0} → Reply C → Made C
plain r = record { reply = r; nodes = []; near = []; far = [] }

-- m, unless there is a fault
abbrev pub unless_shift : {C : Type 0} → Option ShiftFault → Made C → Made C
unless_shift None m = m
unless_shift (Some x) m = plain (Err (Shift x))

abbrev pub unless_search : {C : Type 0} → Option SearchFault → Made C → Made C
unless_search None m = m
unless_search (Some x) m = plain (Err (Search x))

-- the answer to a search of cost c, whose route is written from the place `at` on: a route, unless the cost is beyond
abbrev pub answer : {C : Type 0} → Kind C → Floor C → ℕ → Call → C → List ℕ → Made C
answer k F at call c nodes = record {
  reply = Ok (Told (answer_of k (counts_of k F call) c nodes) at);
  nodes = nodes_of k c nodes;
  near = rows_forward k F call;
  far = rows_backward k F call;
}

-- the reply to a call, where the lanes `closed` are closed and the places before `at` are taken
abbrev pub made : {C : Type 0} → Kind C → Floor C → Areas → List ℕ → ℕ → Call → Made C
made k f a closed at (Close n) = unless_shift (close_fault (length f.lanes) closed n) (plain (Ok (Closed n)))
made k f a closed at (Reopen n) = unless_shift (reopen_fault (length f.lanes) closed n) (plain (Ok (Reopened n)))
made k f a closed at (One s t) =
    let F = shut k (among closed) f in
    unless_search (search_fault f s t (too_short f a (a.places - at) (One s t))) (answer k F at (One s t) (one_way k F s t).cost (one_route k F s t))
made k f a closed at (Two s t) =
    let F = shut k (among closed) f in
    unless_search (search_fault f s t (too_short f a (a.places - at) (Two s t))) (answer k F at (Two s t) (two_way k F s t).met.cost (two_route k F s t))

-- a call was made as m says: its reply r, and what was written over the rows of either side and into the routes from `at` on
pub record Makes {C : Type 0} (m : Made C) (at : ℕ) (r : Reply C) (rows rows' back back' : List (Row C)) (routes routes' : List ℕ) : Type 0 where
  pub reply_is : r ≡ m.reply
  pub rows_are : rows' ≡ onto m.near rows
  pub back_are : back' ≡ onto m.far back
  pub routes_are : routes' ≡ onto_at at m.nodes routes
  pub fits : at + length m.nodes ≤ length routes

-- the closed lanes after a reply
abbrev pub closed_after : {C : Type 0} → List ℕ → Reply C → List ℕ
closed_after closed (Ok (Closed n)) = n ∷ closed
closed_after closed (Ok (Reopened n)) = without n closed
closed_after closed (Ok (Told a from)) = closed
closed_after closed (Err x) = closed

-- what calls in turn leave: the replies, the nodes written for them one after another, the lanes closed, and the rows of either side
pub record Served (C : Type 0) : Type 0 where
  pub replies : List (Reply C)
  pub routes : List ℕ
  pub closed : List ℕ
  pub near : List (Row C) → List (Row C)
  pub far : List (Row C) → List (Row C)

-- m, and then the rest
abbrev pub then_served : {C : Type 0} → Made C → Served C → Served C
then_served m s = record {
  replies = m.reply ∷ s.replies;
  routes = m.nodes ++ s.routes;
  closed = s.closed;
  near = λ rows. s.near (onto m.near rows);
  far = λ rows. s.far (onto m.far rows);
}

abbrev pub served_from : {C : Type 0} → Kind C → Floor C → Areas → List ℕ → ℕ → List Call → Served C
served_from k f a closed at [] = record { replies = []; routes = []; closed = closed; near = λ rows. rows; far = λ rows. rows }
served_from k f a closed at (c ∷ calls) =
    let m = made k f a closed at c in
    then_served m (served_from k f a (closed_after closed m.reply) (at + length m.nodes) calls)

-- the calls were made so: what stands in the lists of replies and routes and in the rows of either side afterwards
pub record AllMade {C : Type 0} (s : Served C) (replies replies' : List (Reply C)) (routes routes' : List ℕ) (rows rows' back back' : List (Row C)) : Type 0 where
  pub replies_are : replies' ≡ onto s.replies replies
  pub routes_are : routes' ≡ onto s.routes routes
  pub rows_are : rows' ≡ s.near rows
  pub back_are : back' ≡ s.far back

-- the list of replies is too short for so many calls
abbrev pub replies_fault : ℕ → ℕ → Option SearchFault
replies_fault calls places = cond (nat_lt places calls) (Some Replies) None

-- from a fresh shift on
abbrev pub served : {C : Type 0} → Kind C → Floor C → Areas → List Call → Served C
served k f a calls = served_from k f a [] 0 calls
