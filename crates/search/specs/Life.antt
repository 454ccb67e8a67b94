-- The life of a shift: what the reply to each of its calls is held to, in the words of calls, walks and costs.
use Rattle.std.specs.Prelude.{◌≡◌, ℕ, ◌-◌, ◌<◌, ◌≤◌, ◌↔◌, List, [], length, take, drop, Some, None, Option, Ok, Err, ◌≢◌}
use Rattle.std.specs.List.{slice_get}
use Rattle.cost.specs.Kind.{Kind}
use Rattle.plant.specs.declared.layers.shift.ShiftFault.TheVariants.{NoLane, Closed as closed_already, Full as closed_64, Open as not_closed}
use Rattle.plant.specs.Floor.{Floor}
use Rattle.plant.specs.Walk.{NoneBelow}
use Rattle.search.specs.declared.call.Call.{Call}
use Rattle.search.specs.declared.call.Call.TheVariants.{Close, Reopen, One, Two}
use Rattle.search.specs.declared.fault.SearchFault.{SearchFault}
use Rattle.search.specs.declared.fault.SearchFault.TheVariants.{Start, Goal}
use Rattle.search.specs.declared.reply.CallFault.TheVariants.{Search, Shift}
use Rattle.search.specs.declared.answer.Counts.{Counts}
use Rattle.search.specs.declared.reply.Done.TheVariants.{Closed, Reopened, Searched as Told}
use Rattle.search.specs.declared.row.Row.{Row}
use Rattle.search.specs.declared.row.State.TheVariants.{Scanned}
use Rattle.search.specs.Lists.{In, Distinct}
use Rattle.search.specs.Rows.{row_at}
use Rattle.search.specs.Steps.{count_scanned}
use Rattle.search.specs.OneWay.{one_way}
use Rattle.search.specs.TwoWay.{two_way}
use Rattle.search.specs.Answer.{RouteOf, AllBeyond, WorthForward, WorthBackward}
use Rattle.search.specs.Faults.{one_short, two_short}
use Rattle.search.specs.Calls.{Reply, Event, past, taken, Areas}
use Rattle.search.specs.Moment.{Shut, Fewer, Full, Moment}

-- a close is accepted exactly when the lane exists, is not shut, and fewer than 64 are shut
pub data CloseRight {C : Type 0} (f : Floor C) (events : List (Event C)) (n : ℕ) (r : Reply C) : Type 0 where
  accepted : n < length f.lanes → (Shut events n → ⊥) → Fewer events → r ≡ Ok (Closed n) → CloseRight f events n r
  lane_missing : length f.lanes ≤ n → r ≡ Err (Shift (NoLane n)) → CloseRight f events n r
  lane_shut : n < length f.lanes → Shut events n → r ≡ Err (Shift (closed_already n)) → CloseRight f events n r
  shift_full : n < length f.lanes → (Shut events n → ⊥) → Full events → r ≡ Err (Shift (closed_64 n)) → CloseRight f events n r

-- a reopen is accepted exactly when the lane exists and is shut
pub data ReopenRight {C : Type 0} (f : Floor C) (events : List (Event C)) (n : ℕ) (r : Reply C) : Type 0 where
  accepted : n < length f.lanes → Shut events n → r ≡ Ok (Reopened n) → ReopenRight f events n r
  lane_missing : length f.lanes ≤ n → r ≡ Err (Shift (NoLane n)) → ReopenRight f events n r
  lane_open : n < length f.lanes → (Shut events n → ⊥) → r ≡ Err (Shift (not_closed n)) → ReopenRight f events n r

-- the rows that a search's steps leave: those from its start, and those from its goal
abbrev pub rows_forward : {C : Type 0} → Kind C → Floor C → Call → List (Row C)
rows_forward k F (Close n) = []
rows_forward k F (Reopen n) = []
rows_forward k F (One s t) = (one_way k F s t).rows
rows_forward k F (Two s t) = (two_way k F s t).near.rows

abbrev pub rows_backward : {C : Type 0} → Kind C → Floor C → Call → List (Row C)
rows_backward k F (Close n) = []
rows_backward k F (Reopen n) = []
rows_backward k F (One s t) = []
rows_backward k F (Two s t) = (two_way k F s t).far.rows

-- how many nodes the search's steps mark scanned
abbrev pub counts_of : {C : Type 0} → Kind C → Floor C → Call → Counts
counts_of k F (Close n) = record { forward = 0; back = None }
counts_of k F (Reopen n) = record { forward = 0; back = None }
counts_of k F (One s t) = record { forward = count_scanned (rows_forward k F (One s t)); back = None }
counts_of k F (Two s t) = record { forward = count_scanned (rows_forward k F (Two s t)); back = Some (count_scanned (rows_backward k F (Two s t))) }

-- the nodes are those of a walk from s to t over open lanes that costs c, and none stands twice
pub record OpenRoute {C : Type 0} (k : Kind C) (F : Floor C) (events : List (Event C)) (s t : ℕ) (c : C) (nodes : List ℕ) : Type 0 where
  pub route : RouteOf k F s t c nodes
  pub open_lanes : (n : ℕ) → In n route.lanes → Shut events n → ⊥

-- the reply has a route, whose nodes stand in the list of routes after those told before, unless it is beyond
pub data Shown {C : Type 0} (k : Kind C) (F : Floor C) (events : List (Event C)) (routes : List ℕ) (call : Call) (s t : ℕ) (c : C) (r : Reply C) : Type 0 where
  by_route : (count : ℕ) → (c ≢ k.beyond) → OpenRoute k F events s t c (take count (drop (taken events) routes)) → r ≡ Ok (Told (record { scanned = counts_of k F call; route = Some (record { cost = c; nodes = count }) }) (taken events)) → Shown k F events routes call s t c r
  by_none : c ≡ k.beyond → r ≡ Ok (Told (record { scanned = counts_of k F call; route = None }) (taken events)) → Shown k F events routes call s t c r

-- what the reply to an accepted search from s to t, over the floor F at its moment, is held to
pub record Answered {C : Type 0} (k : Kind C) (F : Floor C) (events : List (Event C)) (routes : List ℕ) (call : Call) (s t : ℕ) (r : Reply C) : Type 0 where
  pub cost : C
  pub shown : Shown k F events routes call s t cost r
  -- no walk undercuts the answer
  pub optimal : NoneBelow k F s t cost
  -- the answer is beyond exactly when every walk costs beyond
  pub beyond : (cost ≡ k.beyond) ↔ AllBeyond k F s t
  -- each node that the search's steps mark scanned is worth it
  pub scans_forward : (v : ℕ) → (row_at k (rows_forward k F call) v).state ≡ Scanned → WorthForward k F s t cost v
  pub scans_backward : (v : ℕ) → (row_at k (rows_backward k F call) v).state ≡ Scanned → WorthBackward k F s t cost v

-- the first work area that is too short for a search, where so many places are left for its route
abbrev pub too_short : {C : Type 0} → Floor C → Areas → ℕ → Call → Option SearchFault
too_short f a left (Close n) = None
too_short f a left (Reopen n) = None
too_short f a left (One s t) = one_short f a.rows a.entries left
too_short f a left (Two s t) = two_short f a.rows a.back_rows a.entries a.back_entries left

-- a search is accepted exactly when its start and its goal are nodes and no work area is too short
pub data SearchRight {C : Type 0} (k : Kind C) (f : Floor C) (events : List (Event C)) (routes : List ℕ) (call : Call) (short : Option SearchFault) (s t : ℕ) (r : Reply C) : Type 0 where
  accepted : s < f.nodes → t < f.nodes → short ≡ None → (F : Floor C) → Moment k f events F → Answered k F events routes call s t r → SearchRight k f events routes call short s t r
  start_missing : f.nodes ≤ s → r ≡ Err (Search (Start s)) → SearchRight k f events routes call short s t r
  goal_missing : s < f.nodes → f.nodes ≤ t → r ≡ Err (Search (Goal t)) → SearchRight k f events routes call short s t r
  area_short : s < f.nodes → t < f.nodes → (x : SearchFault) → short ≡ Some x → r ≡ Err (Search x) → SearchRight k f events routes call short s t r

-- what the reply r to a call after the events is held to
abbrev pub ReplyRight : {C : Type 0} → Kind C → Floor C → Areas → List (Event C) → List ℕ → Call → Reply C → Type 0
ReplyRight k f a events routes (Close n) r = CloseRight f events n r
ReplyRight k f a events routes (Reopen n) r = ReopenRight f events n r
ReplyRight k f a events routes (One s t) r = SearchRight k f events routes (One s t) (too_short f a (a.places - taken events) (One s t)) s t r
ReplyRight k f a events routes (Two s t) r = SearchRight k f events routes (Two s t) (too_short f a (a.places - taken events) (Two s t)) s t r

-- each call has a reply, which is right after the calls before it; the routes stand in one list
pub record Life {C : Type 0} (k : Kind C) (f : Floor C) (a : Areas) (calls : List Call) (replies : List (Reply C)) (routes : List ℕ) : Type 0 where
  pub replied : length replies ≡ length calls
  pub each : (i : ℕ) (call : Call) (r : Reply C) → slice_get calls i ≡ Some call → slice_get replies i ≡ Some r → ReplyRight k f a (past calls replies i) routes call r

-- a shift has the lanes `shut` closed after the events: exactly those that are shut, each once, at most 64
pub record Held {C : Type 0} (events : List (Event C)) (shut : List ℕ) : Type 0 where
  pub exactly : (n : ℕ) → In n shut ↔ Shut events n
  pub distinct : Distinct shut
  pub few : length shut ≤ 64
