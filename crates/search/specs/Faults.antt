-- The tests of what a search is called with: each is the fault that it finds.
use Rattle.std.specs.Prelude.{ℕ, cond, length, Some, None, Option, nat_le, nat_lt}
use Rattle.std.specs.Option.{option_or}
use Rattle.plant.specs.Floor.{Floor}
use Rattle.search.specs.declared.fault.SearchFault.{SearchFault}
use Rattle.search.specs.declared.fault.SearchFault.TheVariants.{Start, Goal, Rows, Queue, Route}

-- v is no node
abbrev pub node_fault : {C : Type 0} → Floor C → ℕ → SearchFault → Option SearchFault
node_fault f v x = cond (nat_lt v f.nodes) None (Some x)

-- an area of n places is too short for the nodes
abbrev pub room_fault : {C : Type 0} → Floor C → ℕ → SearchFault → Option SearchFault
room_fault f n x = cond (nat_lt n f.nodes) (Some x) None

-- a queue of n places is too short for the lanes and the start
abbrev pub queue_fault : {C : Type 0} → Floor C → ℕ → Option SearchFault
queue_fault f n = cond (nat_le n (length f.lanes)) (Some Queue) None

-- the first area that is too short for a search from one end, and for one from both ends
abbrev pub one_short : {C : Type 0} → Floor C → ℕ → ℕ → ℕ → Option SearchFault
one_short f rows entries places = option_or (room_fault f rows Rows) (option_or (queue_fault f entries) (room_fault f places Route))

abbrev pub two_short : {C : Type 0} → Floor C → ℕ → ℕ → ℕ → ℕ → ℕ → Option SearchFault
two_short f rows back_rows entries back_entries places =
    option_or (room_fault f rows Rows) (option_or (room_fault f back_rows Rows) (option_or (queue_fault f entries) (option_or (queue_fault f back_entries) (room_fault f places Route))))

-- why a search from s to t is refused, where `short` is the first area that is too short
abbrev pub search_fault : {C : Type 0} → Floor C → ℕ → ℕ → Option SearchFault → Option SearchFault
search_fault f s t short = option_or (node_fault f s (Start s)) (option_or (node_fault f t (Goal t)) short)
