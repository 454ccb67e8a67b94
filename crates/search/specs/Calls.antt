-- Calls with their replies: the past of a shift, the work areas lent to it, and the places that routes have taken.
use Rattle.std.specs.Prelude.{ℕ, zero, suc, ◌+◌, List, [], ◌∷◌, Result, Ok, Err}
use Rattle.search.specs.declared.call.Call.{Call}
use Rattle.search.specs.declared.reply.CallFault.{CallFault}
use Rattle.search.specs.declared.reply.Done.{Done}
use Rattle.search.specs.declared.reply.Done.TheVariants.{Closed, Reopened, Searched as Told}
use Rattle.search.specs.Searched.{node_count_of}

-- what a call has done, or why it is refused
abbrev pub Reply : Type 0 → Type 0
Reply C = Result (Done C) CallFault

-- a call and the reply to it
pub record Event (C : Type 0) : Type 0 where
  pub call : Call
  pub reply : Reply C

abbrev pub event : {C : Type 0} → Call → Reply C → Event C
event c r = record { call = c; reply = r }

-- the first i calls with their replies, the oldest first
abbrev pub past : {C : Type 0} → List Call → List (Reply C) → ℕ → List (Event C)
past calls replies zero = []
past [] replies (suc i) = []
past (c ∷ calls) [] (suc i) = []
past (c ∷ calls) (r ∷ replies) (suc i) = event c r ∷ past calls replies i

-- how many nodes of a route the reply tells
abbrev pub nodes_told : {C : Type 0} → Reply C → ℕ
nodes_told (Ok (Closed n)) = 0
nodes_told (Ok (Reopened n)) = 0
nodes_told (Ok (Told a from)) = node_count_of a
nodes_told (Err x) = 0

-- how many places of the list of routes are taken
abbrev pub taken : {C : Type 0} → List (Event C) → ℕ
taken [] = 0
taken (e ∷ events) = nodes_told e.reply + taken events

-- how long the work areas are: rows and queue entries of either side, and the list of routes
pub record Areas : Type 0 where
  pub rows : ℕ
  pub entries : ℕ
  pub back_rows : ℕ
  pub back_entries : ℕ
  pub places : ℕ

abbrev pub areas : ℕ → ℕ → ℕ → ℕ → ℕ → Areas
areas rows entries back_rows back_entries places = record { rows = rows; entries = entries; back_rows = back_rows; back_entries = back_entries; places = places }
