-- What a fault of a search, or of a call on a shift, is told as: its number, and the node or lane where one is named.
use Rattle.std.specs.Prelude.{ℕ}
use Rattle.plant.specs.declared.refusal.Refusal.{Refusal}
use Rattle.plant.specs.declared.refusal.Layer.TheVariants.{Search}
use Rattle.plant.specs.Shifted.{refusal_of as shift_refusal_of}
use Rattle.search.specs.declared.fault.SearchFault.{SearchFault}
use Rattle.search.specs.declared.fault.SearchFault.TheVariants.{Start, Goal, Rows, Queue, Route, Costs, Replies}
use Rattle.search.specs.declared.reply.CallFault.{CallFault}
use Rattle.search.specs.declared.reply.CallFault.TheVariants.{Search as search_fault, Shift as shift_fault}

abbrev told : ℕ → ℕ → Refusal
told n place = record { number = n; layer = Search; first = place; second = 0 }

abbrev pub refusal_of : SearchFault → Refusal
refusal_of (Start v) = told 7 v
refusal_of (Goal v) = told 7 v
refusal_of Rows = told 8 0
refusal_of Queue = told 8 0
refusal_of Route = told 8 0
refusal_of Costs = told 8 0
refusal_of Replies = told 8 0

abbrev pub call_refusal_of : CallFault → Refusal
call_refusal_of (search_fault x) = refusal_of x
call_refusal_of (shift_fault x) = shift_refusal_of x
