-- A command's line, from its tokens.
use Rattle.std.proofs.Common.{◌≡◌, ℕ, List, Some, None}
use Rattle.search.specs.declared.call.Call.{Call}
use Rattle.format.specs.Commands.{command_of, command_line}
use Rattle.format.specs.Form.{Token}
use Rattle.format.specs.Turns.{Fault, got, lost, tokens}

pub command_lost : (n : ℕ) (t : List ℕ) (e : Fault) → tokens n t ≡ lost e → command_line n t ≡ lost e
unfolding command_line
command_lost n t e q = rw q

pub command_other : (n : ℕ) (t rest : List ℕ) (ts : List Token) → tokens n t ≡ got ts rest → command_of ts ≡ None → command_line n t ≡ lost (record { number = 14; first = n; second = 0; at = 0 })
unfolding command_line
command_other n t rest ts q e = rw (q, e)

pub command_got : (n : ℕ) (t rest : List ℕ) (ts : List Token) (a : Call) → tokens n t ≡ got ts rest → command_of ts ≡ Some a → command_line n t ≡ got a rest
unfolding command_line
command_got n t rest ts a q e = rw (q, e)
