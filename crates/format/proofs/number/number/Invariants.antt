use Rattle.std.proofs.Common.{◌≡◌, ◌≤◌, drop}
use Rattle.format.specs.Items.{reads}
use Rattle.format.proofs.number.number.Given as goal

-- the digits that are left are read after n
abbrev pub invariant-loop-digit : goal.invariant-loop-digit
invariant-loop-digit l = (l.n ≤ 4294967294) × (reads 0 l.text ≡ reads l.n (drop l.digit-index l.text))
