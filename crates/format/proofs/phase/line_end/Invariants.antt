use Rattle.std.proofs.Common.{◌≡◌, ◌+◌, drop}
use Rattle.format.specs.Walk.{walk, line_walk}
use Rattle.format.proofs.phase.line_end.Given as goal

-- the rest of the line is walked from here
abbrev pub invariant-loop-i : goal.invariant-loop-i
invariant-loop-i l = line_walk l.rest ≡ walk l.phase (l.i + 1) (drop l.i l.rest)
