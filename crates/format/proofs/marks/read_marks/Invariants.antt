use Rattle.std.proofs.Common.{◌+◌}
use Rattle.format.specs.Items.{mark_form}
use Rattle.format.specs.Reads.{MarksKept}
use Rattle.format.proofs.Kept.{Reading}
use Rattle.format.proofs.marks.read_marks.Given as goal

-- the landmarks below m are read and kept
abbrev pub invariant-loop-m : goal.invariant-loop-m
invariant-loop-m l =
    (r : Reading (mark_form l.counts.nodes) l.text l.from l.at l.counts.landmarks (2 + l.counts.lanes) l.m) × MarksKept l.counts.nodes r.xs l.initial.marks.items l.marks.items
