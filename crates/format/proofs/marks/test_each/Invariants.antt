use Rattle.std.proofs.Common.{◌≡◌, List, length, drop}
use Rattle.format.specs.Plain.{Mark}
use Rattle.format.specs.Reads.{MarksAt}
use Rattle.format.specs.Judged.{marks_fault}
use Rattle.format.proofs.marks.test_each.Given as goal

-- the landmarks that are left give the fault of all
abbrev pub invariant-loop-landmark : goal.invariant-loop-landmark
invariant-loop-landmark l =
    (ms : List Mark) → MarksAt (length l.initial.to) ms l.marks → length l.initial.from ≡ length l.initial.to →
    marks_fault l.lanes.tails.now l.lanes.heads.now l.lanes.costs.now l.landmark (drop l.landmark ms) ≡ marks_fault l.lanes.tails.now l.lanes.heads.now l.lanes.costs.now 0 ms
