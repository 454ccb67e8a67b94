use Rattle.std.proofs.Common.{◌≡◌, ◌*◌, List, ◌++◌, map, take, drop}
use Rattle.plants.specs.Index.{joined}
use Rattle.format.specs.Plain.{Mark, to_row, from_row}
use Rattle.format.specs.Reads.{MarksAt}
use Rattle.format.proofs.marks.fill_tables.Given as goal

-- the rows of the landmarks below m are written
abbrev pub invariant-loop-m : goal.invariant-loop-m
invariant-loop-m l =
    (ms : List Mark) → MarksAt l.nodes ms l.marks →
    (l.to ≡ joined (map to_row (take l.m ms)) ++ drop (l.m * l.nodes) l.initial.to) × (l.from ≡ joined (map from_row (take l.m ms)) ++ drop (l.m * l.nodes) l.initial.from)
