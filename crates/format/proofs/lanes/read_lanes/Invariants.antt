use Rattle.format.specs.Items.{lane_form}
use Rattle.format.specs.Reads.{LanesKept}
use Rattle.format.proofs.Kept.{Reading}
use Rattle.format.proofs.lanes.read_lanes.Given as goal

-- the lanes below k are read and kept
abbrev pub invariant-loop-k : goal.invariant-loop-k
invariant-loop-k l =
    (r : Reading lane_form l.text l.from l.at l.count 2 l.k) × LanesKept r.xs l.initial.lanes l.lanes
