-- From each cell lead four lanes.
use Rattle.std.proofs.Common.{◌*◌, sym}
use Rattle.plants.specs.Hall.{hall_lane}
use Rattle.plants.specs.Numbered.{each_length}
use Rattle.plants.proofs.hall_questions.HallPlant.lane_count.Goals as goal

pub returns : goal.returns
returns c =
    let h = c.args.self.now in
    let nodes = h.rows * h.columns in
    sym (each_length (hall_lane nodes h.columns h.cells.now) 0 (4 * nodes))
