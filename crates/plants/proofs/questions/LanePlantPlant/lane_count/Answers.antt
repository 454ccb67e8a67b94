-- The tails are as many as the lanes.
use Rattle.std.proofs.Common.{sym}
use Rattle.plants.specs.Lawful.{kept}
use Rattle.plants.specs.Lanes.{lanes_length}
use Rattle.plants.proofs.questions.LanePlantPlant.lane_count.Goals as goal

pub returns : goal.returns
returns c =
    let p = c.args.self.now in
    let s = kept p in
    sym (lanes_length p.lists.tails.now p.lists.heads.now p.lists.costs.now s.heads_size s.costs_size)
