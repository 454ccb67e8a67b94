-- The lanes out of a node stand in one row, from its place in the first-out list to the next.
use Rattle.std.proofs.Common.{arith}
use Rattle.plants.specs.Lawful.{kept}
use Rattle.plants.proofs.Ends.{out_rises, out_nth}
use Rattle.plants.proofs.questions.LanePlantPlant.out_lane.Goals as goal

pub nth_place-requires : goal.nth_place-requires
nth_place-requires c =
    let s = kept c.args.self.now in
    record { size = omega (arith, s.outs_size); rises = out_rises _ _ _ s c.args.v }

pub returns : goal.returns
returns c = out_nth _ _ _ (kept c.args.self.now) c.args.v c.args.j c.nth_place.result c.nth_place.ensures.some c.nth_place.ensures.none
