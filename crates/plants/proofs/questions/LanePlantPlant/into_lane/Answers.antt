-- The lanes into a node stand in one row of the lanes by head, from its place in the first-in list to the next.
use Rattle.std.proofs.Common.{sym, ◌∙◌, arith}
use Rattle.plants.specs.Lawful.{kept}
use Rattle.plants.proofs.Ends.{into_rises, into_within, into_some, into_none}
use Rattle.plants.proofs.questions.LanePlantPlant.into_lane.Goals as goal

pub nth_place-requires : goal.nth_place-requires
nth_place-requires c =
    let s = kept c.args.self.now in
    record { size = omega (arith, s.ins_size); rises = into_rises _ _ _ s c.args.v }

pub returns-in_err-place : goal.returns-in_err-place
returns-in_err-place c = c.from_residual.ensures ∙ sym (into_none _ _ _ (kept c.args.self.now) c.args.v c.args.j c.in_err-place.ensures.none)

pub bounds-self-place : goal.bounds-self-place
bounds-self-place c =
    let s = kept c.args.self.now in
    let p = c.in_ok-place.ensures.some in
    omega (arith, p.0, p.2, into_within _ _ _ s c.args.v (omega (arith, p.0, s.ins_size)))

pub returns : goal.returns
returns c =
    let p = c.in_ok-place.ensures.some in
    sym (into_some _ _ _ (kept c.args.self.now) c.args.v c.args.j c.in_ok-place.place p.0 p.1 p.2)
