-- A lane is what the columns have at its number.
use Rattle.std.proofs.Common.{◌≡◌, get_or, sym, ◌∙◌}
use Rattle.plants.specs.Lawful.{kept}
use Rattle.plants.specs.Lanes.{lane_is, lanes_past}
use Rattle.plants.proofs.questions.LanePlantPlant.lane.Goals as goal

pub returns-in_err-tail : goal.returns-in_err-tail
returns-in_err-tail c =
    let l = c.args.self.now.lists in
    let past = c.in_err-tail.ensures.lookup.3 in
    c.from_residual.ensures ∙ sym (lanes_past l.tails.now l.heads.now l.costs.now c.args.k past)

pub returns : goal.returns
returns c =
    let p = c.args.self.now in
    let l = p.lists in
    let s = kept p in
    let found = c.in_ok-tail.ensures.lookup.3 in
    let tail : c.in_ok-tail.field-0.now ≡ get_or l.tails.now c.args.k 0 = found.1 0 in
    rw tail (lane_is l.tails.now l.heads.now l.costs.now c.args.k c.from.result s.heads_size s.costs_size found.0 c.from.ensures)
