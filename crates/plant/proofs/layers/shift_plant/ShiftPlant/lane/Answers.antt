use Rattle.std.proofs.Common.{sym, refl, ap, ◌∙◌}
use Rattle.plant.specs.Closed.{shut_lane}
use Rattle.plant.specs.Shifted.{is_shut}
use Rattle.plant.specs.LayerFacts.{nth-shut, over, shut_there, open_there}
use Rattle.plant.proofs.layers.shift_plant.ShiftPlant.lane.Goals as goal

pub returns-in_err-lane : goal.returns-in_err-lane
returns-in_err-lane g c =
    c.from_residual.ensures ∙ ap (over (shut_lane g.P.Cost.CostKind.kind.beyond (is_shut c.args.self.now c.args.k))) c.in_err-lane.ensures
    ∙ sym (nth-shut g.P.Cost.CostKind.kind.beyond (is_shut c.args.self.now) (g.P.Plant.floor c.args.self.now.below).lanes c.args.k)

pub returns-then-is_closed : goal.returns-then-is_closed
returns-then-is_closed g c =
    let b = g.P.Cost.CostKind.kind.beyond in
    let there = shut_there b (is_shut c.args.self.now) (g.P.Plant.floor c.args.self.now.below).lanes c.args.k c.in_ok-lane.lane b c.in_ok-lane.ensures c.if-is_closed.ensures refl in
    cc

pub returns : goal.returns
returns g c =
    open_there g.P.Cost.CostKind.kind.beyond (is_shut c.args.self.now) (g.P.Plant.floor c.args.self.now.below).lanes c.args.k c.in_ok-lane.lane c.in_ok-lane.ensures c.if-is_closed.ensures
