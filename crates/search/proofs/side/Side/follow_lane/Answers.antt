use Rattle.std.proofs.Common.{◌<◌, length, sym, ◌∙◌, arith}
use Rattle.search.proofs.HeardFacts.{heard_none}
use Rattle.search.proofs.side.Side.follow_lane.Goals as goal

pub returns-in_default-clause-heard : goal.returns-in_default-clause-heard
returns-in_default-clause-heard g c =
    let side = c.args.self.now in
    let h : 0 < length side.rows.now = omega (arith, side.long, (g.met.P.Lawful.lawful side.plant.now).some_node) in
    heard_none g.W.Watch.told g.P.Cost.CostKind.kind (g.P.Plant.floor side.plant.now) c.args.from g.met.P.Cost.CostKind.lawful side.rows.now c.args.watch.now c.args.lane h (sym c.lane.ensures ∙ c.in_default.is)
