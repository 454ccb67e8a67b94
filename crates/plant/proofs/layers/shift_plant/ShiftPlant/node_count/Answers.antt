use Rattle.plant.specs.Shifted.{is_shut}
use Rattle.plant.specs.LayerFacts.{shut_laws}
use Rattle.plant.proofs.layers.shift_plant.ShiftPlant.node_count.Goals as goal

pub returns : goal.returns
returns g c = record {
  counts = c.node_count.ensures.counts;
  lawful = shut_laws g.met.P.Cost.CostKind.lawful (is_shut c.args.self.now) c.node_count.ensures.lawful;
}
