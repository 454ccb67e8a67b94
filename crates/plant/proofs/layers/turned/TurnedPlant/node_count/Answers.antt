use Rattle.plant.specs.FloorFacts.{turned_laws}
use Rattle.plant.proofs.layers.turned.TurnedPlant.node_count.Goals as goal

pub returns : goal.returns
returns g c = record {
  counts = c.node_count.ensures.counts;
  lawful = turned_laws g.met.P.Cost.CostKind.lawful c.node_count.ensures.lawful;
}
