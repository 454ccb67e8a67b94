use Rattle.plant.specs.FloorFacts.{blinded_laws}
use Rattle.plant.proofs.layers.blind.BlindPlant.node_count.Goals as goal

pub returns : goal.returns
returns g c = record {
  counts = c.node_count.ensures.counts;
  lawful = blinded_laws g.met.P.Cost.CostKind.lawful c.node_count.ensures.lawful;
}
