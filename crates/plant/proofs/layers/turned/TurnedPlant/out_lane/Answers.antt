use Rattle.std.proofs.Common.{sym, ap, ◌∙◌}
use Rattle.std.specs.List.{slice_get}
use Rattle.plant.specs.Floor.{turn}
use Rattle.plant.specs.LayerFacts.{at_from-map}
use Rattle.plant.proofs.layers.turned.TurnedPlant.out_lane.Goals as goal

pub returns : goal.returns
returns g c = c.into_lane.ensures ∙ sym (ap (λ ks. slice_get ks c.args.j) (at_from-map (λ l. l.tail) turn 0 _ c.args.v))
