use Rattle.std.proofs.Common.{sym, refl, ap, ◌∙◌}
use Rattle.std.specs.List.{slice_get}
use Rattle.plant.specs.Shifted.{is_shut}
use Rattle.plant.specs.LayerFacts.{at_from-shut}
use Rattle.plant.proofs.layers.shift_plant.ShiftPlant.into_lane.Goals as goal

pub returns : goal.returns
returns g c = c.into_lane.ensures ∙ sym (ap (λ ks. slice_get ks c.args.j) (at_from-shut _ (λ l. l.head) (λ t l. refl) (is_shut c.args.self.now) 0 _ c.args.v))
