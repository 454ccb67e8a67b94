use Rattle.std.proofs.Common.{sym, ◌∙◌}
use Rattle.plant.specs.LayerFacts.{length-shut}
use Rattle.plant.proofs.layers.shift_plant.ShiftPlant.lane_count.Goals as goal

pub returns : goal.returns
returns g c = c.lane_count.ensures ∙ sym (length-shut _ _ _)
