-- A hall's floor keeps the laws, since its nodes stand in whole rows.
use Rattle.std.proofs.Common.{refl}
use Rattle.plants.specs.HallSides.{rows_of}
use Rattle.plants.specs.HallLaws.{hall_laws}
use Rattle.plants.proofs.hall_questions.HallPlant.node_count.Goals as goal

pub returns : goal.returns
returns c = record { counts = refl; lawful = hall_laws _ _ _ (rows_of c.args.self.now) }
