-- The plant's floor keeps the laws, since no test refuses its lists.
use Rattle.std.proofs.Common.{refl}
use Rattle.plants.specs.Lawful.{kept}
use Rattle.plants.specs.LaidLaws.{laid_laws}
use Rattle.plants.proofs.questions.LanePlantPlant.node_count.Goals as goal

pub returns : goal.returns
returns c = record { counts = refl; lawful = laid_laws _ _ _ (kept c.args.self.now) }
