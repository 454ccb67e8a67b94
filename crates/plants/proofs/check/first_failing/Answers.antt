-- The search stops at the first number of which the closure answers that it does not fit.
use Rattle.std.proofs.Common.{rules, ◌≡◌, ◌<◌, true, false}
use Rattle.std.proofs.lemmas.Iterator.{first_from_Range}
use Rattle.plants.specs.FirstFailing.{found}
use Rattle.plants.proofs.check.first_failing.Goals as goal

pub returns : goal.returns
returns g c = λ test gives.
    found test _ _
    (first_from_Range _ _ _ _ (λ i. i < c.args.n → test i ≡ false) (λ i. i < c.args.n → test i ≡ true) c.find.ensures.ran
    (λ x q h lt. search (rules, gives)) (λ x q h. (search rules, λ lt. search (rules, gives))))
