-- Lanes are grouped only where the first-in list is what counting the heads gives.
use Rattle.std.proofs.Common.{◌≡◌, true, sym, ◌∙◌}
use Rattle.std.proofs.lemmas.Bool.{false≢true}
use Rattle.plants.specs.Index.{firsts}
use Rattle.plants.specs.Faults.{same}
use Rattle.plants.specs.Same.{same_true}
use Rattle.plants.proofs.make.fits_index.Goals as goal
use Rattle.plants.proofs.make.fits_index.Goals.{then-fits_firsts, else-fits_firsts}

pub fits_groups-requires : goal.fits_groups-requires
fits_groups-requires c =
    let h = c.args.heads in
    let fits : same c.args.lists.first_in.now (firsts h.nodes h.list.now) ≡ true =
    elim c.if-fits_firsts.branch [
      | then-fits_firsts w ↦ sym w.fits_firsts-then-fits_firsts.ensures ∙ sym w.value-is ∙ c.if-fits_firsts-2.true
      | else-fits_firsts w ↦ absurd (false≢true (sym w.if-fits_firsts.false ∙ sym w.value-is ∙ c.if-fits_firsts-2.true))
    ] in
    same_true _ _ fits
