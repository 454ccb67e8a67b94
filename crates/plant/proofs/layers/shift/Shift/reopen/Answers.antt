use Rattle.std.proofs.Common.{not, eqb, reverse, sym, ap, ◌∙◌, rules}
use Rattle.arrayvec.proofs.ArrayVecLemmas.{filter-from_retain}
use Rattle.plant.proofs.Among.{without_filter, without-reverse}
use Rattle.plant.proofs.layers.shift.Shift.reopen.Goals as goal

pub returns-clause-closed : goal.returns-clause-closed
returns-clause-closed g c =
    let k = c.args.k in
    let xs = c.args.self.now.closed.items in
    ap reverse (filter-from_retain _ (λ x. not (eqb x k)) _ (λ x b f' y h. search rules) _ _ c.retain.ensures.filtered ∙ sym (without_filter k xs))
    ∙ sym (without-reverse k xs)
