use Rattle.std.proofs.Common.{inl, inr}
use Rattle.std.proofs.lemmas.Result.{err_from_is_err_and}
use Rattle.format.specs.declared.fault.ReadFault.TheVariants.{Form}
use Rattle.format.proofs.Exits.{or_err}
use Rattle.format.proofs.line.read_whole.Goals as goal

pub returns-in_err-end : goal.returns-in_err-end
returns-in_err-end g c =
    let p = err_from_is_err_and c.from_residual.result c.from_residual.ensures.1 in
    rw (p.1, p.2) (record { cases = inl c.in_err-end.ensures })

pub returns-in_err-form : goal.returns-in_err-form
returns-in_err-form g c =
    let k = c.in_ok-end.ensures in
    let p = err_from_is_err_and c.from_residual-in_err-form.result c.from_residual-in_err-form.ensures.1 in
    let n = or_err c.take.result c.in_err-form.field-0.0 (Form c.args.line.number) c.in_err-form.ensures.value in
    rw (p.1, p.2) (record { cases = inr (record { ts = k.0; rest = _; line = k.1; here = k.2; none = rw n.0 at c.take.ensures; is = n.1 }) })

pub returns : goal.returns
returns g c =
    let k = c.in_ok-end.ensures in
    record { cases = (k.0, k.1, k.2, rw c.in_ok-form.ensures.ok_part at c.take.ensures) }
