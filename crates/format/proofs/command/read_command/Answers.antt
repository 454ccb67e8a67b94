use Rattle.std.proofs.lemmas.Result.{err_from_is_err_and}
use Rattle.format.proofs.Wholes.{command_read, command_refused}
use Rattle.format.proofs.command.read_command.Goals as goal

pub returns-in_err-form : goal.returns-in_err-form
returns-in_err-form c =
    let p = err_from_is_err_and c.from_residual.result c.from_residual.ensures.1 in
    rw (p.1, p.2) (command_refused _ _ _ c.in_err-form.ensures (λ ts r h q. q.1 ts h))

pub returns : goal.returns
returns c = command_read _ _ c.in_ok-form.field-0 c.in_ok-form.ensures (λ ts r h q. q.1 ts h)
