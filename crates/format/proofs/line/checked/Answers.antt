use Rattle.std.proofs.Common.{◌≡◌, drop, rules}
use Rattle.std.proofs.lemmas.Result.{err_from_is_err_and}
use Rattle.format.proofs.Formed.{no_form, formed, bad_number, good_line}
use Rattle.format.proofs.Places.{line_at}
use Rattle.format.proofs.line.checked.Goals as goal

pub returns-in_err-end : goal.returns-in_err-end
returns-in_err-end c =
    let p = err_from_is_err_and c.from_residual.result c.from_residual.ensures.1 in
    let l : c.in_err-end.field-0.0.line ≡ c.args.line.number = search rules in
    rw (p.1, p.2, l) (no_form c.args.line.number (drop c.args.line.from c.args.line.text.now) c.in_err-end.field-0.0.byte c.in_err-end.ensures.walked)

pub returns-in-Some : goal.returns-in-Some
returns-in-Some c =
    let f = formed (drop c.args.line.from c.args.line.text.now) (drop c.in_ok-end.end c.args.line.text.now) c.in_ok-end.ensures.walked in
    bad_number c.args.line.number (drop c.args.line.from c.args.line.text.now) (drop c.in_ok-end.end c.args.line.text.now) c.in-Some.byte f.ts f.is (c.in-Some.ensures f.ts (drop c.in_ok-end.end c.args.line.text.now) f.is)

pub returns-in-None : goal.returns-in-None
returns-in-None c =
    let f = formed (drop c.args.line.from c.args.line.text.now) (drop c.in_ok-end.end c.args.line.text.now) c.in_ok-end.ensures.walked in (
      f.ts,
      good_line c.args.line.number (drop c.args.line.from c.args.line.text.now) (drop c.in_ok-end.end c.args.line.text.now) f.ts f.is (c.in-None.ensures f.ts (drop c.in_ok-end.end c.args.line.text.now) f.is),
      line_at c.args.line.text.now c.args.line.from f.ts (drop c.in_ok-end.end c.args.line.text.now) f.is (c.in-None.ensures f.ts (drop c.in_ok-end.end c.args.line.text.now) f.is),
    )
