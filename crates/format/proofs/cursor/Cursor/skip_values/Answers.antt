use Rattle.std.proofs.Common.{◌≡◌, ◌+◌, ◌-◌, ap, ◌∙◌, arith}
use Rattle.format.specs.Items.{value, values}
use Rattle.format.specs.Places.{passed}
use Rattle.format.proofs.Taking.{some_number, none_number}
use Rattle.format.proofs.Valued.{pass_none, pass_more, pass_all}
use Rattle.format.proofs.cursor.Cursor.skip_values.Goals as goal

pub loop-init : goal.loop-init
loop-init c ts h = let e : c.args.count ≡ c.args.count - 0 = omega arith in (ts, h, ap (λ n. passed (values n ts)) e)

pub returns-in_err-value : goal.returns-in_err-value
returns-in_err-value c ts h =
    let i = c.loop.invariant ts h in
    let v = none_number c.value.new.self (value i.0) (c.in_err-value.ensures i.0 i.1) in
    let t = c.loop-test.true in
    let p = pass_none (c.args.count - c.loop.counter) (c.args.count - c.loop.counter - 1) i.0 (omega arith) v in
    rw (c.from_residual.ensures, i.2, p) tt

pub loop-preserved : goal.loop-preserved
loop-preserved c ts h =
    let i = c.loop.invariant ts h in
    let v = some_number c.value.new.self (value i.0) c.in_ok-value.field-0 (c.in_ok-value.ensures i.0 i.1) in
    let t = c.loop-test.true in
    (v.ts, v.there, i.2 ∙ pass_more (c.args.count - c.loop.counter) (c.args.count - (c.loop.counter + 1)) c.in_ok-value.field-0 i.0 v.ts (omega arith) v.is)

pub returns : goal.returns
returns c ts h =
    let i = c.loop.invariant ts h in
    let t = c.loop-test.false in
    let p = pass_all (c.args.count - c.loop.counter) i.0 (omega arith) in
    rw (i.2, p) (tt, i.1)
