use Rattle.std.proofs.Common.{◌<◌, get_or, sym, arith}
use Rattle.format.proofs.RunEnds.{front_on, front_off, front_whole}
use Rattle.format.proofs.cursor.run.Goals as goal

pub returns-then-not-test : goal.returns-then-not-test
returns-then-not-test g c k t =
    let fits = c.type_inv.text c.loop-i.i in
    let small : get_or c.args.text.now c.loop-i.i 0 < 256 = omega arith in
    front_off k c.args.text.now c.loop-i.i c.loop-i-test.true (sym (t _ _ small c.if-not-test.ensures)) (c.loop-i.invariant k t)

pub loop-i-preserved : goal.loop-i-preserved
loop-i-preserved g c k t =
    let fits = c.type_inv.text c.loop-i.i in
    let small : get_or c.args.text.now c.loop-i.i 0 < 256 = omega arith in
    front_on k c.args.text.now c.loop-i.i c.loop-i-test.true (sym (t _ _ small c.if-not-test.ensures)) (c.loop-i.invariant k t)

pub returns : goal.returns
returns g c k t = front_whole k c.args.text.now c.loop-i.i c.loop-i-test.false (c.loop-i.invariant k t)
