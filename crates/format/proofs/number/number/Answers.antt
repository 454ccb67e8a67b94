use Rattle.std.proofs.Common.{◌+◌, ◌*◌, drop, arith}
use Rattle.format.proofs.Figures.{reads_next, reads_ge, numeral_large}
use Rattle.format.proofs.number.number.Goals as goal

pub returns-then-n-gt4294967294 : goal.returns-then-n-gt4294967294
returns-then-n-gt4294967294 c =
    let e = reads_next c.args.text.now c.loop-digit.digit-index c.loop-digit.n c.saturating_sub.result c.loop-digit-test.true c.saturating_sub.ensures c.loop-digit.invariant.1 in
    let ge = reads_ge (drop (c.loop-digit.digit-index + 1) c.args.text.now) (10 * c.loop-digit.n + c.saturating_sub.result) in
    numeral_large c.args.text.now (omega arith)
