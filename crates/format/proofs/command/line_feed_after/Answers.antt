use Rattle.std.proofs.Common.{length, ap, arith, length-drop}
use Rattle.format.specs.Commands.{behind_feed}
use Rattle.format.proofs.Feeds.{feed_some, feed_none}
use Rattle.format.proofs.command.line_feed_after.Goals as goal

pub returns-in-Some : goal.returns-in-Some
returns-in-Some c =
    let b = c.behind.ensures in
    let f = feed_some c.behind.result.now c.in-Some.i c.in-Some.ensures in
    let e = ap length b in
    let d = length-drop c.args.from c.args.text.now in
    let r = ap (λ t. length (behind_feed t)) b in
    omega arith

pub returns-in-None : goal.returns-in-None
returns-in-None c =
    let b = c.behind.ensures in
    let f = feed_none c.behind.result.now c.in-None.ensures in
    let r = ap (λ t. length (behind_feed t)) b in
    omega arith
