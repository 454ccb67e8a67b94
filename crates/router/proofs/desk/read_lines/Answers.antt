use Rattle.std.proofs.Common.{◌<◌, length, drop, arith, length-drop}
use Rattle.format.specs.Commands.{behind_feed}
use Rattle.router.proofs.Feeds.{shorter}
use Rattle.router.proofs.desk.read_lines.Goals as goal

pub loop-at-smaller : goal.loop-at-smaller
loop-at-smaller c =
    let t = c.args.text.now in
    let at = c.loop-at.at in
    let long = length-drop at t in
    let less : length (behind_feed (drop at t)) < length (drop at t) = shorter (drop at t) (omega (arith, c.loop-at-test.true)) in
    omega (arith, c.line_feed_after-at.ensures, c.loop-at-test.true)
