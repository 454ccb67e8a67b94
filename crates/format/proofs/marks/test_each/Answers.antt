use Rattle.std.proofs.Common.{length, refl, sym, ◌∙◌, arith}
use Rattle.format.proofs.Exits.{exit_tells}
use Rattle.format.proofs.Judged.{turn_stops, turn_passes, turns_end}
use Rattle.format.proofs.Tables.{marks_long, marks_nth, nth_here}
use Rattle.format.proofs.marks.test_each.Goals as goal

pub loop-landmark-init : goal.loop-landmark-init
loop-landmark-init c ms h e = refl

pub returns-in_err-test_mark : goal.returns-in_err-test_mark
returns-in_err-test_mark c ms h e =
    let l = c.loop-landmark in
    let lanes = c.args.lanes in
    let k = marks_nth (length c.args.to.now) ms c.args.marks.now _ l.landmark h c.loop-landmark-test.true in
    let to = l.auto.to in
    let from = l.auto.from in
    let s = c.in_err-test_mark.ensures k.mark (nth_here _ _ _ _ _ k to) (from ∙ (e ∙ sym to)) in
    exit_tells c.from_residual.result _ _ c.from_residual.ensures.1
    (turn_stops lanes.tails.now lanes.heads.now lanes.costs.now l.landmark ms k.mark k.left _ s ∙ l.invariant ms h e)

pub loop-landmark-preserved : goal.loop-landmark-preserved
loop-landmark-preserved c ms h e =
    let l = c.loop-landmark in
    let lanes = c.args.lanes in
    let k = marks_nth (length c.args.to.now) ms c.args.marks.now _ l.landmark h c.loop-landmark-test.true in
    let to = l.auto.to in
    let from = l.auto.from in
    let s = c.in_ok-test_mark.ensures k.mark (nth_here _ _ _ _ _ k to) (from ∙ (e ∙ sym to)) in
    turn_passes lanes.tails.now lanes.heads.now lanes.costs.now l.landmark ms k.mark k.left s ∙ l.invariant ms h e

pub returns : goal.returns
returns c ms h e =
    let l = c.loop-landmark in
    let lanes = c.args.lanes in
    let long = marks_long (length c.args.to.now) ms c.args.marks.now h in
    let t = c.loop-landmark-test.false in
    turns_end lanes.tails.now lanes.heads.now lanes.costs.now l.landmark ms (omega arith) ∙ l.invariant ms h e
