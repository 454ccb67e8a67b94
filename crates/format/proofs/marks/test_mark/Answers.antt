use Rattle.std.proofs.Common.{None, sym, subst, ◌∙◌}
use Rattle.format.specs.Places.{ValuesAt}
use Rattle.format.specs.Judged.{mark_fault}
use Rattle.format.proofs.marks.test_mark.Goals as goal

pub returns : goal.returns
returns c k h e =
    let lanes = c.args.lanes in
    let to = c.fill_values.ensures k.to h.0 in
    let from = c.fill_values-2.ensures k.from (subst (ValuesAt c.args.mark.from.line.text.now c.args.mark.from.at k.from) (sym e) h.1) in
    c.check_landmark.ensures ∙ (λ i. mark_fault lanes.tails.now lanes.heads.now lanes.costs.now c.args.landmark (record { to = to i; from = from i }) None)
