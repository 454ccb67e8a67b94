use Rattle.std.proofs.Common.{length, subst}
use Rattle.format.specs.Items.{value}
use Rattle.format.specs.Places.{TookNumber}
use Rattle.format.proofs.Exits.{none_from}
use Rattle.format.proofs.Taking.{some_number, none_number}
use Rattle.format.proofs.Valued.{fill_none, fill_stop, fill_more, fill_all}
use Rattle.format.proofs.form.fill_values.Goals as goal

pub loop-entry-init : goal.loop-entry-init
loop-entry-init c xs v = fill_none c.args.from.line.text.now c.args.from.at (length c.args.row.now) c.args.row.now xs v

pub returns-in_default : goal.returns-in_default
returns-in_default c xs v =
    let l = c.loop-entry in
    let none = none_from c.value.result c.in_default.not-Some in
    absurd
    (fill_stop l.from.line.text.now l.from.at l.entry-index (length c.args.row.now) l.row xs (l.invariant xs v) c.loop-entry-test.true
    (λ us h. none_number c.value.new.self (value us) (subst (TookNumber c.value.new.self (value us)) none (c.value.ensures us h))))

pub loop-entry-preserved : goal.loop-entry-preserved
loop-entry-preserved c xs v =
    let l = c.loop-entry in
    fill_more l.from.line.text.now l.from.at c.value.new.self.line.text.now c.value.new.self.at l.entry-index (length c.args.row.now) c.in-Some.value l.row xs l.auto.row
    (l.invariant xs v) c.loop-entry-test.true
    (λ us h. let n = some_number c.value.new.self (value us) c.in-Some.value (c.in-Some.ensures us h) in (n.ts, n.is, n.there))

pub returns : goal.returns
returns c xs v =
    let l = c.loop-entry in
    fill_all l.from.line.text.now l.from.at l.entry-index (length c.args.row.now) l.row xs l.auto.row (l.invariant xs v) c.loop-entry-test.false
