use Rattle.format.specs.Items.{begins, values, closes}
use Rattle.format.specs.Places.{passed}
use Rattle.format.proofs.Taking.{some_past, none_past, passed_by, passed_none}
use Rattle.format.proofs.Numbered.{table_begins}
use Rattle.format.proofs.marks.take_table.Goals as goal

pub returns-in_err-open : goal.returns-in_err-open
returns-in_err-open c ts h =
    let o = none_past c.open.new.self (begins c.args.word.now ts) (c.in_err-open.ensures ts h) in
    rw (c.from_residual.ensures, table_begins c.args.word.now c.args.count ts, o) tt

pub returns-in_err-skip_values : goal.returns-in_err-skip_values
returns-in_err-skip_values c ts h =
    let o = some_past c.open.new.self (begins c.args.word.now ts) _ (c.in_ok-open.ensures ts h) in
    let x = none_past c.skip_values.new.self (passed (values c.args.count o.ts)) (c.in_err-skip_values.ensures o.ts o.there) in
    let xv = passed_none (values c.args.count o.ts) x in
    rw (c.from_residual-in_err-skip_values.ensures, table_begins c.args.word.now c.args.count ts, o.is, xv) tt

pub returns-in_err-close : goal.returns-in_err-close
returns-in_err-close c ts h =
    let o = some_past c.open.new.self (begins c.args.word.now ts) _ (c.in_ok-open.ensures ts h) in
    let x = some_past c.skip_values.new.self (passed (values c.args.count o.ts)) _ (c.in_ok-skip_values.ensures o.ts o.there) in
    let xv = passed_by (values c.args.count o.ts) x.ts x.is in
    let e = none_past c.close.new.self (closes x.ts) (c.in_err-close.ensures x.ts x.there) in
    rw (c.from_residual-in_err-close.ensures, table_begins c.args.word.now c.args.count ts, o.is, xv.is, e) tt

pub returns : goal.returns
returns c ts h =
    let o = some_past c.open.new.self (begins c.args.word.now ts) _ (c.in_ok-open.ensures ts h) in
    let x = some_past c.skip_values.new.self (passed (values c.args.count o.ts)) _ (c.in_ok-skip_values.ensures o.ts o.there) in
    let xv = passed_by (values c.args.count o.ts) x.ts x.is in
    let e = some_past c.close.new.self (closes x.ts) _ (c.in_ok-close.ensures x.ts x.there) in
    rw (table_begins c.args.word.now c.args.count ts, o.is, xv.is, e.is) (record { ts = o.ts; us = x.ts; here = o.there; are = xv.is }, e.there)
