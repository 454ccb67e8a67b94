use Rattle.format.specs.Plain.{Mark}
use Rattle.format.specs.Items.{begins, closes, table, mark_word, to_word, from_word}
use Rattle.format.specs.Places.{TokensAt}
use Rattle.format.proofs.Taking.{some_past, none_past, some_table, none_table, taken_if}
use Rattle.format.proofs.Numbered.{mark_begins}
use Rattle.format.proofs.marks.take_mark.Goals as goal

pub returns-in_err-open : goal.returns-in_err-open
returns-in_err-open c ts h =
    let s = c.start-cursor.result in
    let here : TokensAt s.line.text.now s.at ts = rw (c.start-cursor.ensures.0, c.start-cursor.ensures.1) h in
    let o = none_past c.open.new.self (begins mark_word ts) (c.in_err-open.ensures ts here) in
    rw (c.from_residual.ensures, mark_begins c.args.nodes ts, o) tt

pub returns-in_err-to : goal.returns-in_err-to
returns-in_err-to c ts h =
    let s = c.start-cursor.result in
    let here : TokensAt s.line.text.now s.at ts = rw (c.start-cursor.ensures.0, c.start-cursor.ensures.1) h in
    let o = some_past c.open.new.self (begins mark_word ts) _ (c.in_ok-open.ensures ts here) in
    let x = none_table c.args.nodes c.take_table.new.cursor (table to_word c.args.nodes o.ts) (c.in_err-to.ensures o.ts o.there) in
    rw (c.from_residual-in_err-to.ensures, mark_begins c.args.nodes ts, o.is, x) tt

pub returns-in_err-from : goal.returns-in_err-from
returns-in_err-from c ts h =
    let s = c.start-cursor.result in
    let here : TokensAt s.line.text.now s.at ts = rw (c.start-cursor.ensures.0, c.start-cursor.ensures.1) h in
    let o = some_past c.open.new.self (begins mark_word ts) _ (c.in_ok-open.ensures ts here) in
    let x = some_table c.args.nodes c.take_table.new.cursor (table to_word c.args.nodes o.ts) c.in_ok-to.to (c.in_ok-to.ensures o.ts o.there) in
    let y = none_table c.args.nodes c.take_table-2.new.cursor (table from_word c.args.nodes x.ts) (c.in_err-from.ensures x.ts x.there) in
    rw (c.from_residual-in_err-from.ensures, mark_begins c.args.nodes ts, o.is, x.is, y) tt

pub returns-in_err-close : goal.returns-in_err-close
returns-in_err-close c ts h =
    let s = c.start-cursor.result in
    let here : TokensAt s.line.text.now s.at ts = rw (c.start-cursor.ensures.0, c.start-cursor.ensures.1) h in
    let o = some_past c.open.new.self (begins mark_word ts) _ (c.in_ok-open.ensures ts here) in
    let x = some_table c.args.nodes c.take_table.new.cursor (table to_word c.args.nodes o.ts) c.in_ok-to.to (c.in_ok-to.ensures o.ts o.there) in
    let y = some_table c.args.nodes c.take_table-2.new.cursor (table from_word c.args.nodes x.ts) c.in_ok-from.from (c.in_ok-from.ensures x.ts x.there) in
    let e = none_past c.close.new.self (closes y.ts) (c.in_err-close.ensures y.ts y.there) in
    rw (c.from_residual-in_err-close.ensures, mark_begins c.args.nodes ts, o.is, x.is, y.is, e) tt

pub returns : goal.returns
returns c ts h =
    let s = c.start-cursor.result in
    let here : TokensAt s.line.text.now s.at ts = rw (c.start-cursor.ensures.0, c.start-cursor.ensures.1) h in
    let o = some_past c.open.new.self (begins mark_word ts) _ (c.in_ok-open.ensures ts here) in
    let x = some_table c.args.nodes c.take_table.new.cursor (table to_word c.args.nodes o.ts) c.in_ok-to.to (c.in_ok-to.ensures o.ts o.there) in
    let y = some_table c.args.nodes c.take_table-2.new.cursor (table from_word c.args.nodes x.ts) c.in_ok-from.from (c.in_ok-from.ensures x.ts x.there) in
    let e = some_past c.close.new.self (closes y.ts) _ (c.in_ok-close.ensures y.ts y.there) in
    let m : Mark = record { to = x.a; from = y.a } in
    rw (mark_begins c.args.nodes ts, o.is, x.is, y.is, e.is)
    (taken_if c.args.nodes m (record { to = c.in_ok-to.to; from = c.in_ok-from.from }) e.ts c.is_over.result c.then_some.result (c.is_over.ensures e.ts e.there) c.then_some.ensures (x.fits, y.fits))
