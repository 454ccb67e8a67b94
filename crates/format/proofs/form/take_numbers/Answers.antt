use Rattle.std.proofs.Common.{◌≡◌, ◌<◌, ◌≤◌, ◌+◌, ◌-◌, [], length, take, ap, ◌∙◌, sym, arith, length-set}
use lib.ListN.{length-replicate}
use Rattle.std.specs.Bool.{then_some}
use Rattle.std.proofs.lemmas.List.{take_all, take_more_set}
use Rattle.format.specs.Items.{begins, closes, number}
use Rattle.format.specs.Places.{TokensAt}
use Rattle.format.proofs.Numbered.{rest_of, rest_start, rest_other, rest_none, rest_more, rest_all}
use Rattle.format.proofs.Taking.{some_past, none_past, some_number, none_number, all_if}
use Rattle.format.proofs.form.take_numbers.Goals as goal

pub returns-in_err-open : goal.returns-in_err-open
returns-in_err-open g c ts h =
    let s = c.start-cursor.result in
    let here : TokensAt s.line.text.now s.at ts = rw (c.start-cursor.ensures.0, c.start-cursor.ensures.1) h in
    let o = none_past c.open.new.self (begins c.args.word.now ts) (c.in_err-open.ensures ts here) in
    rw (c.from_residual.ensures, rest_other g.row.N c.args.word.now ts o)

pub loop-number-init : goal.loop-number-init
loop-number-init g c = (
  length-replicate g.row.N 0,
  λ ts h.
      let s = c.start-cursor.result in
      let here : TokensAt s.line.text.now s.at ts = rw (c.start-cursor.ensures.0, c.start-cursor.ensures.1) h in
      let o = some_past c.open.new.self (begins c.args.word.now ts) c.in_ok-open.field-0 (c.in_ok-open.ensures ts here) in
      let e : g.row.N ≡ g.row.N - 0 = omega arith in
      (o.ts, o.there, rest_start g.row.N c.args.word.now ts o.ts o.is ∙ ap (λ k. rest_of [] k o.ts) e),
)

pub returns-in_err-number : goal.returns-in_err-number
returns-in_err-number g c ts h =
    let l = c.loop-number in
    let i = l.invariant.1 ts h in
    let t = c.loop-number-test.true in
    let n = none_number c.number.new.self (number i.0) (c.in_err-number.ensures i.0 i.1) in
    let e = rest_none (take l.number-index l.number-items) (g.row.N - l.number-index) (g.row.N - l.number-index - 1) i.0 (omega arith) n in
    rw (c.from_residual-in_err-number.ensures, i.2, e)

pub loop-number-preserved : goal.loop-number-preserved
loop-number-preserved g c =
    let l = c.loop-number in
    let t = c.loop-number-test.true in
    let m = l.invariant.0 in
    let inside : l.number-index < length l.number-items = omega arith in (
      length-set l.number-items l.number-index c.in_ok-number.field-0 ∙ m,
      λ ts h.
          let i = l.invariant.1 ts h in
          let n = some_number c.number.new.self (number i.0) c.in_ok-number.field-0 (c.in_ok-number.ensures i.0 i.1) in (
            n.ts,
            n.there,
            i.2
                ∙ (rest_more (take l.number-index l.number-items) (g.row.N - l.number-index) (g.row.N - (l.number-index + 1)) c.in_ok-number.field-0 i.0 n.ts (omega arith) n.is
                ∙ ap (λ d. rest_of d (g.row.N - (l.number-index + 1)) n.ts) (sym (take_more_set l.number-items l.number-index c.in_ok-number.field-0 inside))),
          ),
    )

pub returns-in_err-close : goal.returns-in_err-close
returns-in_err-close g c ts h =
    let l = c.loop-number in
    let i = l.invariant.1 ts h in
    let t = c.loop-number-test.false in
    let p = rest_all (take l.number-index l.number-items) (g.row.N - l.number-index) i.0 (omega arith) in
    let e = none_past c.close.new.self (closes i.0) (c.in_err-close.ensures i.0 i.1) in
    rw (c.from_residual-in_err-close.ensures, i.2, p, e)

pub returns : goal.returns
returns g c ts h =
    let l = c.loop-number in
    let i = l.invariant.1 ts h in
    let m = l.invariant.0 in
    let t = c.loop-number-test.false in
    let p = rest_all (take l.number-index l.number-items) (g.row.N - l.number-index) i.0 (omega arith) in
    let e = some_past c.close.new.self (closes i.0) _ (c.in_ok-close.ensures i.0 i.1) in
    let full : length l.number-items ≤ l.number-index = omega arith in
    rw (i.2, p, e.is, c.then_some.ensures)
    (all_if (take l.number-index l.number-items) e.ts c.is_over.result (c.is_over.ensures e.ts e.there) ∙ ap (then_some c.is_over.result) (take_all l.number-index l.number-items full))
