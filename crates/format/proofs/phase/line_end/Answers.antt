use Rattle.std.proofs.Common.{◌≡◌, suc, ◌+◌, length, drop, sym, ap, ◌∙◌, arith, rules, drop-drop}
use Rattle.std.proofs.lemmas.Result.{err_from_is_err_and}
use Rattle.format.specs.declared.phase.Unfit.{Unfit}
use Rattle.format.specs.declared.phase.Phase.TheVariants.{Behind}
use Rattle.format.specs.Walk.{ends, off, walk, line_walk}
use Rattle.format.proofs.Exits.{or_err}
use Rattle.format.proofs.Walks.{walk_off, walk_end, walk_on, walk_none}
use Rattle.format.proofs.phase.line_end.Goals as goal

pub returns-in_err-phase-clause-walked : goal.returns-in_err-phase-clause-walked
returns-in_err-phase-clause-walked c =
    let e = err_from_is_err_and c.from_residual.result c.from_residual.ensures.1 in
    let n = or_err c.turn.result c.in_err-phase.field-0.0 (record { line = c.args.line.number; byte = c.loop-i.i + 1 }) c.in_err-phase.ensures.value in
    let w = c.loop-i.invariant ∙ walk_off c.behind-rest.result.now c.loop-i.i c.loop-i.phase _ c.loop-i-test.true (sym n.0 ∙ c.turn.ensures) in
    rw (e.1, e.2) (ap line_walk (sym c.behind-rest.ensures) ∙ (w ∙ ap (λ x. off x.byte) (sym n.1)))

pub returns-in_err-phase-clause-told : goal.returns-in_err-phase-clause-told
returns-in_err-phase-clause-told c =
    let e = err_from_is_err_and c.from_residual.result c.from_residual.ensures.1 in
    let n = or_err c.turn.result c.in_err-phase.field-0.0 (record { line = c.args.line.number; byte = c.loop-i.i + 1 }) c.in_err-phase.ensures.value in
    rw (e.1, e.2) (ap (λ (u : Unfit). u.line) n.1)

pub returns-then-eq-clause-walked : goal.returns-then-eq-clause-walked
returns-then-eq-clause-walked c =
    let e : c.in_ok-phase.phase ≡ Behind = search (rules, c.if-eq.ensures) in
    let g = c.in_ok-phase.ensures.ok_part in
    let t = c.turn.ensures in
    let s : c.args.line.from + (c.loop-i.i + 1) ≡ c.args.line.from + c.loop-i.i + 1 = omega arith in
    ap line_walk (sym c.behind-rest.ensures)
    ∙ (c.loop-i.invariant ∙ (walk_end c.behind-rest.result.now c.loop-i.i c.loop-i.phase _ c.loop-i-test.true (cc)
    ∙ ap ends (ap (drop (c.loop-i.i + 1)) c.behind-rest.ensures ∙ (drop-drop (c.loop-i.i + 1) c.args.line.from c.args.line.text.now ∙ ap (λ n. drop n c.args.line.text.now) s))))

pub loop-i-preserved : goal.loop-i-preserved
loop-i-preserved c =
    let e : c.in_ok-phase.phase ≡ Behind → ⊥ = search (rules, c.if-eq.ensures) in
    let g = c.in_ok-phase.ensures.ok_part in
    let t = c.turn.ensures in
    let s : suc (c.loop-i.i + 1) ≡ c.loop-i.i + 1 + 1 = omega arith in
    c.loop-i.invariant ∙ (walk_on c.behind-rest.result.now c.loop-i.i c.loop-i.phase c.in_ok-phase.phase _ c.loop-i-test.true (cc) e
    ∙ ap (λ b. walk c.in_ok-phase.phase b (drop (c.loop-i.i + 1) c.behind-rest.result.now)) s)

pub returns-clause-walked : goal.returns-clause-walked
returns-clause-walked c =
    let l = c.loop-i.auto.i-end in
    let t = c.loop-i-test.false in
    let e : c.loop-i.i + 1 ≡ length c.behind-rest.result.now + 1 = omega arith in
    ap line_walk (sym c.behind-rest.ensures) ∙ (c.loop-i.invariant ∙ (walk_none c.behind-rest.result.now c.loop-i.i c.loop-i.phase _ t ∙ ap off e))
