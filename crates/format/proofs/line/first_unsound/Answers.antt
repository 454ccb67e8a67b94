use Rattle.std.proofs.Common.{◌≡◌, ℕ, List, ◌+◌, ◌-◌, ◌<◌, length, drop, sym, ap, ◌∙◌, subst, arith}
use Rattle.format.specs.declared.token.Line.{Line}
use Rattle.format.specs.Lex.{item, over, lex, gap}
use Rattle.format.specs.Told.{token_of, Told}
use Rattle.format.proofs.Exits.{none_from}
use Rattle.format.proofs.Left.{Left, left_start, left_none, left_next, left_bad, wide, within_text, sound_from, unsound_from}
use Rattle.format.proofs.line.first_unsound.Goals as goal

-- what the line's text holds
abbrev now : Line → List ℕ
now l = l.text.now

pub loop-token-init : goal.loop-token-init
loop-token-init c =
    let e = c.start-cursor.ensures.1 in
    (c.start-cursor.ensures.0, omega arith, λ ts rest s. subst (λ n. Left c.args.line.text.now c.args.line.from n ts rest) (sym e) (left_start c.args.line.text.now c.args.line.from ts rest s))

pub returns-then-not-is_sound : goal.returns-then-not-is_sound
returns-then-not-is_sound c ts rest e =
    let i = c.loop-token.invariant in
    let src = c.args.line.text.now in
    let at = c.loop-token.cursor.at in
    let t = rw (ap now i.0) at c.in-Some.ensures.told in
    let u = unsound_from (token_of c.in-Some.token) (sym c.if-not-is_sound.ensures) in
    let le = i.1 in
    let end = t.3 in
    let wide = c.width.ensures in
    let before = c.saturating_sub-before.ensures in
    let from = c.saturating_sub.ensures in
    let b : c.saturating_sub.result + 1 ≡ at - c.args.line.from + 1 + gap (drop at src) = omega arith in
    left_bad src c.args.line.from at (c.saturating_sub.result + 1) ts rest u.0 b (t.0 ∙ ap item u.1) u.2 (i.2 ts rest e)

pub loop-token-smaller : goal.loop-token-smaller
loop-token-smaller c =
    let i = c.loop-token.invariant in
    let src = c.args.line.text.now in
    let at = c.loop-token.cursor.at in
    let t = rw (ap now i.0) at c.in-Some.ensures.told in
    let w = wide (token_of c.in-Some.token) (drop at src) t.0 in
    let end = t.3 in
    let inside = within_text src at (token_of c.in-Some.token) t.0 in
    let k : length src - c.next.new.self.at < length src - at = omega arith in
    k

pub loop-token-preserved : goal.loop-token-preserved
loop-token-preserved c =
    let i = c.loop-token.invariant in
    let src = c.args.line.text.now in
    let at = c.loop-token.cursor.at in
    let t = rw (ap now i.0) at c.in-Some.ensures.told in
    let le = i.1 in
    let end = t.3 in (
      c.in-Some.ensures.told.1 ∙ i.0,
      omega arith,
      λ ts rest e.
          left_next src c.args.line.from at c.next.new.self.at ts rest (token_of c.in-Some.token) le end t.0
          (sound_from (token_of c.in-Some.token) (sym c.if-not-is_sound.ensures)) (i.2 ts rest e),
    )

pub returns : goal.returns
returns c ts rest e =
    let i = c.loop-token.invariant in
    let l = c.loop-token.cursor in
    let none = none_from c.next.result c.in_default.not-Some in
    let m : lex (drop l.at l.line.text.now) ≡ over = subst (Told (lex (drop l.at l.line.text.now)) l.line (l.at + gap (drop l.at l.line.text.now)) c.next.new.self) none c.next.ensures.told in
    left_none c.args.line.text.now c.args.line.from l.at ts rest (i.2 ts rest e) (rw (ap now i.0) at m)
