-- The tokens of a line come one after another.
use Rattle.std.proofs.Common.{◌≡◌, ℕ, ◌<◌, Bool, true, false, eqb, leb, List, [], ◌∷◌, ◌++◌, length, drop, refl, ap, ◌∙◌, arith}
use Rattle.std.proofs.lemmas.Bool.{leb-true, and_parts, ne_eqb, cond-true, cond-false}
use Rattle.format.specs.Form.{Kind, letters, digits, Token, opened, closed, hyphen, run, belongs}
use Rattle.format.specs.Lex.{front, item, over, lex_item, lex, gap, width}
use Rattle.format.proofs.Numbers.{Run}
use Rattle.format.proofs.Spelled.{space, spelled, Good}
use Rattle.format.proofs.Scans.{digit_no_letter}

-- whether an item ends with the token
abbrev pub ends_item : Token → Bool
ends_item opened = false
ends_item closed = true
ends_item hyphen = true
ends_item (run k w) = true

-- no run goes on there
front_stops : (k : Kind) (ts : List Token) (rest : List ℕ) → front k (spelled true ts (10 ∷ rest)) ≡ []
unfolding front belongs
front_stops letters [] rest = refl
front_stops letters (opened ∷ ts) rest = refl
front_stops letters (closed ∷ ts) rest = refl
front_stops letters (hyphen ∷ ts) rest = refl
front_stops letters (run k w ∷ ts) rest = refl
front_stops digits [] rest = refl
front_stops digits (opened ∷ ts) rest = refl
front_stops digits (closed ∷ ts) rest = refl
front_stops digits (hyphen ∷ ts) rest = refl
front_stops digits (run k w ∷ ts) rest = refl

front_run : (k : Kind) (w t : List ℕ) → Run k w → front k t ≡ [] → front k (w ++ t) ≡ w
unfolding front
front_run k [] t r e = e
front_run k (c ∷ w) t r e = cond-true (belongs k c) _ _ r.0 ∙ ap (λ u. c ∷ u) (front_run k w t r.1 e)

pub no_space : (k : Kind) (c : ℕ) → belongs k c ≡ true → eqb c 32 ≡ false
unfolding belongs
no_space letters c h = ne_eqb c 32 (λ e. let l = leb-true 97 c (and_parts (leb 97 c) (leb c 122) h).0 in omega arith)
no_space digits c h = ne_eqb c 32 (λ e. let l = leb-true 48 c (and_parts (leb 48 c) (leb c 57) h).0 in omega arith)

pub lex_run : (k : Kind) (c : ℕ) (t : List ℕ) → belongs k c ≡ true → lex_item (c ∷ t) ≡ item (run k (front k (c ∷ t)))
lex_run letters c t h = cond-true (belongs letters c) _ _ h
lex_run digits c t h = cond-false (belongs letters c) _ _ (digit_no_letter c h) ∙ cond-true (belongs digits c) _ _ h

run_lexes : (f : Bool) (k : Kind) (w t : List ℕ) → Run k w → 0 < length w → front k t ≡ [] → lex (space f (w ++ t)) ≡ item (run k w)
run_lexes f k [] t r some e = absurd (omega arith)
run_lexes true k (c ∷ w) t r some e = lex_run k c (w ++ t) r.0 ∙ ap (λ u. item (run k u)) (front_run k (c ∷ w) t r e)
run_lexes false k (c ∷ w) t r some e =
    cond-false (eqb c 32) _ _ (no_space k c r.0) ∙ (lex_run k c (w ++ t) r.0 ∙ ap (λ u. item (run k u)) (front_run k (c ∷ w) t r e))

-- the first token
pub lexes : (f : Bool) (k : Token) (ts : List Token) (rest : List ℕ) → Good k → lex (spelled f (k ∷ ts) (10 ∷ rest)) ≡ item k
unfolding belongs
lexes true opened ts rest g = refl
lexes false opened ts rest g = refl
lexes f closed ts rest g = refl
lexes true hyphen ts rest g = refl
lexes false hyphen ts rest g = refl
lexes f (run k w) ts rest g = run_lexes f k w (spelled true ts (10 ∷ rest)) g.0 g.1 (front_stops k ts rest)

-- no token is left
pub lexes_over : (f : Bool) (rest : List ℕ) → lex (spelled f [] (10 ∷ rest)) ≡ over
unfolding belongs
lexes_over f rest = refl

drop-front : (w t : List ℕ) → drop (length w) (w ++ t) ≡ t
drop-front [] t = refl
drop-front (c ∷ w) t = drop-front w t

-- the bytes behind it are the other tokens
pub lexes_on : (f : Bool) (k : Token) (ts : List Token) (rest : List ℕ) → Good k → drop (width k) (drop (gap (spelled f (k ∷ ts) (10 ∷ rest))) (spelled f (k ∷ ts) (10 ∷ rest))) ≡ spelled (ends_item k) ts (10 ∷ rest)
lexes_on true opened ts rest g = refl
lexes_on false opened ts rest g = refl
lexes_on f closed ts rest g = refl
lexes_on true hyphen ts rest g = refl
lexes_on false hyphen ts rest g = refl
lexes_on true (run k w) ts rest g = drop-front w (spelled true ts (10 ∷ rest))
lexes_on false (run k []) ts rest g = absurd (let h = g.1 in omega arith)
lexes_on false (run k (c ∷ w)) ts rest g =
    ap (λ n. drop (length (c ∷ w)) (drop n (c ∷ (w ++ spelled true ts (10 ∷ rest))))) (cond-false (eqb c 32) _ _ (no_space k c g.0.0)) ∙ drop-front w (spelled true ts (10 ∷ rest))
