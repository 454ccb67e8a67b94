-- Tokens at a place of the text.
use Rattle.std.proofs.Common.{◌≡◌, ℕ, ◌+◌, Bool, true, false, List, [], ◌∷◌, drop, None, sym, refl, ap, ◌∙◌, subst, arith, drop-drop}
use Rattle.std.specs.List.{AllByRecursion}
use Rattle.format.specs.Form.{Token, opened, closed, hyphen, run, letters, digits, begin, line, scan}
use Rattle.format.specs.Items.{sound_token, unsound}
use Rattle.format.specs.Lex.{item, over, lex, gap, width}
use Rattle.format.specs.Places.{TokensAt, Ahead}
use Rattle.format.proofs.Spelled.{spelled, Good, scanned_only}
use Rattle.format.proofs.Sounds.{Sound, none_sound}
use Rattle.format.proofs.Lexes.{ends_item, lexes, lexes_over, lexes_on}

sound_is : (k : Token) → Sound k → sound_token k ≡ true
sound_is opened s = refl
sound_is closed s = refl
sound_is hyphen s = refl
sound_is (run letters w) s = refl
sound_is (run digits w) s = s

spelled_at : (src : List ℕ) (at : ℕ) (f : Bool) (ts : List Token) (rest : List ℕ) → drop at src ≡ spelled f ts (10 ∷ rest) → AllByRecursion Good ts → AllByRecursion Sound ts → TokensAt src at ts
spelled_at src at f [] rest e g s = ap lex e ∙ lexes_over f rest
spelled_at src at f (k ∷ ts) rest e g s = (
  ap lex e ∙ lexes f k ts rest g.0,
  sound_is k s.0,
  spelled_at src (at + gap (drop at src) + width k) (ends_item k) ts rest
      (sym (drop-drop (width k) (at + gap (drop at src)) src) ∙ (ap (drop (width k)) (sym (drop-drop (gap (drop at src)) at src))
      ∙ (ap (λ t. drop (width k) (drop (gap t) t)) e ∙ lexes_on f k ts rest g.0))) g.1 s.1,
)

-- the tokens of a line stand from its beginning on
pub line_at : (src : List ℕ) (from : ℕ) (ts : List Token) (rest : List ℕ) → scan begin 1 (drop from src) ≡ line ts rest → unsound false 1 ts ≡ None → TokensAt src from ts
line_at src from ts rest e u = let s = scanned_only (drop from src) ts rest e in spelled_at src from false ts rest s.0 s.1 (none_sound ts false 1 u)

-- no token is next
pub at_none : (src : List ℕ) (at : ℕ) (ts : List Token) → lex (drop at src) ≡ over → TokensAt src at ts → ts ≡ []
at_none src at [] e h = refl
at_none src at (k ∷ ts) e h = let q = h.0 in absurd (let z : ◌≡◌ {A = ℕ} 0 1 = cc in omega arith)

pub at_some : (src : List ℕ) (at e : ℕ) (ts : List Token) (k : Token) → lex (drop at src) ≡ item k → e ≡ at + gap (drop at src) + width k → TokensAt src at ts → Ahead src e ts k
at_some src at e [] k q p h = absurd (let z : ◌≡◌ {A = ℕ} 0 1 = cc in omega arith)
at_some src at e (j ∷ ts) k q p h =
    let q' = h.0 in
    let same : j ≡ k = cc in
    record {
      us = ts;
      is = ap (λ t. t ∷ ts) same;
      sounds = ap sound_token (sym same) ∙ h.1;
      there = subst (λ n. TokensAt src n ts) (ap (λ t. at + gap (drop at src) + width t) same ∙ sym p) h.2;
    }
