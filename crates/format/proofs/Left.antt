-- The tokens of a line that are left at a place of the text, while its numbers are tested.
use Rattle.std.proofs.Common.{◌≡◌, ℕ, suc, ◌+◌, ◌-◌, ◌<◌, ◌≤◌, Bool, true, false, eqb, leb, List, [], ◌∷◌, ◌++◌, length, drop, Some, None, Option, sym, refl, ap, ◌∙◌, subst, arith, drop-drop}
use Rattle.std.specs.List.{AllByRecursion}
use Rattle.std.proofs.lemmas.Bool.{cond-false, cond_both, leb-true, leb-false}
use Rattle.std.proofs.lemmas.List.{drop_all}
use Rattle.format.specs.Form.{Kind, letters, digits, Token, opened, closed, hyphen, run, begin, line, scan, belongs}
use Rattle.format.specs.Items.{sound, sound_token, spaced, unsound}
use Rattle.format.specs.Lex.{front, Lexed, item, over, lex_item, lex, gap, width}
use Rattle.format.proofs.Numbers.{Run}
use Rattle.format.proofs.Spelled.{space, spelled, Good, scanned_only}
use Rattle.format.proofs.Sounds.{Sound}
use Rattle.format.proofs.Lexes.{ends_item, no_space, lexes, lexes_over, lexes_on}

pub record Left (src : List ℕ) (from at : ℕ) (ts : List Token) (rest : List ℕ) : Type 0 where
  pub flag : Bool
  pub us : List Token
  pub here : drop at src ≡ spelled flag us (10 ∷ rest)
  pub good : AllByRecursion Good us
  pub same : unsound false 1 ts ≡ unsound flag (at - from + 1) us

pub left_start : (src : List ℕ) (from : ℕ) (ts : List Token) (rest : List ℕ) → scan begin 1 (drop from src) ≡ line ts rest → Left src from from ts rest
left_start src from ts rest e =
    let s = scanned_only (drop from src) ts rest e in
    let one : 1 ≡ from - from + 1 = omega arith in
    record { flag = false; us = ts; here = s.0; good = s.1; same = ap (λ n. unsound false n ts) one }

-- how far the next item's first byte is
gap_run : (f : Bool) (k : Kind) (w t : List ℕ) → Run k w → 0 < length w → (b : ℕ) → spaced f b ≡ b + gap (space f (w ++ t))
gap_run f k [] t r some b = absurd (omega arith)
gap_run true k (c ∷ w) t r some b = omega arith
gap_run false k (c ∷ w) t r some b = let e : gap (c ∷ (w ++ t)) ≡ 0 = cond-false (eqb c 32) _ _ (no_space k c r.0) in omega arith

unsound_step : (f : Bool) (k : Token) (us : List Token) (rest : List ℕ) (b : ℕ) → Good k → Sound k → unsound f b (k ∷ us) ≡ unsound (ends_item k) (b + gap (spelled f (k ∷ us) (10 ∷ rest)) + width k) us
unfolding unsound
unsound_step true opened us rest b g s = ap (λ n. unsound false n us) (let e : suc (suc b) ≡ b + 1 + 1 = omega arith in e)
unsound_step false opened us rest b g s = ap (λ n. unsound false n us) (let e : suc b ≡ b + 0 + 1 = omega arith in e)
unsound_step f closed us rest b g s = ap (λ n. unsound true n us) (let e : suc b ≡ b + 0 + 1 = omega arith in e)
unsound_step true hyphen us rest b g s = ap (λ n. unsound true n us) (let e : suc (suc b) ≡ b + 1 + 1 = omega arith in e)
unsound_step false hyphen us rest b g s = ap (λ n. unsound true n us) (let e : suc b ≡ b + 0 + 1 = omega arith in e)
unsound_step f (run letters w) us rest b g s = ap (λ n. unsound true (n + length w) us) (gap_run f letters w (spelled true us (10 ∷ rest)) g.0 g.1 b)
unsound_step f (run digits w) us rest b g s =
    ap (λ (x : Bool). elim x as (λ _. Option ℕ) [ true ↦ unsound true (spaced f b + length w) us | false ↦ Some (spaced f b) ]) s
    ∙ ap (λ n. unsound true (n + length w) us) (gap_run f digits w (spelled true us (10 ∷ rest)) g.0 g.1 b)

unsound_here : (f : Bool) (w : List ℕ) (us : List Token) (rest : List ℕ) (b : ℕ) → Good (run digits w) → sound w ≡ false → unsound f b (run digits w ∷ us) ≡ Some (b + gap (spelled f (run digits w ∷ us) (10 ∷ rest)))
unfolding unsound
unsound_here f w us rest b g s =
    ap (λ (x : Bool). elim x as (λ _. Option ℕ) [ true ↦ unsound true (spaced f b + length w) us | false ↦ Some (spaced f b) ]) s
    ∙ ap Some (gap_run f digits w (spelled true us (10 ∷ rest)) g.0 g.1 b)

-- no token is left
pub left_none : (src : List ℕ) (from at : ℕ) (ts : List Token) (rest : List ℕ) → Left src from at ts rest → lex (drop at src) ≡ over → unsound false 1 ts ≡ None
unfolding unsound
left_none src from at ts rest l e = by l.flag l.us l.here l.good l.same
  where
    by : (f : Bool) (us : List Token) → drop at src ≡ spelled f us (10 ∷ rest) → AllByRecursion Good us → unsound false 1 ts ≡ unsound f (at - from + 1) us → unsound false 1 ts ≡ None
    by f [] h g s = s
    by f (k ∷ us) h g s =
        let p = lexes f k us rest g.0 in
        let q = ap lex h in
        absurd (let z : ◌≡◌ {A = ℕ} 0 1 = cc in omega arith)

-- the token k is next
pub record Next (src : List ℕ) (from at : ℕ) (ts : List Token) (rest : List ℕ) (k : Token) : Type 0 where
  pub flag : Bool
  pub us : List Token
  pub here : drop at src ≡ spelled flag (k ∷ us) (10 ∷ rest)
  pub good : Good k
  pub goods : AllByRecursion Good us
  pub same : unsound false 1 ts ≡ unsound flag (at - from + 1) (k ∷ us)

left_some : (src : List ℕ) (from at : ℕ) (ts : List Token) (rest : List ℕ) (k : Token) → Left src from at ts rest → lex (drop at src) ≡ item k → Next src from at ts rest k
left_some src from at ts rest k l e = by l.flag l.us l.here l.good l.same
  where
    by : (f : Bool) (us : List Token) → drop at src ≡ spelled f us (10 ∷ rest) → AllByRecursion Good us → unsound false 1 ts ≡ unsound f (at - from + 1) us → Next src from at ts rest k
    by f [] h g s =
        let p = lexes_over f rest in
        let q = ap lex h in
        absurd (let z : ◌≡◌ {A = ℕ} 0 1 = cc in omega arith)
    by f (j ∷ us) h g s =
        let p = lexes f j us rest g.0 in
        let q = ap lex h in
        let same : j ≡ k = cc in
        subst (Next src from at ts rest) same (record { flag = f; us = us; here = h; good = g.0; goods = g.1; same = s })

-- a token that is passed
pub left_next : (src : List ℕ) (from at e : ℕ) (ts : List Token) (rest : List ℕ) (k : Token) → from ≤ at → e ≡ at + gap (drop at src) + width k → lex (drop at src) ≡ item k → Sound k → Left src from at ts rest → Left src from e ts rest
left_next src from at e ts rest k le p q s l =
    let n = left_some src from at ts rest k l q in
    let g = ap gap n.here in
    let b : at - from + 1 + gap (spelled n.flag (k ∷ n.us) (10 ∷ rest)) + width k ≡ e - from + 1 = omega arith in
    record {
      flag = ends_item k;
      us = n.us;
      here =
          ap (λ m. drop m src) p ∙ (sym (drop-drop (width k) (at + gap (drop at src)) src) ∙ (ap (drop (width k)) (sym (drop-drop (gap (drop at src)) at src))
          ∙ (ap (λ t. drop (width k) (drop (gap t) t)) n.here ∙ lexes_on n.flag k n.us rest n.good)));
      good = n.goods;
      same = n.same ∙ (unsound_step n.flag k n.us rest (at - from + 1) n.good s ∙ ap (λ m. unsound (ends_item k) m n.us) b);
    }

-- a number that is refused
pub left_bad : (src : List ℕ) (from at b : ℕ) (ts : List Token) (rest : List ℕ) (w : List ℕ) → b ≡ at - from + 1 + gap (drop at src) → lex (drop at src) ≡ item (run digits w) → sound w ≡ false → Left src from at ts rest → unsound false 1 ts ≡ Some b
left_bad src from at b ts rest w p q s l =
    let n = left_some src from at ts rest (run digits w) l q in
    let g = ap gap n.here in
    n.same ∙ (unsound_here n.flag w n.us rest (at - from + 1) n.good s ∙ ap Some (let e : at - from + 1 + gap (spelled n.flag (run digits w ∷ n.us) (10 ∷ rest)) ≡ b = omega arith in e))

-- a token stands within the text
pub within_text : (src : List ℕ) (at : ℕ) (k : Token) → lex (drop at src) ≡ item k → at < length src
within_text src at k e = by (leb (length src) at) refl
  where
    by : (b : Bool) → leb (length src) at ≡ b → at < length src
    by true q = let o = ap lex (drop_all at src (leb-true (length src) at q)) in absurd (let z : ◌≡◌ {A = ℕ} 0 1 = cc in omega arith)
    by false q = leb-false (length src) at q

-- a token has some bytes, and at most one space before it

front_wide : (k : Kind) (c : ℕ) (t : List ℕ) → belongs k c ≡ true → 0 < length (front k (c ∷ t))
unfolding front
front_wide k c t h = rw h (omega arith)

abbrev Wide : Token → Lexed → Type 0
Wide k x = x ≡ item k → 0 < width k

wide_item : (k : Token) (t : List ℕ) → Wide k (lex_item t)
wide_item k [] e = absurd (let z : ◌≡◌ {A = ℕ} 0 1 = cc in omega arith)
wide_item k (c ∷ t) e =
    cond_both (belongs letters c) _ _ (Wide k) (λ q. is (run letters (front letters (c ∷ t))) (front_wide letters c t q))
    (λ _. cond_both (belongs digits c) _ _ (Wide k) (λ q. is (run digits (front digits (c ∷ t))) (front_wide digits c t q))
    (λ _. cond_both (eqb c 45) _ _ (Wide k) (λ _. is hyphen (omega arith))
    (λ _. cond_both (eqb c 40) _ _ (Wide k) (λ _. is opened (omega arith))
    (λ _. cond_both (eqb c 41) _ _ (Wide k) (λ _. is closed (omega arith)) (λ _ e. absurd (let z : ◌≡◌ {A = ℕ} 0 1 = cc in omega arith)))))) e
  where
    is : (j : Token) → 0 < width j → Wide k (item j)
    is j h e = let p : j ≡ k = cc in subst (λ j. 0 < width j) p h

pub wide : (k : Token) (t : List ℕ) → lex t ≡ item k → 0 < width k
wide k [] e = absurd (let z : ◌≡◌ {A = ℕ} 0 1 = cc in omega arith)
wide k (c ∷ t) e = cond_both (eqb c 32) (lex_item t) (lex_item (c ∷ t)) (Wide k) (λ _. wide_item k t) (λ _. wide_item k (c ∷ t)) e

-- the test of a token

pub sound_from : (k : Token) → sound_token k ≡ true → Sound k
sound_from opened e = tt
sound_from closed e = tt
sound_from hyphen e = tt
sound_from (run letters w) e = tt
sound_from (run digits w) e = e

pub unsound_from : (k : Token) → sound_token k ≡ false → (w : List ℕ) × (k ≡ run digits w) × (sound w ≡ false)
unsound_from opened e = absurd (let z : ◌≡◌ {A = ℕ} 0 1 = cc in omega arith)
unsound_from closed e = absurd (let z : ◌≡◌ {A = ℕ} 0 1 = cc in omega arith)
unsound_from hyphen e = absurd (let z : ◌≡◌ {A = ℕ} 0 1 = cc in omega arith)
unsound_from (run letters w) e = absurd (let z : ◌≡◌ {A = ℕ} 0 1 = cc in omega arith)
unsound_from (run digits w) e = (w, refl, e)
