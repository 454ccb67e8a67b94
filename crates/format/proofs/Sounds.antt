-- A line passes the test of its numbers exactly when each of them is sound.
use Rattle.std.proofs.Common.{◌≡◌, ℕ, suc, ◌+◌, Bool, true, false, List, [], ◌∷◌, length, Some, None, Option, refl, ap, ◌∙◌, arith}
use Rattle.std.specs.List.{AllByRecursion}
use Rattle.format.specs.Form.{letters, digits, Token, opened, closed, hyphen, run}
use Rattle.format.specs.Items.{sound, spaced, unsound}

abbrev pub Sound : Token → Type 0
Sound opened = Unit {0}
Sound closed = Unit {0}
Sound hyphen = Unit {0}
Sound (run letters w) = Unit {0}
Sound (run digits w) = sound w ≡ true

pub sound_none : (ts : List Token) (f : Bool) (b : ℕ) → AllByRecursion Sound ts → unsound f b ts ≡ None
unfolding unsound
sound_none [] f b h = refl
sound_none (opened ∷ ts) f b h = sound_none ts false (suc (spaced f b)) h.1
sound_none (closed ∷ ts) f b h = sound_none ts true (suc b) h.1
sound_none (hyphen ∷ ts) f b h = sound_none ts true (suc (spaced f b)) h.1
sound_none (run letters w ∷ ts) f b h = sound_none ts true (spaced f b + length w) h.1
sound_none (run digits w ∷ ts) f b h =
    ap (λ (x : Bool). elim x as (λ _. Option ℕ) [ true ↦ unsound true (spaced f b + length w) ts | false ↦ Some (spaced f b) ]) h.0 ∙ sound_none ts true (spaced f b + length w) h.1

pub none_sound : (ts : List Token) (f : Bool) (b : ℕ) → unsound f b ts ≡ None → AllByRecursion Sound ts
unfolding unsound
none_sound [] f b e = tt
none_sound (opened ∷ ts) f b e = (tt, none_sound ts false (suc (spaced f b)) e)
none_sound (closed ∷ ts) f b e = (tt, none_sound ts true (suc b) e)
none_sound (hyphen ∷ ts) f b e = (tt, none_sound ts true (suc (spaced f b)) e)
none_sound (run letters w ∷ ts) f b e = (tt, none_sound ts true (spaced f b + length w) e)
none_sound (run digits w ∷ ts) f b e = by (none_sound ts true (spaced f b + length w)) (sound w) refl e
  where
    by : (unsound true (spaced f b + length w) ts ≡ None → AllByRecursion Sound ts) → (x : Bool) → sound w ≡ x → elim x as (λ _. Option ℕ) [ true ↦ unsound true (spaced f b + length w) ts | false ↦ Some (spaced f b) ] ≡ None → (sound w ≡ true) × AllByRecursion Sound ts
    by ih true q e = (q, ih e)
    by ih false q e = absurd (let z : ◌≡◌ {A = ℕ} 0 1 = cc in omega arith)
