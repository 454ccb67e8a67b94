-- Where the first line feed is, and what is behind it.
use Rattle.std.proofs.Common.{◌≡◌, ℕ, suc, ◌+◌, ◌-◌, ◌<◌, Bool, true, false, not, cond, eqb, List, [], ◌∷◌, length, Some, None, nat_lt, refl, arith}
use Rattle.std.proofs.lemmas.Bool.{ltb-true, ltb-false}
use Rattle.std.specs.List.{position, position_or_len}
use Rattle.format.specs.Commands.{behind_feed}

abbrev place : List ℕ → ℕ
place t = position_or_len (λ c. eqb c 10) t

feed_length : (t : List ℕ) → length (behind_feed t) ≡ length t - (place t + 1)
feed_length [] = omega arith
feed_length (c ∷ t) = by (eqb c 10) (feed_length t)
  where
    by : (b : Bool) → length (behind_feed t) ≡ length t - (place t + 1) → length (cond b t (behind_feed t)) ≡ suc (length t) - (cond (not b) (1 + place t) 0 + 1)
    by true h = omega arith
    by false h = omega arith

pub feed_some : (t : List ℕ) (i : ℕ) → Some i ≡ position (λ c. eqb c 10) t → (i < length t) × (length (behind_feed t) ≡ length t - (i + 1))
feed_some t i e = by (nat_lt (place t) (length t)) refl e
  where
    by : (b : Bool) → nat_lt (place t) (length t) ≡ b → Some i ≡ cond b (Some (place t)) None → (i < length t) × (length (behind_feed t) ≡ length t - (i + 1))
    by true q e = let l = ltb-true _ _ q in let h = feed_length t in let p : i ≡ place t = cc in (omega arith, omega arith)
    by false q e = absurd (let z : ◌≡◌ {A = ℕ} 0 1 = cc in omega arith)

pub feed_none : (t : List ℕ) → None ≡ position (λ c. eqb c 10) t → length (behind_feed t) ≡ 0
feed_none t e = by (nat_lt (place t) (length t)) refl e
  where
    by : (b : Bool) → nat_lt (place t) (length t) ≡ b → None ≡ cond b (Some (place t)) None → length (behind_feed t) ≡ 0
    by true q e = absurd (let z : ◌≡◌ {A = ℕ} 0 1 = cc in omega arith)
    by false q e = let l = ltb-false _ _ q in let h = feed_length t in omega arith
