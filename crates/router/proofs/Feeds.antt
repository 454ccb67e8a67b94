-- Behind the next line feed there is less of a text.
use Rattle.std.proofs.Common.{ℕ, suc, ◌<◌, ◌≤◌, eqb, List, [], ◌∷◌, length, arith}
use Rattle.std.proofs.lemmas.Bool.{cond_both}
use Rattle.format.specs.Commands.{behind_feed}

fits : (t : List ℕ) → length (behind_feed t) ≤ length t
fits [] = omega arith
fits (c ∷ t) = let h = fits t in cond_both (eqb c 10) t (behind_feed t) (λ (u : List ℕ). length u ≤ suc (length t)) (λ _. omega arith) (λ _. omega arith)

pub shorter : (t : List ℕ) → 0 < length t → length (behind_feed t) < length t
shorter [] h = absurd (omega arith)
shorter (c ∷ t) h = let f = fits t in cond_both (eqb c 10) t (behind_feed t) (λ (u : List ℕ). length u < suc (length t)) (λ _. omega arith) (λ _. omega arith)
