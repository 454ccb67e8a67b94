-- Bounds from landmarks: what the tables allow, no lane makes fall by more than its cost.
use Rattle.std.proofs.Common.{◌≡◌, ℕ, zero, suc, ◌+◌, ◌<◌, ◌≤◌, ◌&&◌, ltb, ◌⊎◌, get_or, refl, ⊎_elim, arith}
use Rattle.std.proofs.lemmas.Bool.{and_from, and_left, and_right, lt-ltb, le-ltb, cond-true, cond-false}
use Rattle.plants.specs.Columns.{Columns, lane_count}
use Rattle.plants.specs.Laid.{metres_of, greatest, shown, bound_of}
use Rattle.plants.specs.Lawful.{Lawful}

none_greater : (f : ℕ → ℕ) (n : ℕ) → ((m : ℕ) → f m ≡ 0) → greatest f n ≡ 0
none_greater f zero each = refl
none_greater f (suc n) each = let rest = none_greater f n each in omega (arith, each n)

no_more : (f g : ℕ → ℕ) (cost n : ℕ) → ((m : ℕ) → m < n → f m ≤ cost + g m) → greatest f n ≤ cost + greatest g n
no_more f g cost zero each = omega arith
no_more f g cost (suc n) each =
    let rest = no_more f g cost n (λ m lt. each m (omega arith)) in omega (arith, each n (omega arith))

module _ (nodes landmarks : ℕ) (c : Columns) where
  pub bound_inside : (v w : ℕ) → v < nodes → w < nodes → bound_of nodes landmarks c v w ≡ metres_of (greatest (shown nodes c v w) landmarks)
  bound_inside v w lv lw = cond-true (ltb v nodes && ltb w nodes) _ _ (and_from _ _ (lt-ltb v nodes lv) (lt-ltb w nodes lw))

  pub bound_none : (v w : ℕ) → (nodes ≤ v) ⊎ (nodes ≤ w) → bound_of nodes landmarks c v w ≡ metres_of 0
  bound_none v w past =
      cond-false (ltb v nodes && ltb w nodes) _ _
      (⊎_elim (λ le. and_left (ltb v nodes) (ltb w nodes) (le-ltb v nodes le)) (λ le. and_right (ltb v nodes) (ltb w nodes) (le-ltb w nodes le)) past)

  pub shown_self : (v : ℕ) → greatest (shown nodes c v v) landmarks ≡ 0
  shown_self v = none_greater (shown nodes c v v) landmarks (λ m. omega arith)

  pub shown_out : Lawful nodes landmarks c → (k z : ℕ) → k < lane_count c → greatest (shown nodes c (get_or c.tails k 0) z) landmarks ≤ get_or c.costs k 0 + greatest (shown nodes c (get_or c.heads k 0) z) landmarks
  shown_out s k z lt =
      no_more (shown nodes c (get_or c.tails k 0) z) (shown nodes c (get_or c.heads k 0) z) (get_or c.costs k 0) landmarks
      (λ m lm. omega (arith, s.to_holds m k lm lt, s.from_holds m k lm lt))

  pub shown_in : Lawful nodes landmarks c → (k z : ℕ) → k < lane_count c → greatest (shown nodes c z (get_or c.heads k 0)) landmarks ≤ get_or c.costs k 0 + greatest (shown nodes c z (get_or c.tails k 0)) landmarks
  shown_in s k z lt =
      no_more (shown nodes c z (get_or c.heads k 0)) (shown nodes c z (get_or c.tails k 0)) (get_or c.costs k 0) landmarks
      (λ m lm. omega (arith, s.to_holds m k lm lt, s.from_holds m k lm lt))
