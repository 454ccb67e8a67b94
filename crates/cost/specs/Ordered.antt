-- The order of numbers as a test: its laws, and that it is std's comparison of three outcomes.
use Rattle.std.specs.Prelude.{◌≡◌, ℕ, true, ◌⊎◌, nat_le}
use Rattle.std.specs.Ordering.{is_le, nat_cmp}
use Rattle.std.proofs.Common.{inl, inr, ⊎_elim, arith, rules}
use Rattle.std.proofs.lemmas.Bool.{leb-true, le-leb, cases_lt}

pub le_total : (m n : ℕ) → (nat_le m n ≡ true) ⊎ (nat_le n m ≡ true)
le_total m n = ⊎_elim (λ l. inl (le-leb _ _ (omega arith))) (λ l. inr (le-leb _ _ l)) (cases_lt m n)

pub le_trans : (l m n : ℕ) → nat_le l m ≡ true → nat_le m n ≡ true → nat_le l n ≡ true
le_trans l m n p q = le-leb _ _ (omega (arith, leb-true _ _ p, leb-true _ _ q))

pub le_antisym : (m n : ℕ) → nat_le m n ≡ true → nat_le n m ≡ true → m ≡ n
le_antisym m n p q = omega (arith, leb-true _ _ p, leb-true _ _ q)

pub nat_ordered : (m n : ℕ) → nat_le m n ≡ is_le (nat_cmp m n)
nat_ordered m n = search rules
