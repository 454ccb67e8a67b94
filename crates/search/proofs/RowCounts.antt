-- How many rows are open, and how many are scanned.
use Rattle.std.proofs.Common.{◌≡◌, ℕ, zero, suc, ◌<◌, ◌≤◌, Bool, true, false, cond, List, [], ◌∷◌, length, set, sym, refl, ap, ◌∙◌, one-add, arith}
use Rattle.std.specs.List.{count_by}
use Rattle.std.proofs.lemmas.Bool.{cond_both}
use Rattle.std.proofs.lemmas.List.Recursion.{is_count_by}
use Rattle.cost.specs.Kind.{Kind}
use Rattle.search.specs.declared.row.Row.{Row}
use Rattle.search.specs.Rows.{is_open, is_scanned, blank_rows, row_at}
use Rattle.search.specs.Steps.{count_scanned}

-- how many rows are open
abbrev pub count_open : {C : Type 0} → List (Row C) → ℕ
count_open [] = 0
count_open (r ∷ rs) = cond (is_open r.state) (suc (count_open rs)) (count_open rs)

pub count_open_all : {C : Type 0} (rows : List (Row C)) → count_open rows ≤ length rows
count_open_all [] = omega arith
count_open_all (r ∷ rs) = let h = count_open_all rs in cond_both (is_open r.state) (suc (count_open rs)) (count_open rs) (λ n. n ≤ suc (length rs)) (λ e. omega arith) (λ e. omega arith)

pub open_set-same : {C : Type 0} (k : Kind C) (rows : List (Row C)) (w : ℕ) (r : Row C) → is_open r.state ≡ is_open (row_at k rows w).state → count_open (set rows w r) ≡ count_open rows
open_set-same k [] w r e = refl
open_set-same k (x ∷ xs) zero r e = ap (λ t. cond t (suc (count_open xs)) (count_open xs)) e
open_set-same k (x ∷ xs) (suc w) r e = ap (λ n. cond (is_open x.state) (suc n) n) (open_set-same k xs w r e)

one_less : (t : Bool) {m n : ℕ} → suc m ≡ n → suc (cond t (suc m) m) ≡ cond t (suc n) n
one_less true e = ap suc e
one_less false e = e

pub open_set_less : {C : Type 0} (k : Kind C) (rows : List (Row C)) (w : ℕ) (r : Row C) → w < length rows → is_open (row_at k rows w).state ≡ true → is_open r.state ≡ false → suc (count_open (set rows w r)) ≡ count_open rows
open_set_less k [] w r h a b = absurd (omega arith)
open_set_less k (x ∷ xs) zero r h a b = simp (a, b)
open_set_less k (x ∷ xs) (suc w) r h a b = one_less (is_open x.state) (open_set_less k xs w r (omega arith) a b)

-- how many rows are scanned
module _ {C : Type 0} (k : Kind C) where
  pub count_blank : (n : ℕ) → count_scanned (blank_rows k n) ≡ 0
  count_blank zero = refl
  count_blank (suc n) = count_blank n

  pub count_set_same : (rows : List (Row C)) (v : ℕ) (r : Row C) → is_scanned r.state ≡ is_scanned (row_at k rows v).state → count_scanned (set rows v r) ≡ count_scanned rows
  count_set_same [] v r e = refl
  count_set_same (x ∷ rs) zero r e = ap (λ b. cond b (suc (count_scanned rs)) (count_scanned rs)) e
  count_set_same (x ∷ rs) (suc v) r e = ap (λ n. cond (is_scanned x.state) (suc n) n) (count_set_same rs v r e)

  pub count_set_more : (rows : List (Row C)) (v : ℕ) (r : Row C) → v < length rows → is_scanned (row_at k rows v).state ≡ false → is_scanned r.state ≡ true → count_scanned (set rows v r) ≡ suc (count_scanned rows)
  count_set_more [] v r h p q = absurd (omega arith)
  count_set_more (x ∷ rs) zero r h p q = rw (p, q)
  count_set_more (x ∷ rs) (suc v) r h p q =
      ap (λ n. cond (is_scanned x.state) (suc n) n) (count_set_more rs v r (omega arith) p q) ∙ swap (is_scanned x.state) (count_scanned rs)
    where
      swap : (b : Bool) (n : ℕ) → cond b (suc (suc n)) (suc n) ≡ suc (cond b (suc n) n)
      swap true n = refl
      swap false n = refl

  pub count_le : (rows : List (Row C)) → count_scanned rows ≤ length rows
  count_le [] = omega arith
  count_le (x ∷ rs) = bound (is_scanned x.state) (count_le rs)
    where
      bound : (b : Bool) → count_scanned rs ≤ length rs → cond b (suc (count_scanned rs)) (count_scanned rs) ≤ suc (length rs)
      bound true h = omega arith
      bound false h = omega arith

  -- a row that is not scanned leaves the count short
  pub count_lt : (rows : List (Row C)) (v : ℕ) → v < length rows → is_scanned (row_at k rows v).state ≡ false → count_scanned rows < length rows
  count_lt [] v h p = absurd (omega arith)
  count_lt (x ∷ rs) zero h p = let c = count_le rs in rw p (omega arith)
  count_lt (x ∷ rs) (suc v) h p = bound (is_scanned x.state) (count_lt rs v (omega arith) p)
    where
      bound : (b : Bool) → count_scanned rs < length rs → cond b (suc (count_scanned rs)) (count_scanned rs) < suc (length rs)
      bound true h = omega arith
      bound false h = omega arith

  -- rows that differ in no mark have one count
  pub count_same : (xs ys : List (Row C)) → length xs ≡ length ys → ((v : ℕ) → is_scanned (row_at k xs v).state ≡ is_scanned (row_at k ys v).state) → count_scanned xs ≡ count_scanned ys
  count_same [] [] l h = refl
  count_same [] (y ∷ ys) l h = absurd (omega arith)
  count_same (x ∷ xs) [] l h = absurd (omega arith)
  count_same (x ∷ xs) (y ∷ ys) l h = let r = count_same xs ys (omega arith) (λ v. h (suc v)) in let e = h 0 in ap (λ t. cond t (suc (count_scanned xs)) (count_scanned xs)) e ∙ ap (λ n. cond (is_scanned y.state) (suc n) n) r

-- the rows from i on have the count of those after it, and one more where the row of i is scanned

pub count_scanned_by : {C : Type 0} (rows : List (Row C)) → count_scanned rows ≡ count_by (λ r. is_scanned r.state) rows
count_scanned_by {C} rows = is_count_by (λ (xs : List (Row C)). count_scanned xs) (λ r. is_scanned r.state) refl (λ x xs. ap (λ n. cond (is_scanned x.state) n (count_scanned xs)) (sym (one-add (count_scanned xs)))) rows
