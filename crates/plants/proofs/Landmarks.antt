-- A walk over the landmarks, one turn at a time.
use Rattle.std.proofs.Common.{◌≡◌, ℕ, suc, ◌+◌, ◌-◌, ◌*◌, ◌<◌, ◌≤◌, List, ◌++◌, length, take, drop, Some, None, Option, sym, ap, ◌∙◌, ⊎_elim, mul-le-mul_right, add-mul, one-mul, arith, length-append, length-drop}
use Rattle.std.proofs.Math.Seq.{take-append_seam, drop-append_seam, drop-drop}
use Rattle.std.proofs.lemmas.Bool.{cases_lt}
use Rattle.plants.specs.declared.fault.PlantFault.{PlantFault}
use Rattle.plants.specs.declared.fault.PlantFault.TheVariants.{Table}
use Rattle.plants.specs.Columns.{Columns, lane_count, row}
use Rattle.plants.specs.Faults.{first_failing, or_else, table_fits, table_fault}
use Rattle.plants.proofs.Stages.{walk_named, walk_passes}

-- the part of a table that belongs to landmark m, and what is left after it
pub record Row (n all m : ℕ) (table part later : List ℕ) : Type 0 where
  pub next : m < all
  pub is : part ≡ row n table m
  pub left : later ≡ drop ((m + 1) * n) table

-- a table of all landmarks, of which the first m are passed
module _ (n all m : ℕ) (table rest : List ℕ) (some : 0 < n) (size : length table ≡ all * n) (is : rest ≡ drop (m * n) table) where
  rest_size : length rest ≡ all * n - m * n
  rest_size = omega (arith, ap length is, length-drop (m * n) table, size)

  -- too little is left for one more
  pub rows_end : length rest < n → all ≤ m
  rows_end short =
      ⊎_elim
      (λ (lt : m < all). let le : m + 1 ≤ all = omega arith in omega (arith, rest_size, add-mul m 1 n, one-mul n, mul-le-mul_right n le))
      (λ (le : all ≤ m). le)
      (cases_lt m all)

  -- what is split off is the row of the next landmark
  pub row_next : (part later : List ℕ) → rest ≡ part ++ later → length part ≡ n → Row n all m table part later
  row_next part later split long = record {
    next =
        ⊎_elim
        (λ (lt : m < all). lt)
        (λ (le : all ≤ m). omega (arith, rest_size, ap length split, length-append part later, mul-le-mul_right n le))
        (cases_lt m all);
    is = sym (take-append_seam part later) ∙ (λ i. take (long i) (sym split i)) ∙ ap (take n) is;
    left =
        let e : m * n + n ≡ (m + 1) * n = omega (arith, add-mul m 1 n, one-mul n) in
        sym (drop-append_seam part later) ∙ (λ i. drop (long i) (sym split i)) ∙ ap (drop n) is ∙ drop-drop n (m * n) table ∙ ap (λ (k : ℕ). drop k table) e;
  }

module _ (n all m : ℕ) (c : Columns) (inv : table_fault n c m (all - m) ≡ table_fault n c 0 all) where
  pub walk_ends : all ≤ m → None ≡ table_fault n c 0 all
  walk_ends le = let z : all - m ≡ 0 = omega arith in sym (ap (table_fault n c m) z) ∙ inv

  module _ (landmark : ℕ) (to from : List ℕ) (named : landmark ≡ m) (to_is : to ≡ row n c.to m) (from_is : from ≡ row n c.from m) (lt : m < all) where
    -- the first lane that the test of the landmark's own parts stops at
    abbrev fails : Option ℕ
    fails = first_failing (table_fits c.tails c.heads c.costs to from) 0 (lane_count c)

    found : or_else (λ k. Table landmark k) fails (table_fault n c (m + 1) (all - (m + 1))) ≡ table_fault n c 0 all
    found =
        let e : all - m ≡ suc (all - (m + 1)) = omega arith in
        let s : m + 1 ≡ suc m = omega arith in
        (λ i. or_else (λ k. Table (named i) k) (first_failing (table_fits c.tails c.heads c.costs (to_is i) (from_is i)) 0 (lane_count c)) (table_fault n c (s i) (all - (m + 1))))
        ∙ sym (ap (table_fault n c m) e) ∙ inv

    pub landmark_stops : (e : PlantFault) → Some e ≡ or_else (λ k. Table landmark k) fails None → Some e ≡ table_fault n c 0 all
    landmark_stops e h = walk_named (λ k. Table landmark k) fails e (table_fault n c (m + 1) (all - (m + 1))) h ∙ found

    pub landmark_passes : None ≡ or_else (λ k. Table landmark k) fails None → table_fault n c (m + 1) (all - (m + 1)) ≡ table_fault n c 0 all
    landmark_passes h = ap (λ (o : Option ℕ). or_else (λ k. Table landmark k) o (table_fault n c (m + 1) (all - (m + 1)))) (sym (walk_passes (λ k. Table landmark k) fails h)) ∙ found
