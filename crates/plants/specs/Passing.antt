-- A chain of tests that finds no fault: each test passes, at each number.
use Rattle.std.proofs.Common.{◌≡◌, ℕ, zero, suc, ◌+◌, ◌<◌, ◌≤◌, Bool, true, false, cond, Some, None, Option, sym, refl, subst, ⊎_elim, arith}
use Rattle.std.proofs.lemmas.Bool.{false≢true, cases_eq}
use Rattle.plants.specs.declared.fault.PlantFault.{PlantFault}
use Rattle.plants.specs.Columns.{Columns, lane_count, row}
use Rattle.plants.specs.Faults.{first_failing, or_else, is_none, table_fits, table_fault}

pub passed : (test : Bool) (next : Option PlantFault) (fault : PlantFault) → is_none (cond test next (Some fault)) ≡ true → (test ≡ true) × (is_none next ≡ true)
passed true next fault h = (refl, h)
passed false next fault h = absurd (false≢true h)

pub passed-each : (fault : ℕ → PlantFault) (found : Option ℕ) (next : Option PlantFault) → is_none (or_else fault found next) ≡ true → (found ≡ None) × (is_none next ≡ true)
passed-each fault None next h = (refl, h)
passed-each fault (Some k) next h = absurd (false≢true h)

pub no_table_fault : (nodes : ℕ) (c : Columns) (m n : ℕ) → is_none (table_fault nodes c m n) ≡ true → (i : ℕ) → m ≤ i → i < m + n → first_failing (table_fits c.tails c.heads c.costs (row nodes c.to i) (row nodes c.from i)) 0 (lane_count c) ≡ None
no_table_fault nodes c m zero h i low high = absurd (omega arith)
no_table_fault nodes c m (suc n) h i low high =
    let r = passed-each _ (first_failing (table_fits c.tails c.heads c.costs (row nodes c.to m) (row nodes c.from m)) 0 (lane_count c)) (table_fault nodes c (suc m) n) h in
    ⊎_elim
    (λ e. subst (λ m'. first_failing (table_fits c.tails c.heads c.costs (row nodes c.to m') (row nodes c.from m')) 0 (lane_count c) ≡ None) (sym e) r.0)
    (λ ne. no_table_fault nodes c (suc m) n r.1 i (omega (arith, ne)) (omega arith))
    (cases_eq i m)
