-- Tests in a row: the first that fails names the fault, and one that passes leaves it to the next.
use Rattle.std.proofs.Common.{◌≡◌, ℕ, suc, ◌+◌, ◌≤◌, true, List, ◌∷◌, length, nat_le, drop, Some, None, Option, sym, refl, ap, ◌∙◌, add-one, arith}
use Rattle.std.proofs.lemmas.Bool.{cond-true, and_parts, and_from, eq-eqb}
use Rattle.std.proofs.lemmas.List.{drop_all}
use Rattle.plants.specs.declared.fault.PlantFault.{PlantFault}
use Rattle.plants.specs.declared.fault.PlantFault.TheVariants.{Ends, Table}
use Rattle.plants.specs.Faults.{first_failing, or_else, counts_fit, index_lengths_fit, ends_fit, table_fits, index_fault}
use Rattle.format.specs.Plain.{Mark}
use Rattle.format.specs.Judged.{mark_fault, marks_fault}

pub named : (fault : ℕ → PlantFault) (o : Option ℕ) (e : PlantFault) (next : Option PlantFault) → Some e ≡ or_else fault o None → Some e ≡ or_else fault o next
named fault None e next h = absurd (let z : ◌≡◌ {A = ℕ} 0 1 = cc in omega arith)
named fault (Some k) e next h = h

pub passes : (fault : ℕ → PlantFault) (o : Option ℕ) (next : Option PlantFault) → None ≡ or_else fault o None → next ≡ or_else fault o next
passes fault None next h = refl
passes fault (Some k) next h = absurd (let z : ◌≡◌ {A = ℕ} 0 1 = cc in omega arith)

-- a walk over the landmarks, one turn at a time
module _ (tails heads costs : List ℕ) (m : ℕ) (ms : List Mark) where
  module _ (k : Mark) (left : drop m ms ≡ k ∷ drop (suc m) ms) where
    abbrev fails : Option ℕ
    fails = first_failing (table_fits tails heads costs k.to k.from) 0 (length tails)

    pub turn_stops : (e : PlantFault) → Some e ≡ mark_fault tails heads costs m k None → Some e ≡ marks_fault tails heads costs m (drop m ms)
    turn_stops e h =
        named (λ j. Table m j) fails e (marks_fault tails heads costs (suc m) (drop (suc m) ms)) h
        ∙ ap (marks_fault tails heads costs m) (sym left)

    pub turn_passes : None ≡ mark_fault tails heads costs m k None → marks_fault tails heads costs (m + 1) (drop (m + 1) ms) ≡ marks_fault tails heads costs m (drop m ms)
    turn_passes h =
        ap (λ i. marks_fault tails heads costs i (drop i ms)) (add-one m)
        ∙ (passes (λ j. Table m j) fails (marks_fault tails heads costs (suc m) (drop (suc m) ms)) h
        ∙ ap (marks_fault tails heads costs m) (sym left))

  pub turns_end : length ms ≤ m → None ≡ marks_fault tails heads costs m (drop m ms)
  turns_end le = sym (ap (marks_fault tails heads costs m) (drop_all m ms le))

-- counts that fit do so without the landmarks
pub counts_without : (nodes lanes landmarks lanes' : ℕ) → counts_fit nodes lanes landmarks ≡ true → lanes' ≡ lanes → counts_fit nodes lanes' 0 ≡ true
counts_without nodes lanes landmarks lanes' e q =
    let a = and_parts (nat_le 1 nodes) _ e in
    let b = and_parts (nat_le nodes 4096) _ a.1 in
    let c = and_parts (nat_le lanes 16384) _ b.1 in
    and_from (nat_le 1 nodes) _ a.0 (and_from (nat_le nodes 4096) _ b.0 (and_from (nat_le lanes' 16384) (nat_le 0 16) (ap (λ l. nat_le l 16384) q ∙ c.0) refl))

-- what was tested already gives an index
pub index_passes : (nodes : ℕ) (tails heads : List ℕ) → counts_fit nodes (length tails) 0 ≡ true → length heads ≡ length tails → None ≡ or_else (λ k. Ends k) (first_failing (ends_fit nodes tails heads) 0 (length tails)) None → index_fault nodes tails heads (nodes + 1) (nodes + 1) (length tails) ≡ None
index_passes nodes tails heads counts long ends =
    let one : nodes + 1 ≡ suc nodes = add-one nodes in
    let sizes : index_lengths_fit nodes (length tails) (length heads) (nodes + 1) (nodes + 1) (length tails) ≡ true =
    and_from _ _ (eq-eqb _ _ long) (and_from _ _ (eq-eqb _ _ one) (and_from _ _ (eq-eqb _ _ one) (eq-eqb (length tails) (length tails) refl))) in
    cond-true _ _ _ counts ∙ (cond-true _ _ _ sizes ∙ sym ends)
