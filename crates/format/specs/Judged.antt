-- The fault of a plant's lanes and tables, by columns: the first of the tests 3, 4 and 6 that fails.
use Rattle.std.specs.Prelude.{ℕ, suc, List, [], ◌∷◌, length, None, Option}
use Rattle.plants.specs.declared.fault.PlantFault.{PlantFault}
use Rattle.plants.specs.declared.fault.PlantFault.TheVariants.{Ends, Cost, Table}
use Rattle.plants.specs.Faults.{first_failing, or_else, ends_fit, cost_fits, table_fits}
use Rattle.format.specs.Plain.{Mark}

-- the first lane that contradicts landmark m, or else the next test's fault
abbrev pub mark_fault : List ℕ → List ℕ → List ℕ → ℕ → Mark → Option PlantFault → Option PlantFault
mark_fault tails heads costs m k next = or_else (λ j. Table m j) (first_failing (table_fits tails heads costs k.to k.from) 0 (length tails)) next

-- the first landmark, from m on, and lane that contradicts it
abbrev pub marks_fault : List ℕ → List ℕ → List ℕ → ℕ → List Mark → Option PlantFault
marks_fault tails heads costs m [] = None
marks_fault tails heads costs m (k ∷ ks) = mark_fault tails heads costs m k (marks_fault tails heads costs (suc m) ks)

-- ends, then costs, then tables, each over the whole plant
abbrev pub columns_fault : ℕ → List ℕ → List ℕ → List ℕ → List Mark → Option PlantFault
columns_fault nodes tails heads costs marks =
    or_else (λ k. Ends k) (first_failing (ends_fit nodes tails heads) 0 (length tails))
    (or_else (λ k. Cost k) (first_failing (cost_fits costs) 0 (length costs))
    (marks_fault tails heads costs 0 marks))
