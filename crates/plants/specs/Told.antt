-- How a plant's fault is told: its number, and the places that it names.
use Rattle.std.specs.Prelude.{ℕ}
use Rattle.plant.specs.declared.refusal.Refusal.{Refusal}
use Rattle.plant.specs.declared.refusal.Layer.TheVariants.{Plant}
use Rattle.plants.specs.declared.fault.PlantFault.{PlantFault}
use Rattle.plants.specs.declared.fault.PlantFault.TheVariants.{Counts, Lengths, Ends, Cost, Index, Table}

abbrev pub told : ℕ → ℕ → ℕ → Refusal
told number first second = record { number = number; layer = Plant; first = first; second = second }

abbrev pub refusal_of : PlantFault → Refusal
refusal_of Counts = told 1 0 0
refusal_of Lengths = told 2 0 0
refusal_of (Ends k) = told 3 k 0
refusal_of (Cost k) = told 4 k 0
refusal_of Index = told 5 0 0
refusal_of (Table m k) = told 6 m k
