-- How the reader's faults are told.
use Rattle.std.specs.Prelude.{ℕ, ◌+◌, ◌-◌, ◌^◌, min, Some, None, Ok, Err, Option, Result}
use Rattle.plants.specs.declared.fault.PlantFault.{PlantFault}
use Rattle.plants.specs.declared.fault.PlantFault.TheVariants.{Counts, Lengths, Ends, Cost, Index, Table}
use Rattle.plants.specs.Told.{refusal_of as plant_refusal}
use Rattle.format.specs.declared.fault.ReadFault.{ReadFault}
use Rattle.format.specs.declared.fault.ReadFault.TheVariants.{NoForm, Form, Number, Short, Plant}
use Rattle.format.specs.declared.fault.Placed.{Placed}
use Rattle.format.specs.declared.phase.Unfit.{Unfit}
use Rattle.plant.specs.declared.refusal.Layer.TheVariants.{Text as TextLayer, Form as FormLayer, Search as SearchLayer}
use Rattle.plant.specs.declared.refusal.Refusal.{Refusal}
use Rattle.format.specs.Turns.{Fault}

-- a sum of line numbers, held at the greatest number of 64 bits
abbrev pub later : ℕ → ℕ → ℕ
later a b = min (a + b) (2 ^ 64 - 1)

-- the line that a plant's fault stands on, in a file with so many lanes: the plant's, the lane's or the landmark's
abbrev pub line_of : PlantFault → ℕ → ℕ
line_of Counts lanes = 1
line_of Lengths lanes = 1
line_of (Ends k) lanes = later k 2
line_of (Cost k) lanes = later k 2
line_of Index lanes = 1
line_of (Table m k) lanes = later (later m lanes) 2

abbrev pub read_fault : Placed → ReadFault
read_fault p = Plant p.fault (line_of p.fault p.lanes)

-- a line that is no form
abbrev pub unfit_fault : Unfit → ReadFault
unfit_fault u = NoForm u.line u.byte

abbrev pub with_lanes : ℕ → Result (Unit {0}) PlantFault → Result (Unit {0}) Placed
with_lanes lanes (Ok u) = Ok u
with_lanes lanes (Err f) = Err (record { fault = f; lanes = lanes })

-- the number, layer and places of each fault of a text
abbrev pub read_refusal : ReadFault → Refusal
read_refusal (NoForm line byte) = record { number = 13; layer = TextLayer; first = line; second = byte }
read_refusal (Form line) = record { number = 14; layer = FormLayer; first = line; second = 0 }
read_refusal (Number line byte) = record { number = 15; layer = FormLayer; first = line; second = byte }
read_refusal Short = record { number = 8; layer = SearchLayer; first = 0; second = 0 }
read_refusal (Plant fault line) = plant_refusal fault

abbrev pub added_line : ReadFault → Option ℕ
added_line (NoForm line byte) = None
added_line (Form line) = None
added_line (Number line byte) = None
added_line Short = None
added_line (Plant fault line) = Some line

-- the line that is added, 0 where none is
abbrev pub line_or_none : Option ℕ → ℕ
line_or_none None = 0
line_or_none (Some line) = line

-- the fault as reading is defined to give it
abbrev pub told : ReadFault → Fault
told f = record {
  number = (read_refusal f).number;
  first = (read_refusal f).first;
  second = (read_refusal f).second;
  at = line_or_none (added_line f);
}
