-- What a shift has closed, and which fault a close or a reopen has.
use Rattle.std.specs.Prelude.{ℕ, Bool, cond, List, reverse, length, Some, None, Option, nat_lt}
use Rattle.plant.specs.declared.layers.shift.Shift.{Shift}
use Rattle.plant.specs.declared.layers.shift.ShiftFault.{ShiftFault}
use Rattle.plant.specs.declared.layers.shift.ShiftFault.TheVariants.{NoLane, Closed, Full, Open}
use Rattle.plant.specs.declared.refusal.Refusal.{Refusal}
use Rattle.plant.specs.declared.refusal.Layer.TheVariants.{Shift as shift_layer}
use Rattle.plant.specs.Closed.{among}

-- the numbers of the closed lanes, the latest first
abbrev pub closed_list : {P : Type 0} → Shift P → List ℕ
closed_list s = reverse s.closed.items

abbrev pub is_shut : {P : Type 0} → Shift P → ℕ → Bool
is_shut s n = among (closed_list s) n

-- of a plant with so many lanes, of which some are closed
abbrev pub close_fault : ℕ → List ℕ → ℕ → Option ShiftFault
close_fault lanes closed n =
    cond (nat_lt n lanes)
    (cond (among closed n) (Some (Closed n)) (cond (nat_lt (length closed) 64) None (Some (Full n))))
    (Some (NoLane n))

abbrev pub reopen_fault : ℕ → List ℕ → ℕ → Option ShiftFault
reopen_fault lanes closed n = cond (nat_lt n lanes) (cond (among closed n) None (Some (Open n))) (Some (NoLane n))

abbrev told : ℕ → ℕ → Refusal
told number n = record { number = number; layer = shift_layer; first = n; second = 0 }

abbrev pub refusal_of : ShiftFault → Refusal
refusal_of (NoLane n) = told 9 n
refusal_of (Closed n) = told 10 n
refusal_of (Full n) = told 11 n
refusal_of (Open n) = told 12 n
