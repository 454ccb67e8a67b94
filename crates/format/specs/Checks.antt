-- The tests on a plant after its last line: 1, 8, 3, 4, 6, each over the whole plant.
use Rattle.std.specs.Prelude.{ℕ, suc, ◌+◌, Bool, true, false, ◌&&◌, List, [], ◌∷◌, length, Some, None, Option, nat_le, nat_lt, slice_index}
use Rattle.format.specs.Plain.{Lane, Mark, Plain, joined}
use Rattle.format.specs.Turns.{Fault}

abbrev pub counted : ℕ → ℕ → ℕ → Bool
counted n l m = nat_le 1 n && (nat_le n 4096 && (nat_le l 16384 && nat_le m 16))

abbrev pub fits_ends : ℕ → ℕ → Lane → Bool
fits_ends nodes prev l = nat_lt l.tail nodes && (nat_lt l.head nodes && nat_le prev l.tail)

-- the first lane, from lane k on, with an end that is no node or a tail below the one before
unfoldable pub loose : ℕ → ℕ → ℕ → List Lane → Option ℕ
loose nodes prev k [] = None
loose nodes prev k (l ∷ ls) = elim (fits_ends nodes prev l) [ true ↦ loose nodes l.tail (suc k) ls | false ↦ Some k ]

-- the first, from number k on, that fails a test
unfoldable pub failing : {A : Type 0} → (A → Bool) → ℕ → List A → Option ℕ
failing f k [] = None
failing f k (x ∷ xs) = elim (f x) [ true ↦ failing f (suc k) xs | false ↦ Some k ]

abbrev pub fits_cost : Lane → Bool
fits_cost l = nat_le l.cost 1000000

abbrev pub fits_table : Mark → Lane → Bool
fits_table m l =
    nat_le (slice_index m.to l.tail) (joined l.cost (slice_index m.to l.head)) &&
    nat_le (slice_index m.from l.head) (joined (slice_index m.from l.tail) l.cost)

abbrev pub or_mark : ℕ → ℕ → Option ℕ → Option Fault → Option Fault
or_mark m n None more = more
or_mark m n (Some k) more = Some (record { number = 6; first = m; second = k; at = n })

-- the first landmark, from landmark m on line n on, and lane that contradicts it
unfoldable pub contradicted : List Lane → ℕ → ℕ → List Mark → Option Fault
contradicted ls m n [] = None
contradicted ls m n (x ∷ xs) = or_mark m n (failing (fits_table x) 0 ls) (contradicted ls (suc m) (suc n) xs)

-- the fault n at a lane, with the lane's line
abbrev pub at_lane : ℕ → Option ℕ → Option Fault → Option Fault
at_lane n None more = more
at_lane n (Some k) more = Some (record { number = n; first = k; second = 0; at = 2 + k })

-- whether the reader's lists have room for so many nodes, lanes and landmarks
abbrev pub Room : Type 0
Room = ℕ → ℕ → ℕ → Bool

abbrev pub has_room : Room → Plain → Bool
has_room room p = room p.nodes (length p.lanes) (length p.marks)

abbrev pub has_counts : Plain → Bool
has_counts p = counted p.nodes (length p.lanes) (length p.marks)

unfoldable pub tested : Room → Plain → Option Fault
tested room p =
    elim (has_counts p) [
      | true ↦ elim (has_room room p) [
        | true ↦
            at_lane 3 (loose p.nodes 0 0 p.lanes)
            (at_lane 4 (failing fits_cost 0 p.lanes)
            (contradicted p.lanes 0 (2 + length p.lanes) p.marks))
        | false ↦ Some (record { number = 8; first = 0; second = 0; at = 0 })
      ]
      | false ↦ Some (record { number = 1; first = 0; second = 0; at = 1 })
    ]
