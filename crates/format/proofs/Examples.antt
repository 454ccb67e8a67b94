-- Reading computes: the small floor is read, and refusals name their places.
use Rattle.std.proofs.Common.{◌≡◌, ℕ, true, ◌&&◌, leb, List, [], ◌∷◌, ◌++◌, codes, refl}
use Rattle.format.specs.Plain.{Plain, Lane, Lawful}
use Rattle.format.specs.Form.{scan, belongs}
use Rattle.format.specs.Items.{unsound, many, triple, table, plant_form, lane_form, mark_form}
use Rattle.format.specs.Turns.{Got, got, lost, tokens, form, forms, lines}
use Rattle.format.specs.Checks.{loose, failing, contradicted, Room, tested}
use Rattle.format.specs.Read.{read}
use Rattle.format.specs.Written.{written}
use Rattle.std.specs.Fmt.{digits as spell}
use Rattle.format.proofs.AcceptsOnly.{read_is_written}

abbrev wide : Room
wide n l m = true

-- as the program has it
abbrev narrow : Room
narrow n l m = leb n 128 && (leb l 512 && leb m 4)

-- what reading opens
abbrev computed : Room → List ℕ → Got Plain
unfolding scan belongs unsound many triple table plant_form lane_form mark_form tokens form forms lines loose failing contradicted tested read
computed room t = read room t

abbrev fault : ℕ → ℕ → ℕ → ℕ → Got Plain
fault n first second at = lost (record { number = n; first = first; second = second; at = at })

abbrev lane : ℕ → ℕ → ℕ → Lane
lane t h c = record { tail = t; head = h; cost = c }

-- (plant 4 5 1) (lane 0 1 4) (lane 0 2 10) (lane 1 2 5) (lane 1 3 12) (lane 2 3 1)
abbrev floor : List ℕ
floor = codes "(plant 4 5 1)\n(lane 0 1 4)\n(lane 0 2 10)\n(lane 1 2 5)\n(lane 1 3 12)\n(lane 2 3 1)\n"

-- (mark (to 10 6 1 0) (from - - - 0))
abbrev mark : List ℕ
mark = codes "(mark (to 10 6 1 0) (from - - - 0))\n"

-- (mark (to 10 7 1 0) (from - - - 0))
abbrev wrong_mark : List ℕ
wrong_mark = codes "(mark (to 10 7 1 0) (from - - - 0))\n"

abbrev plant : Plain
plant = record {
  nodes = 4;
  lanes = lane 0 1 4 ∷ lane 0 2 10 ∷ lane 1 2 5 ∷ lane 1 3 12 ∷ lane 2 3 1 ∷ [];
  marks = record { to = 10 ∷ 6 ∷ 1 ∷ 0 ∷ []; from = 4294967295 ∷ 4294967295 ∷ 4294967295 ∷ 0 ∷ [] } ∷ [];
}

pub reads_floor : read wide (floor ++ (mark ++ (7 ∷ []))) ≡ got plant (7 ∷ [])
unfolding computed
reads_floor = refl

-- so the floor is a lawful plant
pub lawful_floor : Lawful plant
lawful_floor = (read_is_written wide (floor ++ (mark ++ (7 ∷ []))) plant (7 ∷ []) reads_floor).0

pub writes_floor : written plant ≡ floor ++ mark
unfolding computed written spell
writes_floor = refl

pub refuses_table : read wide (floor ++ wrong_mark) ≡ fault 6 0 2 7
unfolding computed
refuses_table = refl

-- (lane 00 1 4)
pub refuses_zero : read wide (codes "(plant 4 5 1)\n(lane 00 1 4)\n") ≡ fault 15 2 7 0
unfolding computed
refuses_zero = refl

-- (plant 4 4294967295 1)
pub refuses_large : read wide (codes "(plant 4 4294967295 1)\n") ≡ fault 15 1 10 0
unfolding computed
refuses_large = refl

-- (lane - 1 4)
pub refuses_hyphen : read wide (codes "(plant 4 5 1)\n(lane - 1 4)\n") ≡ fault 14 2 0 0
unfolding computed
refuses_hyphen = refl

-- (lane, a tab, 0 1 4)
pub refuses_tab : read wide (codes "(plant 4 5 1)\n(lane\t0 1 4)\n") ≡ fault 13 2 6 0
unfolding computed
refuses_tab = refl

-- (plant 4 and the end
pub refuses_end : read wide (codes "(plant 4") ≡ fault 13 1 9 0
unfolding computed
refuses_end = refl

-- a mark where a lane is due
pub refuses_turn : read wide (codes "(plant 4 1 1)\n(mark (to 1 2 3 4) (from 1 2 3 4))\n") ≡ fault 14 2 0 0
unfolding computed
refuses_turn = refl

-- (mark (to (1)))
pub refuses_third_depth : read wide (codes "(mark (to (1)))\n") ≡ fault 13 1 11 0
unfolding computed
refuses_third_depth = refl

-- (plant 0 0 0)
pub refuses_counts : read wide (codes "(plant 0 0 0)\n") ≡ fault 1 0 0 1
unfolding computed
refuses_counts = refl

-- a falling tail
pub refuses_fall : read wide (codes "(plant 3 2 0)\n(lane 1 2 4)\n(lane 0 2 4)\n") ≡ fault 3 1 0 3
unfolding computed
refuses_fall = refl

-- a cost above 1000000
pub refuses_cost : read wide (codes "(plant 3 1 0)\n(lane 1 2 1000001)\n") ≡ fault 4 0 0 2
unfolding computed
refuses_cost = refl

-- (mark (to 0 1) (from - 05))
pub refuses_nested_zero : read wide (codes "(plant 2 0 1)\n(mark (to 0 1) (from - 05))\n") ≡ fault 15 2 24 0
unfolding computed
refuses_nested_zero = refl

-- (plant 129 0 0), with room for 128 nodes
pub refuses_room : read narrow (codes "(plant 129 0 0)\n") ≡ fault 8 0 0 0
unfolding computed
refuses_room = refl
