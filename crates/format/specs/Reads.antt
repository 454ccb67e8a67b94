-- What the code reads of each kind of line.
use Rattle.std.specs.Prelude.{◌≡◌, ℕ, ◌+◌, ◌<◌, ◌≤◌, List, [], ◌∷◌, ◌++◌, map, length, drop, Some, None, Ok, Err, Option, Result, slice_index}
use Rattle.format.specs.declared.fault.ReadFault.{ReadFault}
use Rattle.format.specs.Lanes.{LaneLists}
use Rattle.format.specs.declared.marks.Mark.{Mark as MarkPlace}
use Rattle.format.specs.declared.line.Whole.{Whole}
use Rattle.format.specs.declared.cursor.Cursor.{Cursor}
use Rattle.format.specs.declared.counts.Counts.{Counts}
use Rattle.format.specs.declared.plant_lines.PlantLines.{PlantLines}
use Rattle.format.specs.Plain.{Lane, Mark, Plain}
use Rattle.format.specs.Items.{Took}
use Rattle.format.specs.Faults.{told}
use Rattle.format.specs.Turns.{Got, got, lost, lines}
use Rattle.format.specs.Places.{TookTo, ValuesAt}

-- the numbers of a list of three
abbrev pub triple_of : List ℕ → ℕ × ℕ × ℕ
triple_of xs = (slice_index xs 0, slice_index xs 1, slice_index xs 2)

-- a line of three numbers
abbrev pub NumbersRead : List ℕ → Got (ℕ × ℕ × ℕ) → Result (Whole (List ℕ)) ReadFault → Type 0
NumbersRead src g (Ok l) = g ≡ got (triple_of l.form) (drop l.end src)
NumbersRead src g (Err f) = g ≡ lost (told f)

-- the n values of a table stand from a place on
abbrev pub ValuesFrom : ℕ → List ℕ → Cursor → Type 0
ValuesFrom n xs c = ValuesAt c.line.text.now c.at xs n

-- a table with n values, of which the code keeps where they stand
abbrev pub TookTable : ℕ → Cursor → Took (List ℕ) → Option Cursor → Type 0
TookTable n c t r = TookTo (ValuesFrom n) c t r

-- where the two tables of a landmark stand
abbrev pub MarkAt : ℕ → Mark → MarkPlace → Type 0
MarkAt n m x = ValuesFrom n m.to x.to × ValuesFrom n m.from x.from

abbrev pub MarkTaken : ℕ → Option Mark → Option MarkPlace → Type 0
MarkTaken n None None = Unit {0}
MarkTaken n None (Some x) = ⊥
MarkTaken n (Some m) None = ⊥
MarkTaken n (Some m) (Some x) = MarkAt n m x

-- a landmark's line
abbrev pub MarkRead : ℕ → List ℕ → Got Mark → Result (Whole MarkPlace) ReadFault → Type 0
MarkRead n src g (Ok l) = (m : Mark) × (g ≡ got m (drop l.end src)) × MarkAt n m l.form
MarkRead n src g (Err f) = g ≡ lost (told f)

-- a list to which some items were added, if it had room for all
abbrev pub Pushed : {A : Type 0} → ℕ → List A → List A → List A → Type 0
Pushed room xs before after = length before + length xs ≤ room → after ≡ before ++ xs

-- a lane added to three lists, each if it has room
abbrev pub LanePushed : ℕ → ℕ → ℕ → LaneLists → LaneLists → Type 0
LanePushed tail head cost before after =
    (length before.tails.items < 16384 → after.tails.items ≡ before.tails.items ++ tail ∷ [])
    × (length before.heads.items < 16384 → after.heads.items ≡ before.heads.items ++ head ∷ [])
    × (length before.costs.items < 16384 → after.costs.items ≡ before.costs.items ++ cost ∷ [])

-- the lanes that were read, by column, and the lists before and after
pub record LanesKept (ls : List Lane) (before after : LaneLists) : Type 0 where
  pub tails_kept : Pushed 16384 (map (λ (l : Lane). l.tail) ls) before.tails.items after.tails.items
  pub heads_kept : Pushed 16384 (map (λ (l : Lane). l.head) ls) before.heads.items after.heads.items
  pub costs_kept : Pushed 16384 (map (λ (l : Lane). l.cost) ls) before.costs.items after.costs.items

-- where the tables of each landmark stand
abbrev pub MarksAt : ℕ → List Mark → List MarkPlace → Type 0
MarksAt n [] [] = Unit {0}
MarksAt n [] (x ∷ xs) = ⊥
MarksAt n (m ∷ ms) [] = ⊥
MarksAt n (m ∷ ms) (x ∷ xs) = MarkAt n m x × MarksAt n ms xs

-- the landmarks that were read, added to a list if it had room for all
abbrev pub MarksKept : ℕ → List Mark → List MarkPlace → List MarkPlace → Type 0
MarksKept n ms before after = length before + length ms ≤ 16 → (xs : List MarkPlace) × (after ≡ before ++ xs) × MarksAt n ms xs

-- so many lines of a kind, and what is kept of them
abbrev pub LinesRead : {A : Type 0} → List ℕ → ℕ → (List A → Type 0) → Got (List A) → Result ℕ ReadFault → Type 0
LinesRead {A} src count Kept g (Ok e) = (xs : List A) × (g ≡ got xs (drop e src)) × (length xs ≡ count) × Kept xs
LinesRead {A} src count Kept g (Err f) = g ≡ lost (told f)

-- the counts of a plant
pub record Sized (p : Plain) (c : Counts) : Type 0 where
  pub nodes : p.nodes ≡ c.nodes
  pub lanes : length p.lanes ≡ c.lanes
  pub marks : length p.marks ≡ c.landmarks

-- all lines of a plant file, and the lists that lanes and landmarks are kept in, before and after
abbrev pub PlantRead : List ℕ → LaneLists → LaneLists → List MarkPlace → List MarkPlace → Result PlantLines ReadFault → Type 0
PlantRead src lanes lanes' marks marks' (Ok l) =
    (p : Plain) × (lines src ≡ got p (drop l.end src)) × Sized p l.counts × LanesKept p.lanes lanes lanes' × MarksKept p.nodes p.marks marks marks'
PlantRead src lanes lanes' marks marks' (Err f) = lines src ≡ lost (told f)
