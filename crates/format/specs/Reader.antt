-- What the reader answers of a plant file.
use Rattle.std.specs.Prelude.{◌≡◌, ℕ, ◌+◌, ◌*◌, true, List, ◌++◌, map, length, drop, Ok, Err, Result}
use Rattle.plants.specs.Columns.{Columns}
use Rattle.plants.specs.Index.{joined, firsts, grouped}
use Rattle.plants.specs.Faults.{counts_fit}
use Rattle.format.specs.declared.counts.Counts.{Counts}
use Rattle.format.specs.declared.counts.Space.{Space}
use Rattle.format.specs.Lanes.{LaneLists}
use Rattle.format.specs.declared.marks.Mark.{Mark as MarkPlace}
use Rattle.format.specs.declared.plant_lines.PlantLines.{PlantLines}
use Rattle.format.specs.declared.fault.ReadFault.{ReadFault}
use Rattle.format.specs.declared.plant_file.PlantFile.{PlantFile}
use Rattle.format.specs.Plain.{Mark, Plain, tails, heads, costs, to_row, from_row}
use Rattle.format.specs.Checks.{Room, has_room, has_counts}
use Rattle.format.specs.Faults.{told}
use Rattle.format.specs.Read.{read}
use Rattle.format.specs.Reads.{Sized, LanesKept, MarksKept}
use Rattle.format.specs.Space.{room_for, space_of}
use Rattle.format.specs.Turns.{got, lost, lines}

-- the room that a caller's limits and lists leave
abbrev pub room_of : Counts → Columns → Room
room_of limits lists nodes lanes landmarks = room_for (record { nodes = nodes; lanes = lanes; landmarks = landmarks }) limits (space_of lists)

-- a plant whose lines are read, whose counts are lawful and for which there is room
pub record Roomy (room : Room) (t rest : List ℕ) (p : Plain) : Type 0 where
  pub read_as : lines t ≡ got p rest
  pub counted : has_counts p ≡ true
  pub has : has_room room p ≡ true

-- a refusal is the definition's, with its places and line
abbrev pub Refuses : Room → List ℕ → ReadFault → Type 0
Refuses room t f = read room t ≡ lost (told f)

-- a plant of which the lines were read, and the counts and the room tested; and the lists that its lanes and landmarks are kept in, before and after
pub record Tested (limits : Counts) (s : Space) (t : List ℕ) (lanes lanes' : LaneLists) (marks marks' : List MarkPlace) (l : PlantLines) : Type 0 where
  pub plant : Plain
  pub read_as : lines t ≡ got plant (drop l.end t)
  pub sized : Sized plant l.counts
  pub lanes_kept : LanesKept plant.lanes lanes lanes'
  pub marks_kept : MarksKept plant.nodes plant.marks marks marks'
  pub fit : counts_fit l.counts.nodes l.counts.lanes l.counts.landmarks ≡ true
  pub room : room_for l.counts limits s ≡ true

abbrev pub ReadTested : Counts → Space → List ℕ → LaneLists → LaneLists → List MarkPlace → List MarkPlace → Result PlantLines ReadFault → Type 0
ReadTested limits s t lanes lanes' marks marks' (Ok l) = Tested limits s t lanes lanes' marks marks' l
ReadTested limits s t lanes lanes' marks marks' (Err f) = (lists : Columns) → s ≡ space_of lists → Refuses (room_of limits lists) t f

-- the lists after a plant with these lanes was written into them
pub record Written (nodes : ℕ) (tails heads costs : List ℕ) (before after : Columns) : Type 0 where
  pub tails_are : after.tails ≡ tails ++ drop (length tails) before.tails
  pub heads_are : after.heads ≡ heads ++ drop (length heads) before.heads
  pub costs_are : after.costs ≡ costs ++ drop (length costs) before.costs
  pub out_is : after.first_out ≡ firsts nodes tails ++ drop (nodes + 1) before.first_out
  pub in_is : after.first_in ≡ firsts nodes heads ++ drop (nodes + 1) before.first_in
  pub by_is : after.by_head ≡ grouped nodes heads ++ drop (length tails) before.by_head

-- the two tables of each landmark, one after another
pub record TablesWritten (n : ℕ) (ms : List Mark) (before after : Columns) : Type 0 where
  pub to_is : after.to ≡ joined (map to_row ms) ++ drop (length ms * n) before.to
  pub from_is : after.from ≡ joined (map from_row ms) ++ drop (length ms * n) before.from

pub record Accepts (room : Room) (t : List ℕ) (before after : Columns) (file : PlantFile) : Type 0 where
  pub plant : Plain
  pub read_is : read room t ≡ got plant (drop file.end t)
  pub roomy : Roomy room t (drop file.end t) plant
  pub sized : Sized plant file.counts
  pub lines_are : file.lines ≡ 1 + file.counts.lanes + file.counts.landmarks
  pub written : Written plant.nodes (tails plant) (heads plant) (costs plant) before after
  pub tables : TablesWritten plant.nodes plant.marks before after

-- the answer, and the lists before and after
abbrev pub ReadAs : Room → List ℕ → Columns → Columns → Result PlantFile ReadFault → Type 0
ReadAs room t before after (Ok file) = Accepts room t before after file
ReadAs room t before after (Err f) = Refuses room t f × (after ≡ before)
