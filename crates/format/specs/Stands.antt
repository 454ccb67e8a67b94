-- What is promised of the format.
use Rattle.std.specs.Prelude.{◌≡◌, ℕ, true, ◌↔◌, List, ◌++◌}
use Rattle.format.specs.Plain.{Plain, Lawful}
use Rattle.format.specs.Written.{written}
use Rattle.format.specs.Turns.{got}
use Rattle.format.specs.Checks.{Room, has_room}
use Rattle.format.specs.Read.{read}

-- a text is accepted exactly when it begins with what the writer writes for some lawful plant, and that plant is read
abbrev pub FormatStands : Type 0
FormatStands = (room : Room) (t : List ℕ) (p : Plain) (rest : List ℕ) → (read room t ≡ got p rest) ↔ (Lawful p × (has_room room p ≡ true) × (t ≡ written p ++ rest))
