-- Reading a plant file: its lines in turn, then the tests on the plant.
use Rattle.std.specs.Prelude.{ℕ, List, Some, None, Option}
use Rattle.format.specs.Plain.{Plain}
use Rattle.format.specs.Turns.{Fault, Got, got, lost, on, lines}
use Rattle.format.specs.Checks.{Room, tested}

abbrev pub unless : Plain → List ℕ → Option Fault → Got Plain
unless p t None = got p t
unless p t (Some e) = lost e

-- into lists with the given room
unfoldable pub read : Room → List ℕ → Got Plain
read room t = on (lines t) λ p t. unless p t (tested room p)
