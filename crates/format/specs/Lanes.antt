-- The lanes that are read, by column.
use Rattle.std.specs.Prelude.{ℕ}
use Rattle.arrayvec.specs.ArrayVec.{ArrayVec}
use Rattle.format.specs.declared.lanes.LanesOf.{LanesOf}

abbrev pub LaneLists : Type 0
LaneLists = LanesOf (ArrayVec ℕ)
