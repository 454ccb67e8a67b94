use Rattle.std.proofs.Common.{ℕ, List, length}
use Rattle.format.specs.Places.{ValuesAt}
use Rattle.format.proofs.Valued.{Filling}
use Rattle.format.proofs.form.fill_values.Given as goal

-- the values below the index are written, and the others stand from here on
abbrev pub invariant-loop-entry : goal.invariant-loop-entry
invariant-loop-entry l = (xs : List ℕ) → ValuesAt l.initial.from.line.text.now l.initial.from.at xs (length l.initial.row) → Filling l.from.line.text.now l.from.at l.entry-index (length l.initial.row) l.row xs
