use Rattle.std.proofs.Common.{◌≡◌, ◌-◌, List, length, take}
use Rattle.format.specs.Form.{Token}
use Rattle.format.specs.Items.{numbers_form}
use Rattle.format.specs.Places.{TokensAt}
use Rattle.format.proofs.Numbered.{rest_of}
use Rattle.format.proofs.form.take_numbers.Given as goal

-- the numbers that are still to be taken stand from here on
abbrev pub invariant-loop-number : goal.invariant-loop-number
invariant-loop-number g l =
    (length l.number-items ≡ g.row.N) × ((ts : List Token) → TokensAt l.fn.line.text.now l.fn.line.from ts →
    (us : List Token) × TokensAt l.cursor.line.text.now l.cursor.at us × (numbers_form g.row.N l.fn.word ts ≡ rest_of (take l.number-index l.number-items) (g.row.N - l.number-index) us))
