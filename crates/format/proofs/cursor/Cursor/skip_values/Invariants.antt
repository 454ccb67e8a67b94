use Rattle.std.proofs.Common.{◌≡◌, ◌-◌, List}
use Rattle.format.specs.Form.{Token}
use Rattle.format.specs.Items.{values}
use Rattle.format.specs.Places.{TokensAt, passed}
use Rattle.format.proofs.cursor.Cursor.skip_values.Given as goal

-- the values that are still to be passed stand from here on
abbrev pub invariant-loop : goal.invariant-loop
invariant-loop l =
    (ts : List Token) → TokensAt l.initial.self.line.text.now l.initial.self.at ts → (us : List Token) × TokensAt l.self.line.text.now l.self.at us × (passed (values l.count ts) ≡ passed (values (l.count - l.counter) us))
