-- What the code answers of line n: that it is no form or has an unsound number, or where it ends.
use Rattle.std.specs.Prelude.{◌≡◌, ℕ, ◌⊎◌, List, drop, Some, None, Option, Ok, Err, Result}
use Rattle.format.specs.declared.fault.ReadFault.{ReadFault}
use Rattle.format.specs.declared.fault.ReadFault.TheVariants.{Form}
use Rattle.format.specs.declared.line.Whole.{Whole}
use Rattle.format.specs.declared.token.Line.{Line}
use Rattle.format.specs.Form.{Token}
use Rattle.format.specs.Faults.{told}
use Rattle.format.specs.Places.{TokensAt, TokensIn}
use Rattle.format.specs.Turns.{got, lost, tokens}

abbrev pub Checked : ℕ → List ℕ → ℕ → Result ℕ ReadFault → Type 0
Checked n src from (Ok e) = (ts : List Token) × (tokens n (drop from src) ≡ got ts (drop e src)) × TokensAt src from ts
Checked n src from (Err f) = tokens n (drop from src) ≡ lost (told f)

-- the line failed its tests, or it passed them and is not the form that the code takes
pub record Misformed {T : Type 0} (l : Line) (post : Option T → Type 0) (f : ReadFault) : Type 0 where
  pub ts : List Token
  pub rest : List ℕ
  pub line : tokens l.number (drop l.from l.text.now) ≡ got ts rest
  pub here : TokensIn l ts
  pub none : post None
  pub is : f ≡ Form l.number

abbrev pub WholeCases : {T : Type 0} → Line → (Option T → Type 0) → Result (Whole T) ReadFault → Type 0
WholeCases l post (Ok w) = (ts : List Token) × (tokens l.number (drop l.from l.text.now) ≡ got ts (drop w.end l.text.now)) × TokensIn l ts × post (Some w.form)
WholeCases l post (Err f) = (tokens l.number (drop l.from l.text.now) ≡ lost (told f)) ⊎ Misformed l post f

-- what the code takes from a whole line
pub record WholeRead {T : Type 0} (l : Line) (post : Option T → Type 0) (r : Result (Whole T) ReadFault) : Type 0 where
  pub cases : WholeCases l post r
