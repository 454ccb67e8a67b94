-- What a token of the code says.
use Rattle.std.specs.Prelude.{◌≡◌, ℕ, ◌+◌, ◌-◌, ◌<◌, Bool, Some, None, Option}
use Rattle.format.specs.Form.{Kind, belongs, Token, opened, closed, hyphen, run, letters, digits}
use Rattle.format.specs.Lex.{Lexed, item, over, width}
use Rattle.format.specs.declared.cursor.Cursor.{Cursor}
use Rattle.format.specs.declared.token.Line.{Line}
use Rattle.format.specs.declared.token.Token.{Token as Written}
use Rattle.format.specs.declared.token.Token.TheVariants.{Open, Close, Hyphen, Word, Number}

abbrev pub token_of : Written → Token
token_of Open = opened
token_of Close = closed
token_of Hyphen = hyphen
token_of (Word text) = run letters text.now
token_of (Number text) = run digits text.now

-- a token that the code found, or none
abbrev pub LexedAs : Lexed → Option Written → Type 0
LexedAs x None = x ≡ over
LexedAs x (Some t) = x ≡ item (token_of t)

-- the first byte in its line, from 1, of a token that ends at a cursor
abbrev pub byte_of : Cursor → Token → ℕ
byte_of c k = c.at - width k - c.line.from + 1

-- the token that begins at a place of a line, with its line, its first byte in it, and where it ends, which is where the cursor is left; or none
abbrev pub Told : Lexed → Line → ℕ → Cursor → Option Written → Type 0
Told x line start c None = x ≡ over
Told x line start c (Some t) =
    (x ≡ item (token_of t)) × (c.line ≡ line) × (byte_of c (token_of t) ≡ start - line.from + 1) × (c.at ≡ start + width (token_of t))

-- whether a test of bytes says which belong to a run
abbrev pub TestsFor : (ℕ → Bool → Type 0) → Kind → Type 0
TestsFor post k = (c : ℕ) (b : Bool) → c < 256 → post c b → b ≡ belongs k c
