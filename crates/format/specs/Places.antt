-- The tokens that stand from a place of the text on, and what code takes from them.
use Rattle.std.specs.Prelude.{◌≡◌, ℕ, ◌+◌, true, List, [], ◌∷◌, drop, Some, None, Option}
use Rattle.format.specs.declared.cursor.Cursor.{Cursor}
use Rattle.format.specs.declared.token.Line.{Line}
use Rattle.format.specs.declared.token.Token.{Token as Written}
use Rattle.format.specs.Form.{Token}
use Rattle.format.specs.Lex.{item, over, lex, gap, width}
use Rattle.format.specs.Told.{token_of}
use Rattle.format.specs.Items.{sound_token, Took, took, other, then, values}

-- these tokens, no number among them refused, and then none
abbrev pub TokensAt : List ℕ → ℕ → List Token → Type 0
TokensAt src at [] = lex (drop at src) ≡ over
TokensAt src at (k ∷ ts) = (lex (drop at src) ≡ item k) × (sound_token k ≡ true) × TokensAt src (at + gap (drop at src) + width k) ts

-- the token k is next, and the others stand from e on
pub record Ahead (src : List ℕ) (e : ℕ) (ts : List Token) (k : Token) : Type 0 where
  pub us : List Token
  pub is : ts ≡ k ∷ us
  pub sounds : sound_token k ≡ true
  pub there : TokensAt src e us

-- these tokens stand from a cursor on, or from a line's beginning on
abbrev pub TokensFrom : Cursor → List Token → Type 0
TokensFrom c ts = TokensAt c.line.text.now c.at ts

abbrev pub TokensIn : Line → List Token → Type 0
TokensIn l ts = TokensAt l.text.now l.from ts

-- the next token was met; or none stands there
abbrev pub Meets : Cursor → List Token → Option Written → Type 0
Meets c ts (Some w) = Ahead c.line.text.now c.at ts (token_of w)
Meets c ts None = ts ≡ []

-- a given token was passed; or another is next
abbrev pub Passed : Token → Cursor → List Token → Option (Unit {0}) → Type 0
Passed k c ts (Some u) = Ahead c.line.text.now c.at ts k
Passed k c ts None = (us : List Token) → ts ≡ k ∷ us → ⊥

-- the code took what the definition takes, and stands where the other tokens are; or neither took anything
abbrev pub Agrees : {A X : Type 0} → (A → X → Type 0) → (X → ℕ) → List ℕ → Took A → Option X → Type 0
Agrees R end src (took a ts) (Some x) = R a x × TokensAt src (end x) ts
Agrees R end src (took a ts) None = ⊥
Agrees R end src other (Some x) = ⊥
Agrees R end src other None = Unit {0}

-- so at the place where a cursor is left
abbrev pub TookTo : {A X : Type 0} → (A → X → Type 0) → Cursor → Took A → Option X → Type 0
TookTo R c t r = Agrees R (λ _. c.at) c.line.text.now t r

abbrev pub TookPast : Cursor → Took (Unit {0}) → Option (Unit {0}) → Type 0
TookPast c t r = TookTo (λ _ _. Unit {0}) c t r

abbrev pub TookNumber : Cursor → Took ℕ → Option ℕ → Type 0
TookNumber c t r = TookTo (λ n x. n ≡ x) c t r

-- what is taken matters no more
abbrev pub passed : {A : Type 0} → Took A → Took (Unit {0})
passed t = then t (λ _ ts. took tt ts)

-- the values of a table that stand from a place on
pub record ValuesAt (src : List ℕ) (at : ℕ) (xs : List ℕ) (n : ℕ) : Type 0 where
  pub ts : List Token
  pub us : List Token
  pub here : TokensAt src at ts
  pub are : values n ts ≡ took xs us
