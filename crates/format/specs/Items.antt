-- The items of a line: numbers that are refused, and each kind of line taken from its tokens.
use Rattle.std.specs.Prelude.{ℕ, zero, suc, ◌+◌, ◌-◌, ◌*◌, Bool, true, false, cond, not, ◌&&◌, ◌||◌, List, [], ◌∷◌, length, Some, None, codes, Option, ◌==◌, nat_le, slice_index}
use Rattle.format.specs.Plain.{Lane, Mark, beyond}
use Rattle.format.specs.Form.{letters, digits, Token, opened, closed, hyphen, run}

-- the number that digits write, after the number so far
abbrev pub reads : ℕ → List ℕ → ℕ
reads n [] = n
reads n (c ∷ cs) = reads (10 * n + (c - 48)) cs

-- no leading zero, and at most 4294967294
abbrev pub sound : List ℕ → Bool
sound w = (not (slice_index w 0 == 48) || length w == 1) && nat_le (reads 0 w) 4294967294

-- what digits are read as
abbrev pub numeral : List ℕ → Option ℕ
numeral w = cond (sound w) (Some (reads 0 w)) None

-- a token that is no refused number
abbrev pub sound_token : Token → Bool
sound_token opened = true
sound_token closed = true
sound_token hyphen = true
sound_token (run letters w) = true
sound_token (run digits w) = sound w

-- an item behind another stands one space further
abbrev pub spaced : Bool → ℕ → ℕ
spaced true b = suc b
spaced false b = b

-- the first byte of the first number that is not sound; b is the next byte, and the flag says that an item ends before it
unfoldable pub unsound : Bool → ℕ → List Token → Option ℕ
unsound f b [] = None
unsound f b (opened ∷ ts) = unsound false (suc (spaced f b)) ts
unsound f b (closed ∷ ts) = unsound true (suc b) ts
unsound f b (hyphen ∷ ts) = unsound true (suc (spaced f b)) ts
unsound f b (run letters w ∷ ts) = unsound true (spaced f b + length w) ts
unsound f b (run digits w ∷ ts) = elim (sound w) [ true ↦ unsound true (spaced f b + length w) ts | false ↦ Some (spaced f b) ]

-- something taken from the front of the tokens, and those behind it; or they begin otherwise
pub data Took (A : Type 0) : Type 0 where
  took : A → List Token → Took A
  other : Took A

abbrev pub then : {A B : Type 0} → Took A → (A → List Token → Took B) → Took B
then (took a ts) f = f a ts
then other f = other

abbrev pub opens : List Token → Took (Unit {0})
opens [] = other
opens (opened ∷ ts) = took tt ts
opens (closed ∷ ts) = other
opens (hyphen ∷ ts) = other
opens (run k w ∷ ts) = other

abbrev pub closes : List Token → Took (Unit {0})
closes [] = other
closes (opened ∷ ts) = other
closes (closed ∷ ts) = took tt ts
closes (hyphen ∷ ts) = other
closes (run k w ∷ ts) = other

abbrev pub same : List ℕ → List ℕ → Bool
same [] [] = true
same [] (d ∷ ds) = false
same (c ∷ cs) [] = false
same (c ∷ cs) (d ∷ ds) = c == d && same cs ds

abbrev pub says : List ℕ → List Token → Took (Unit {0})
says v [] = other
says v (opened ∷ ts) = other
says v (closed ∷ ts) = other
says v (hyphen ∷ ts) = other
says v (run letters w ∷ ts) = cond (same w v) (took tt ts) other
says v (run digits w ∷ ts) = other

-- the bracket and the word that a form begins with
abbrev pub begins : List ℕ → List Token → Took (Unit {0})
begins v ts = then (opens ts) λ _ ts. says v ts

abbrev pub number : List Token → Took ℕ
number [] = other
number (opened ∷ ts) = other
number (closed ∷ ts) = other
number (hyphen ∷ ts) = other
number (run letters w ∷ ts) = other
number (run digits w ∷ ts) = took (reads 0 w) ts

-- a table's value: a number, or a hyphen for beyond
abbrev pub value : List Token → Took ℕ
value [] = other
value (opened ∷ ts) = other
value (closed ∷ ts) = other
value (hyphen ∷ ts) = took beyond ts
value (run letters w ∷ ts) = other
value (run digits w ∷ ts) = took (reads 0 w) ts

-- so many of a kind, one after another
unfoldable pub many : {A : Type 0} → (List Token → Took A) → ℕ → List Token → Took (List A)
many f zero ts = took [] ts
many f (suc n) ts = then (f ts) (λ x ts. then (many f n ts) (λ xs ts. took (x ∷ xs) ts))

abbrev pub values : ℕ → List Token → Took (List ℕ)
values n ts = many value n ts

-- nothing is left
abbrev pub all : {A : Type 0} → Took A → Option A
all (took a []) = Some a
all (took a (t ∷ ts)) = None
all other = None

pub record Counts : Type 0 where
  pub nodes : ℕ
  pub lanes : ℕ
  pub marks : ℕ

abbrev pub plant_word : List ℕ
plant_word = codes "plant"

abbrev pub lane_word : List ℕ
lane_word = codes "lane"

abbrev pub mark_word : List ℕ
mark_word = codes "mark"

abbrev pub to_word : List ℕ
to_word = codes "to"

abbrev pub from_word : List ℕ
from_word = codes "from"

-- (WORD A B ..), with n numbers
unfoldable pub numbers_form : ℕ → List ℕ → List Token → Took (List ℕ)
numbers_form n w ts =
    then (begins w ts) λ _ ts. then (many number n ts) λ xs ts. then (closes ts) λ _ ts. took xs ts

-- (WORD A B C)
unfoldable pub triple : List ℕ → List Token → Took (ℕ × ℕ × ℕ)
triple w ts =
    then (opens ts) λ _ ts. then (says w ts) λ _ ts.
    then (number ts) λ a ts. then (number ts) λ b ts. then (number ts) λ c ts.
    then (closes ts) λ _ ts. took (a, b, c) ts

-- (plant NODES LANES LANDMARKS)
unfoldable pub plant_form : List Token → Took Counts
plant_form ts = then (triple plant_word ts) λ r ts. took (record { nodes = r.0; lanes = r.1; marks = r.2 }) ts

-- (lane TAIL HEAD COST)
unfoldable pub lane_form : List Token → Took Lane
lane_form ts = then (triple lane_word ts) λ r ts. took (record { tail = r.0; head = r.1; cost = r.2 }) ts

-- (WORD X…), with n values
unfoldable pub table : List ℕ → ℕ → List Token → Took (List ℕ)
table w n ts =
    then (opens ts) λ _ ts. then (says w ts) λ _ ts.
    then (values n ts) λ xs ts. then (closes ts) λ _ ts. took xs ts

-- (mark (to X…) (from X…))
unfoldable pub mark_form : ℕ → List Token → Took Mark
mark_form n ts =
    then (opens ts) λ _ ts. then (says mark_word ts) λ _ ts.
    then (table to_word n ts) λ xs ts. then (table from_word n ts) λ ys ts.
    then (closes ts) λ _ ts. took (record { to = xs; from = ys }) ts
