-- The lines in turn: the plant's, each lane's, each landmark's.
use Rattle.std.specs.Prelude.{ℕ, zero, suc, ◌+◌, false, List, [], ◌∷◌, Some, None, Option}
use Rattle.format.specs.Plain.{Plain}
use Rattle.format.specs.Form.{Token, begin, Scanned, line, unfit, scan}
use Rattle.format.specs.Items.{Took, unsound, all, plant_form, lane_form, mark_form}

-- a fault: its number, its two places, and the line that the reader adds to a plant's fault (0 where none)
pub record Fault : Type 0 where
  pub number : ℕ
  pub first : ℕ
  pub second : ℕ
  pub at : ℕ

-- what is read, and the bytes behind it; or the fault
pub data Got (A : Type 0) : Type 0 where
  got : A → List ℕ → Got A
  lost : Fault → Got A

abbrev pub on : {A B : Type 0} → Got A → (A → List ℕ → Got B) → Got B
on (got a t) f = f a t
on (lost e) f = lost e

abbrev pub or_14 : {A : Type 0} → ℕ → Option A → List ℕ → Got A
or_14 n None t = lost (record { number = 14; first = n; second = 0; at = 0 })
or_14 n (Some a) t = got a t

abbrev pub or_15 : ℕ → Option ℕ → List Token → List ℕ → Got (List Token)
or_15 n None ts t = got ts t
or_15 n (Some b) ts t = lost (record { number = 15; first = n; second = b; at = 0 })

abbrev pub or_13 : ℕ → Scanned → Got (List Token)
or_13 n (line ts t) = or_15 n (unsound false 1 ts) ts t
or_13 n (unfit b) = lost (record { number = 13; first = n; second = b; at = 0 })

-- the tokens of line n
unfoldable pub tokens : ℕ → List ℕ → Got (List Token)
tokens n t = or_13 n (scan begin 1 t)

-- line n, of which `f` takes all tokens
unfoldable pub form : {A : Type 0} → (List Token → Took A) → ℕ → List ℕ → Got A
form f n t = on (tokens n t) λ ts t. or_14 n (all (f ts)) t

-- k lines from line n on
unfoldable pub forms : {A : Type 0} → (List Token → Took A) → ℕ → ℕ → List ℕ → Got (List A)
forms f zero n t = got [] t
forms f (suc k) n t = on (form f n t) λ a t. on (forms f k (suc n) t) λ xs t. got (a ∷ xs) t

-- the whole file, before the plant is tested
unfoldable pub lines : List ℕ → Got Plain
lines t =
    on (form plant_form 1 t) λ n t.
    on (forms lane_form n.lanes 2 t) λ ls t.
    on (forms (mark_form n.nodes) n.marks (2 + n.lanes) t) λ ms t.
    got (record { nodes = n.nodes; lanes = ls; marks = ms }) t
