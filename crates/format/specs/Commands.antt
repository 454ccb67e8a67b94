-- Commands, and where a line ends that is no form.
use Rattle.std.specs.Prelude.{◌≡◌, ℕ, cond, List, [], ◌∷◌, drop, Some, None, Ok, Err, codes, Option, Result, ◌==◌}
use Rattle.search.specs.declared.call.Call.{Call}
use Rattle.search.specs.declared.call.Call.TheVariants.{One, Two, Close, Reopen}
use Rattle.format.specs.declared.command.CommandLine.{CommandLine}
use Rattle.format.specs.declared.fault.ReadFault.{ReadFault}
use Rattle.format.specs.Faults.{told}
use Rattle.format.specs.Form.{Token}
use Rattle.format.specs.Items.{Took, took, then, opens, closes, says, number, all}
use Rattle.format.specs.Turns.{Got, got, lost, on, or_14, tokens}

abbrev pub one_word : List ℕ
one_word = codes "one"

abbrev pub two_word : List ℕ
two_word = codes "two"

abbrev pub close_word : List ℕ
close_word = codes "close"

abbrev pub reopen_word : List ℕ
reopen_word = codes "reopen"

-- (WORD A)
unfoldable pub single_form : List ℕ → List Token → Took ℕ
single_form w ts =
    then (opens ts) λ _ ts. then (says w ts) λ _ ts.
    then (number ts) λ a ts. then (closes ts) λ _ ts. took a ts

-- (WORD A B)
unfoldable pub pair_form : List ℕ → List Token → Took (ℕ × ℕ)
pair_form w ts =
    then (opens ts) λ _ ts. then (says w ts) λ _ ts.
    then (number ts) λ a ts. then (number ts) λ b ts.
    then (closes ts) λ _ ts. took (a, b) ts

-- what was taken, as a command, or else the next
abbrev pub or_next : {A : Type 0} → (A → Call) → Option A → Option Call → Option Call
or_next f None next = next
or_next f (Some a) next = Some (f a)

-- (one START GOAL), (two START GOAL), (close LANE) or (reopen LANE)
abbrev pub command_of : List Token → Option Call
command_of ts =
    or_next (λ (p : ℕ × ℕ). One p.0 p.1) (all (pair_form one_word ts))
    (or_next (λ (p : ℕ × ℕ). Two p.0 p.1) (all (pair_form two_word ts))
    (or_next Close (all (single_form close_word ts))
    (or_next Reopen (all (single_form reopen_word ts)) None)))

-- the command on line n
unfoldable pub command_line : ℕ → List ℕ → Got Call
command_line n t = on (tokens n t) λ ts t. or_14 n (command_of ts) t

-- a command's line
abbrev pub CommandRead : List ℕ → Got Call → Result CommandLine ReadFault → Type 0
CommandRead src g (Ok l) = g ≡ got l.command (drop l.end src)
CommandRead src g (Err f) = g ≡ lost (told f)

-- the bytes behind the next line feed
abbrev pub behind_feed : List ℕ → List ℕ
behind_feed [] = []
behind_feed (c ∷ t) = cond (c == 10) t (behind_feed t)
