-- A line's bytes without its tokens, as code walks over them.
use Rattle.std.specs.Prelude.{ℕ, suc, cond, List, [], ◌∷◌, drop, Some, None, Option, Ok, Err, Result, ◌==◌}
use Rattle.format.specs.Form.{letters, digits, belongs}
use Rattle.format.specs.declared.phase.Depth.{Depth}
use Rattle.format.specs.declared.phase.Depth.TheVariants.{Outer, Nested}
use Rattle.format.specs.declared.phase.Phase.{Phase}
use Rattle.format.specs.declared.phase.Phase.TheVariants.{Begin, Need, Past, Word, Digits, Ended, Behind}
use Rattle.format.specs.declared.phase.Unfit.{Unfit}

abbrev pub phase_shut : Depth → Phase
phase_shut Outer = Ended
phase_shut Nested = Past Outer

abbrev pub phase_deeper : Depth → Option Phase
phase_deeper Outer = Some (Need Nested)
phase_deeper Nested = None

abbrev pub phase_leave : Depth → ℕ → Option Phase
phase_leave d c = cond (c == 32) (Some (Need d)) (cond (c == 41) (Some (phase_shut d)) None)

abbrev pub phase_enter : Depth → ℕ → Option Phase
phase_enter d c =
    cond (belongs letters c) (Some (Word d))
    (cond (belongs digits c) (Some (Digits d))
    (cond (c == 45) (Some (Past d))
    (cond (c == 40) (phase_deeper d) None)))

-- the phase behind a byte, if the byte fits; behind the line none does
abbrev pub phase_turn : Phase → ℕ → Option Phase
phase_turn Begin c = cond (c == 40) (Some (Need Outer)) None
phase_turn (Need d) c = phase_enter d c
phase_turn (Past d) c = phase_leave d c
phase_turn (Word d) c = cond (belongs letters c) (Some (Word d)) (phase_leave d c)
phase_turn (Digits d) c = cond (belongs digits c) (Some (Digits d)) (phase_leave d c)
phase_turn Ended c = cond (c == 10) (Some Behind) None
phase_turn Behind c = None

-- the bytes behind the line, or the first byte that fits nothing
pub data Walked : Type 0 where
  ends : List ℕ → Walked
  off : ℕ → Walked

unfoldable pub walk : Phase → ℕ → List ℕ → Walked
walk p b [] = off b
walk p b (c ∷ t) = elim (phase_turn p c) [ None ↦ off b | Some p' ↦ elim p' [ Behind ↦ ends t | q ↦ walk q (suc b) t ] ]

-- a whole line
abbrev pub line_walk : List ℕ → Walked
line_walk t = walk Begin 1 t

-- what an answer of the code says: where the line ends, or the byte
abbrev pub walked : List ℕ → Result ℕ Unfit → Walked
walked src (Ok e) = ends (drop e src)
walked src (Err u) = off u.byte
