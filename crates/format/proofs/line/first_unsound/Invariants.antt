use Rattle.std.proofs.Common.{◌≡◌, ℕ, ◌-◌, ◌≤◌, List, length, drop}
use Rattle.format.specs.Form.{Token, begin, line, scan}
use Rattle.format.proofs.Left.{Left}
use Rattle.format.proofs.line.first_unsound.Given as goal

-- the tokens from here on are left
abbrev pub invariant-loop-token : goal.invariant-loop-token
invariant-loop-token l =
    (l.cursor.line ≡ l.line) × (l.line.from ≤ l.cursor.at)
    × ((ts : List Token) (rest : List ℕ) → scan begin 1 (drop l.line.from l.line.text.now) ≡ line ts rest → Left l.line.text.now l.line.from l.cursor.at ts rest)

abbrev pub decreases-loop-token : goal.decreases-loop-token
decreases-loop-token l = length l.line.text.now - l.cursor.at
