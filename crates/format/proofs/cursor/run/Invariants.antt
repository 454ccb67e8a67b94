use Rattle.std.proofs.Common.{◌≡◌, ◌++◌, take, drop}
use Rattle.format.specs.Form.{Kind}
use Rattle.format.specs.Lex.{front}
use Rattle.format.specs.Told.{TestsFor}
use Rattle.format.proofs.cursor.run.Given as goal

-- the test held of the bytes below i
abbrev pub invariant-loop-i : goal.invariant-loop-i
invariant-loop-i g l = (k : Kind) → TestsFor (λ c b. goal.F-post g l.test c b) k → front k l.text ≡ take l.i l.text ++ front k (drop l.i l.text)
