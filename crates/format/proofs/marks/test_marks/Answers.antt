use Rattle.std.proofs.Common.{ℕ, replicate, sym, subst, ◌∙◌, arith}
use lib.ListN.{length-replicate}
use Rattle.format.specs.Reads.{MarksAt}
use Rattle.format.proofs.Tables.{front_long}
use Rattle.format.proofs.marks.test_marks.Goals as goal

pub returns : goal.returns
returns c ms h =
    let none : ℕ = 0 in
    let r = length-replicate 4096 none in
    let some = c.requires in
    let n = front_long c.args.nodes (replicate 4096 none) (omega arith) in
    c.test_each.ensures ms (subst (λ n. MarksAt n ms c.args.marks.now) (sym n) h) (n ∙ sym n)
