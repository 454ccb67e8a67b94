use Rattle.std.proofs.Common.{rules}
use Rattle.format.proofs.Wholes.{mark_read}
use Rattle.format.proofs.marks.mark_line.Goals as goal

pub returns : goal.returns
returns c = mark_read c.args.nodes c.args.line _ c.read_whole.result c.read_whole.ensures (λ ts r h q. search (rules, q))
