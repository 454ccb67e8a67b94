use Rattle.std.proofs.Common.{rules}
use Rattle.format.proofs.Wholes.{numbers_read}
use Rattle.format.proofs.lanes.numbers_line.Goals as goal

pub returns : goal.returns
returns c = numbers_read c.args.word.now c.args.line _ c.read_whole.result c.read_whole.ensures (λ ts r h q. search (rules, q))
