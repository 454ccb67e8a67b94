use Rattle.std.proofs.Common.{◌∙◌}
use Rattle.search.specs.EntryOrder.{own_rank}
use Rattle.search.proofs.entry_order.EntryOrd.cmp.Goals as goal

pub returns : goal.returns
returns g c = c.cmp.ensures.value ∙ own_rank g.C.CostKind.kind g.met.C.CostKind.lawful c.args.self.now c.args.other.now
