use Rattle.std.proofs.Common.{rules}
use Rattle.plant.proofs.Among.{among_told}
use Rattle.plant.proofs.layers.shift.Shift.is_closed.Goals as goal

pub returns : goal.returns
returns g c = among_told c.args.self.now.closed.items c.args.k _ (search rules)
