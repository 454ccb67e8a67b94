-- The last cell of all has no neighbour to the east.
use Rattle.std.proofs.Common.{◌≡◌, ◌*◌, rules}
use Rattle.plants.specs.Hall.{neighbour}
use Rattle.plants.specs.HallSides.{rows_of, answered_in}
use Rattle.plants.proofs.hall.Hall.neighbour.Goals as goal

pub returns-in-East-clause-inside : goal.returns-in-East-clause-inside
returns-in-East-clause-inside c =
    let h = c.args.self in
    let is : c.then.result ≡ neighbour (h.rows * h.columns) h.columns c.args.v 1 = search rules in
    answered_in _ _ (rows_of h) c.args.v c.requires 1 c.then.result is
