use Rattle.std.proofs.Common.{◌≡◌, Decides, rules}
use Rattle.format.specs.Told.{token_of}
use Rattle.format.proofs.Taking.{passes}
use Rattle.format.proofs.cursor.Cursor.pass.Goals as goal

pub returns : goal.returns
returns c ts h =
    let same : Decides c.eq.result (token_of c.in_ok-next.field-0 ≡ token_of c.args.wanted) = search (rules, c.eq.ensures) in
    passes c.next.new.self ts _ _ c.eq.result c.then_some.result (c.in_ok-next.ensures.taken ts h) same c.then_some.ensures
