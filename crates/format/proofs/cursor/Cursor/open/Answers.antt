use Rattle.format.specs.Items.{opens}
use Rattle.format.proofs.Taking.{passes_open, passes_word, some_past}
use Rattle.format.proofs.cursor.Cursor.open.Goals as goal

pub returns : goal.returns
returns c ts h =
    let o = some_past c.pass.new.self (opens ts) _ (passes_open c.pass.new.self ts _ (c.in_ok-pass.ensures ts h)) in
    rw o.is (passes_word c.pass-2.new.self c.args.word.now o.ts c.pass-2.result (c.pass-2.ensures o.ts o.there))
