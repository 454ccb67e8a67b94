use Rattle.std.proofs.Common.{◌≡◌, ◌+◌, ◌-◌, length, drop, refl, arith, rules}
use Rattle.format.specs.Lex.{lex, item, over, gap, width}
use Rattle.format.specs.Told.{token_of}
use Rattle.format.proofs.Places.{at_some, at_none}
use Rattle.format.proofs.cursor.Cursor.next.Goals as goal

pub returns-in_err-token-clause-taken : goal.returns-in_err-token-clause-taken
returns-in_err-token-clause-taken c ts h =
    let m : lex (drop c.args.self.now.at c.args.self.now.line.text.now) ≡ over = search rules in
    rw c.from_residual.ensures (at_none c.args.self.now.line.text.now c.args.self.now.at ts m h)

pub returns-clause-told : goal.returns-clause-told
returns-clause-told c =
    let rest = drop c.args.self.now.at c.args.self.now.line.text.now in
    let m : lex rest ≡ item (token_of c.in_ok-token.token) = search rules in
    let e : c.args.self.now.at + (length c.behind-rest.result.now - length c.unwrap_or-inner.result.now + c.width.result) ≡ c.args.self.now.at + gap rest + width (token_of c.in_ok-token.token) = search rules in
    (m, refl, omega arith, e)

pub returns-clause-taken : goal.returns-clause-taken
returns-clause-taken c ts h =
    let m : lex (drop c.args.self.now.at c.args.self.now.line.text.now) ≡ item (token_of c.in_ok-token.token) = search rules in
    at_some c.args.self.now.line.text.now c.args.self.now.at _ ts (token_of c.in_ok-token.token) m (search rules) h
