use Rattle.std.proofs.Common.{◌≡◌, ℕ, ◌+◌, ◌<◌, ◌≤◌, List, [], ◌∷◌, length, take, set, sym, ap, ◌∙◌, subst, arith}
use Rattle.std.specs.List.Sorted.{IsPermutation}
use Rattle.queue.specs.Held.{held, count, room}
use Rattle.queue.proofs.Uses.{took}
use Rattle.search.specs.declared.entry.Entry.{Entry}
use Rattle.search.specs.declared.row.Row.{Row}
use Rattle.search.specs.declared.row.State.TheVariants.{Labelled}
use Rattle.search.specs.Rows.{blank_rows}
use Rattle.search.specs.Steps.{start_rows}
use Rattle.search.specs.Ties.{Ready, left_of, entry_of}
use Rattle.search.proofs.RowFacts.{start_length}
use Rattle.search.proofs.StartFacts.{first_row, start_tied}
use Rattle.search.proofs.TieFacts.{left_le}
use Rattle.search.proofs.side.Side.begin.Goals as goal

pub returns-clause-ready : goal.returns-clause-ready
returns-clause-ready g c =
    let k = g.P.Cost.CostKind.kind in
    let laws = g.met.P.Cost.CostKind.lawful in
    let f = g.P.Plant.floor c.args.plant.now in
    let start = c.args.source in
    let goal = c.args.target in
    let q = c.args.queue.now in
    let q' = c.push.new.self in
    let p = c.push.ensures in
    let z = c.zero-zero.ensures in
    let blank : c.blank_all.new.rows ≡ blank_rows k f.nodes = c.blank_all.ensures ∙ ap (blank_rows k) c.requires.rows in
    let begins : set c.blank_all.new.rows start (record { label = c.zero-zero.result; lane = 0; state = Labelled }) ≡ start_rows k f start =
    λ i. set (blank i) start (record { label = z i; lane = 0; state = Labelled }) in
    let free : count q < room q = omega (arith, c.requires.empty, c.requires.room) in
    let more : count q' ≡ count q + 1 = took _ _ _ _ _ _ p.test free p.count in
    let key : c.join-key.result ≡ k.join k.zero (f.bound start goal) = c.join-key.ensures ∙ (λ i. k.join (z i) (c.bound.ensures i)) in
    let none : held q ≡ [] = ap (λ (n : ℕ). take n q.slots.now) c.requires.empty in
    let put : IsPermutation (entry_of k f goal (first_row k) start ∷ []) (held q') =
    subst (λ (es : List (Entry g.row.P-Cost.Denot)). IsPermutation es (held q')) (λ i. record { key = key i; label = z i; node = start } ∷ none i) (took _ _ _ _ _ _ p.test free p.held) in
    let left : left_of k (start_rows k f start) f.lanes ≤ length f.lanes = left_le k (start_rows k f start) f.lanes in
    subst (λ (xs : List (Row g.row.P-Cost.Denot)). Ready k f goal xs q') (sym begins) (record {
      long = start_length k f start c.requires.source;
      front = record { tied = start_tied k laws f start goal c.requires.source (held q') put };
      fits = omega (arith, left, more, c.requires.empty, p.room, c.requires.room);
    })
