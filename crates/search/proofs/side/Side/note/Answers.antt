use Rattle.std.proofs.Common.{◌≡◌, ◌<◌, true, false, ◌∷◌, length, set, get_or, sym, refl, ap, ◌∙◌, subst, arith}
use Rattle.std.specs.List.Sorted.{IsPermutation}
use Rattle.queue.specs.Held.{held}
use Rattle.queue.proofs.Uses.{took}
use Rattle.std.proofs.lemmas.Bool.{cond-false}
use Rattle.search.specs.declared.row.Row.{Row}
use Rattle.search.specs.declared.row.State.TheVariants.{Labelled}
use Rattle.search.specs.Rows.{is_open, row_at}
use Rattle.search.specs.Steps.{is_relabelled, relabel}
use Rattle.search.specs.Ties.{entry_of}
use Rattle.search.specs.Order.{Le, not_le}
use Rattle.search.proofs.TieFacts.{row_read, set_kept, not_closed, not_dearer, yes_new, relabel_new, tied_put}
use Rattle.search.proofs.side.Side.note.Given.{Over}
use Rattle.search.proofs.side.Side.note.Goals as goal
use Rattle.search.proofs.side.Side.note.Goals.{then-not-is_open-via-then-not-is_open, then-not-is_open-via-else-not-is_open+then-at_most}

-- the row is kept: it is closed, or its label is no more
kept : (g : Over) (c : goal.Joined-then-not-is_open g) → false ≡ is_relabelled g.P.Cost.CostKind.kind c.args.label (row_at g.P.Cost.CostKind.kind c.args.self.now.rows.now c.args.node)
kept g c =
    let k = g.P.Cost.CostKind.kind in
    let xs = c.args.self.now.rows.now in
    let w = c.args.node in
    let h : w < length xs = omega (arith, c.args.self.now.long, c.requires.node) in
    let x : Row g.row.P-Cost.Denot = get_or xs w c.index-self-node.result in
    let r : row_at k xs w ≡ x = row_read k xs w c.index-self-node.result h c.index-self-node.is ∙ c.index-self-node.is in
    elim c.then-not-is_open.branch [
      | then-not-is_open-via-then-not-is_open v ↦
          let shut : is_open x.state ≡ false = sym c.is_open.ensures ∙ v.if-not-is_open.true in
          not_closed k c.args.label (row_at k xs w) (ap (λ (y : Row g.row.P-Cost.Denot). is_open y.state) r ∙ shut)
      | then-not-is_open-via-else-not-is_open+then-at_most v ↦
          let less : Le k x.label c.args.label = sym v.at_most.ensures ∙ v.if-at_most.true in
          not_dearer k c.args.label (row_at k xs w) (ap (λ (y : Row g.row.P-Cost.Denot). k.at_most y.label c.args.label) r ∙ less)
    ]

pub returns-then-not-is_open-clause-rows : goal.returns-then-not-is_open-clause-rows
returns-then-not-is_open-clause-rows g c =
    let k = g.P.Cost.CostKind.kind in
    let xs = c.args.self.now.rows.now in
    let w = c.args.node in
    let h : w < length xs = omega (arith, c.args.self.now.long, c.requires.node) in
    sym (set_kept k xs w (relabel k c.args.label c.args.lane (row_at k xs w)) h (cond-false (is_relabelled k c.args.label (row_at k xs w)) (record { label = c.args.label; lane = c.args.lane; state = Labelled }) (row_at k xs w) (sym (kept g c))))

pub returns-then-not-is_open-clause-test : goal.returns-then-not-is_open-clause-test
returns-then-not-is_open-clause-test g c = kept g c

pub returns-clause-rows : goal.returns-clause-rows
returns-clause-rows g c =
    let k = g.P.Cost.CostKind.kind in
    let xs = c.args.self.now.rows.now in
    let w = c.args.node in
    let h : w < length xs = omega (arith, c.args.self.now.long, c.requires.node) in
    let x : Row g.row.P-Cost.Denot = get_or xs w c.index-self-node.result in
    let r : row_at k xs w ≡ x = row_read k xs w c.index-self-node.result h c.index-self-node.is ∙ c.index-self-node.is in
    let ope : is_open x.state ≡ true = sym c.is_open.ensures ∙ c.if-not-is_open.false in
    let less : k.at_most x.label c.args.label ≡ false = sym c.at_most.ensures ∙ c.if-at_most.false in
    ap (set xs w) (sym (relabel_new k c.args.label c.args.lane (row_at k xs w) (ap (λ (y : Row g.row.P-Cost.Denot). is_open y.state) r ∙ ope) (ap (λ (y : Row g.row.P-Cost.Denot). k.at_most y.label c.args.label) r ∙ less)))

pub returns-clause-test : goal.returns-clause-test
returns-clause-test g c =
    let k = g.P.Cost.CostKind.kind in
    let xs = c.args.self.now.rows.now in
    let w = c.args.node in
    let h : w < length xs = omega (arith, c.args.self.now.long, c.requires.node) in
    let x : Row g.row.P-Cost.Denot = get_or xs w c.index-self-node.result in
    let r : row_at k xs w ≡ x = row_read k xs w c.index-self-node.result h c.index-self-node.is ∙ c.index-self-node.is in
    let ope : is_open x.state ≡ true = sym c.is_open.ensures ∙ c.if-not-is_open.false in
    let less : k.at_most x.label c.args.label ≡ false = sym c.at_most.ensures ∙ c.if-at_most.false in
    yes_new k c.args.label (row_at k xs w) (ap (λ (y : Row g.row.P-Cost.Denot). is_open y.state) r ∙ ope) (ap (λ (y : Row g.row.P-Cost.Denot). k.at_most y.label c.args.label) r ∙ less)

pub returns-clause-front : goal.returns-clause-front
returns-clause-front g c =
    let k = g.P.Cost.CostKind.kind in
    let laws = g.met.P.Cost.CostKind.lawful in
    let side = c.args.self.now in
    let f = g.P.Plant.floor side.plant.now in
    let xs = side.rows.now in
    let w = c.args.node in
    let q = side.queue.now in
    let q' = c.push.new.self in
    let h : w < length xs = omega (arith, side.long, c.requires.node) in
    let x : Row g.row.P-Cost.Denot = get_or xs w c.index-self-node.result in
    let r : row_at k xs w ≡ x = row_read k xs w c.index-self-node.result h c.index-self-node.is ∙ c.index-self-node.is in
    let less : k.at_most x.label c.args.label ≡ false = sym c.at_most.ensures ∙ c.if-at_most.false in
    let dear = ap (λ (y : Row g.row.P-Cost.Denot). k.at_most y.label c.args.label) r ∙ less in
    let new : Row g.row.P-Cost.Denot = record { label = c.args.label; lane = c.args.lane; state = Labelled } in
    let p = c.push.ensures in
    let key : c.join-key.result ≡ k.join c.args.label (f.bound w side.target) = c.join-key.ensures ∙ ap (k.join c.args.label) c.bound.ensures in
    let put : IsPermutation (entry_of k f side.target new w ∷ held q) (held q') =
    subst (λ (y : g.row.P-Cost.Denot). IsPermutation (record { key = y; label = c.args.label; node = w } ∷ held q) (held q')) key (took _ _ _ _ _ _ p.test c.requires.room p.held) in
    record {
      tied = tied_put k laws f side.target xs (held q) (held q') w new h side.long refl (not_le k laws (row_at k xs w).label c.args.label dear) put c.requires.front.tied;
    }
