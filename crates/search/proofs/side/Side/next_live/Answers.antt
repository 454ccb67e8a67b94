use Rattle.std.proofs.Common.{◌≡◌, ◌<◌, true, false, List, length, get_or, sym, ap, ◌∙◌, subst, arith, rules}
use Rattle.std.proofs.lemmas.Bool.{both_ways}
use Rattle.queue.specs.Held.{held}
use Rattle.search.specs.declared.row.Row.{Row}
use Rattle.search.specs.declared.row.State.TheVariants.{Labelled}
use Rattle.search.specs.Rows.{is_labelled, row_at}
use Rattle.search.specs.Ties.{Live}
use Rattle.search.proofs.LiveFacts.{taken_here, back_more, kept_more, next_found}
use Rattle.search.specs.Order.{le_eq}
use Rattle.search.proofs.States.{is_labelled_eq}
use Rattle.search.proofs.TieFacts.{row_read}
use Rattle.search.proofs.side.Side.next_live.Goals as goal
use Rattle.search.proofs.side.Side.next_live.Goals.{else-is_labelled-via-then-is_labelled+else-at_most, else-is_labelled-via-else-is_labelled}

pub bounds-self-e : goal.bounds-self-e
bounds-self-e g c =
    let inv = c.loop-e.invariant in
    let e = c.in-Some.e in
    let h = c.requires.front.tied.noted.within e (inv.2 e (taken_here (held c.loop-e.self.queue.now) (held c.pop.new.self) e c.in-Some.ensures.held)) in
    omega (arith, h, ap length inv.4, c.args.self.now.long)

pub offset_bounds-self-e : goal.offset_bounds-self-e
offset_bounds-self-e g c =
    let inv = c.loop-e.invariant in
    let e = c.in-Some.e in
    let h = c.requires.front.tied.noted.within e (inv.2 e (taken_here (held c.loop-e.self.queue.now) (held c.pop.new.self) e c.in-Some.ensures.held)) in
    let n : e.node < length c.loop-e.self.rows.now = omega (arith, h, ap length inv.4, c.args.self.now.long) in search rules

pub returns-then-at_most-clause-next : goal.returns-then-at_most-clause-next
returns-then-at_most-clause-next g c =
    let k = g.P.Cost.CostKind.kind in
    let laws = g.met.P.Cost.CostKind.lawful in
    let xs = c.args.self.now.rows.now in
    let q₀ = c.args.self.now.queue.now in
    let q = c.loop-e.self.queue.now in
    let q' = c.pop.new.self in
    let e = c.in-Some.e in
    let inv = c.loop-e.invariant in
    let told = c.in-Some.ensures in
    let m = inv.2 e (taken_here (held q) (held q') e told.held) in
    let h : e.node < length xs = omega (arith, c.requires.front.tied.noted.within e m, c.args.self.now.long) in
    let r = row_read k xs e.node c.index-self-e.result h (subst (λ (ys : List (Row g.row.P-Cost.Denot)). c.index-self-e.result ≡ get_or ys e.node c.index-self-e.result) inv.4 c.index-self-e.is) ∙ c.index-self-e.is in
    let x = get_or c.loop-e.self.rows.now e.node c.index-self-e.result in
    let yes : true ≡ is_labelled x.state = c.if-is_labelled.ensures in
    let low : true ≡ k.at_most e.label x.label = c.if-at_most.ensures in
    let st : (row_at k xs e.node).state ≡ Labelled = is_labelled_eq (row_at k xs e.node).state (ap (λ (x : Row g.row.P-Cost.Denot). is_labelled x.state) r ∙ sym yes) in
    let lb : (row_at k xs e.node).label ≡ e.label = laws.antisym (row_at k xs e.node).label e.label (c.requires.front.tied.noted.lower e m)
    (ap (λ (x : Row g.row.P-Cost.Denot). k.at_most e.label x.label) r ∙ sym low) in
    next_found k xs (held q₀) (held q) (held q') e told.held inv.2 inv.3 (st, lb) told.least

pub loop-e-preserved : goal.loop-e-preserved
loop-e-preserved g c =
    let k = g.P.Cost.CostKind.kind in
    let laws = g.met.P.Cost.CostKind.lawful in
    let xs = c.args.self.now.rows.now in
    let q₀ = c.args.self.now.queue.now in
    let q = c.loop-e.self.queue.now in
    let q' = c.pop.new.self in
    let e = c.in-Some.e in
    let inv = c.loop-e.invariant in
    let told = c.in-Some.ensures in
    let m = inv.2 e (taken_here (held q) (held q') e told.held) in
    let h : e.node < length xs = omega (arith, c.requires.front.tied.noted.within e m, c.args.self.now.long) in
    let r = row_read k xs e.node c.index-self-e.result h (subst (λ (ys : List (Row g.row.P-Cost.Denot)). c.index-self-e.result ≡ get_or ys e.node c.index-self-e.result) inv.4 c.index-self-e.is) ∙ c.index-self-e.is in
    let x = get_or c.loop-e.self.rows.now e.node c.index-self-e.result in
    let dead : Live k xs e → ⊥ = elim c.else-is_labelled.branch [
      | else-is_labelled-via-then-is_labelled+else-at_most w ↦
          let high : false ≡ k.at_most e.label x.label = w.if-at_most.ensures in
          let no : k.at_most e.label (row_at k xs e.node).label ≡ false = ap (λ (x : Row g.row.P-Cost.Denot). k.at_most e.label x.label) r ∙ sym high in
          λ l. both_ways (k.at_most e.label (row_at k xs e.node).label) no (le_eq k laws (sym l.1))
      | else-is_labelled-via-else-is_labelled w ↦
          let off : false ≡ is_labelled x.state = w.if-is_labelled.ensures in
          let no : is_labelled (row_at k xs e.node).state ≡ false = ap (λ (x : Row g.row.P-Cost.Denot). is_labelled x.state) r ∙ sym off in
          λ l. both_ways (is_labelled (row_at k xs e.node).state) no (ap is_labelled l.0)
    ] in (
      told.room ∙ inv.0,
      omega (arith, told.count, inv.1),
      back_more k xs (held q₀) (held q) (held q') e told.held inv.2 inv.3,
      kept_more k xs (held q₀) (held q) (held q') e told.held inv.2 inv.3 dead,
      inv.4,
      inv.5,
      record { plant = inv.6.plant; source = inv.6.source; target = inv.6.target },
    )
