use Rattle.std.proofs.Common.{◌≡◌, ◌<◌, true, false, length, sym, ap, ◌∙◌, subst, arith}
use Rattle.plant.specs.Floor.{Floor, out_of}
use Rattle.search.specs.declared.row.Row.{Row}
use Rattle.search.specs.Rows.{is_scanned, row_at}
use Rattle.search.specs.Sides.{floor_of}
use Rattle.search.specs.TwoWay.{Spread, spread, follow_all_meet}
use Rattle.search.proofs.HeardFacts.{meets, meets_within}
use Rattle.search.proofs.Kept.{floor_kept, front_at, ready_from}
use Rattle.search.proofs.SettleFacts.{skipped, dropped, followed, skipped_ready, dropped_ready, out_room, followed_ready}
use Rattle.search.proofs.TieFacts.{row_read}
use Rattle.search.proofs.side.Side.settle.Goals as goal

pub returns-then-is_scanned-clause-settles : goal.returns-then-is_scanned-clause-settles
returns-then-is_scanned-clause-settles g c =
    let k = g.P.Cost.CostKind.kind in
    let side = c.args.self.now in
    let f = floor_of side in
    let other = c.args.other.now in
    let others = other.rows.now in
    let e = c.args.e in
    let in' : e.node < length others = omega (arith, other.long, ap (λ (x : Floor g.row.P-Cost.Denot). x.nodes) c.requires.facing.floor, c.requires.taken.within) in
    let row : row_at k others e.node ≡ c.index-others-e.result = row_read k others e.node c.index-others-e.result in' c.index-others-e.is in
    let there : is_scanned (row_at k others e.node).state ≡ true = ap (λ (r : Row g.row.P-Cost.Denot). is_scanned r.state) row ∙ sym c.is_scanned.ensures ∙ c.if-is_scanned.true in
    skipped k f side.source side.rows.now c.mark_as.new.rows others c.args.last e c.args.met there c.mark_as.ensures

pub returns-then-is_scanned-clause-ready : goal.returns-then-is_scanned-clause-ready
returns-then-is_scanned-clause-ready g c =
    let side = c.args.self.now in
    skipped_ready g.P.Cost.CostKind.kind g.met.P.Cost.CostKind.lawful (floor_of side) (g.met.P.Lawful.lawful side.plant.now) side.target side.rows.now side.queue.now c.args.e c.requires.taken c.mark_as.new.rows c.mark_as.ensures

pub returns-then-at_most-clause-settles : goal.returns-then-at_most-clause-settles
returns-then-at_most-clause-settles g c =
    let k = g.P.Cost.CostKind.kind in
    let side = c.args.self.now in
    let f = floor_of side in
    let other = c.args.other.now in
    let others = other.rows.now in
    let e = c.args.e in
    let in' : e.node < length others = omega (arith, other.long, ap (λ (x : Floor g.row.P-Cost.Denot). x.nodes) c.requires.facing.floor, c.requires.taken.within) in
    let row : row_at k others e.node ≡ c.index-others-e.result = row_read k others e.node c.index-others-e.result in' c.index-others-e.is in
    let apart : is_scanned (row_at k others e.node).state ≡ false = ap (λ (r : Row g.row.P-Cost.Denot). is_scanned r.state) row ∙ sym c.is_scanned.ensures ∙ c.if-is_scanned.false in
    let is : c.join.result ≡ k.join e.label (k.rest c.args.last (f.bound side.source e.node)) = c.join.ensures ∙ ap (k.join e.label) (c.rest-rest.ensures ∙ ap (k.rest c.args.last) c.bound.ensures) in
    let far : k.at_most c.args.met.cost c.join.result ≡ true = sym c.at_most.ensures ∙ c.if-at_most.true in
    dropped k f side.source side.rows.now c.mark_as-then-at_most.new.rows others c.args.last e c.args.met apart c.join.result is far c.mark_as-then-at_most.ensures

pub returns-then-at_most-clause-ready : goal.returns-then-at_most-clause-ready
returns-then-at_most-clause-ready g c =
    let side = c.args.self.now in
    dropped_ready g.P.Cost.CostKind.kind g.met.P.Cost.CostKind.lawful (floor_of side) (g.met.P.Lawful.lawful side.plant.now) side.target side.rows.now side.queue.now c.args.e c.requires.taken c.mark_as-then-at_most.new.rows c.mark_as-then-at_most.ensures

pub follow_out-requires-clause-room : goal.follow_out-requires-clause-room
follow_out-requires-clause-room g c =
    let side = c.args.self.now in
    out_room g.P.Cost.CostKind.kind g.met.P.Cost.CostKind.lawful (floor_of side) (g.met.P.Lawful.lawful side.plant.now) side.target side.rows.now side.queue.now c.args.e c.requires.taken c.mark_as-2.new.rows c.mark_as-2.ensures

pub returns-clause-settles : goal.returns-clause-settles
returns-clause-settles g c =
    let k = g.P.Cost.CostKind.kind in
    let side = c.args.self.now in
    let f = floor_of side in
    let other = c.args.other.now in
    let others = other.rows.now in
    let e = c.args.e in
    let in' : e.node < length others = omega (arith, other.long, ap (λ (x : Floor g.row.P-Cost.Denot). x.nodes) c.requires.facing.floor, c.requires.taken.within) in
    let row : row_at k others e.node ≡ c.index-others-e.result = row_read k others e.node c.index-others-e.result in' c.index-others-e.is in
    let apart : is_scanned (row_at k others e.node).state ≡ false = ap (λ (r : Row g.row.P-Cost.Denot). is_scanned r.state) row ∙ sym c.is_scanned.ensures ∙ c.if-is_scanned.false in
    let is : c.join.result ≡ k.join e.label (k.rest c.args.last (f.bound side.source e.node)) = c.join.ensures ∙ ap (k.join e.label) (c.rest-rest.ensures ∙ ap (k.rest c.args.last) c.bound.ensures) in
    let near : k.at_most c.args.met.cost c.join.result ≡ false = sym c.at_most.ensures ∙ c.if-at_most.false in
    let marked = c.mark_as-2.new.rows in
    let rows' = c.follow_out.new.self.rows.now in
    let met' = c.follow_out.new.watch.met in
    let spreads : spread rows' met' ≡ follow_all_meet k f others e.label (spread marked c.args.met) (out_of f e.node) = meets k f e.label (out_of f e.node) marked rows' _ c.follow_out.new.watch c.follow_out.ensures.heard in
    followed k f side.source side.rows.now rows' others c.args.last e c.args.met apart c.join.result is near marked met' c.mark_as-2.ensures spreads

pub returns-clause-met : goal.returns-clause-met
returns-clause-met g c =
    let k = g.P.Cost.CostKind.kind in
    let side = c.args.self.now in
    let f = floor_of side in
    let others = c.args.other.now.rows.now in
    let e = c.args.e in
    let marked = c.mark_as-2.new.rows in
    let rows' = c.follow_out.new.self.rows.now in
    let met' = c.follow_out.new.watch.met in
    let spreads : spread rows' met' ≡ follow_all_meet k f others e.label (spread marked c.args.met) (out_of f e.node) = meets k f e.label (out_of f e.node) marked rows' _ c.follow_out.new.watch c.follow_out.ensures.heard in
    subst (λ (x : Spread g.row.P-Cost.Denot). x.met.node < f.nodes) (sym spreads) (meets_within k f e.label (g.met.P.Lawful.lawful side.plant.now) others (out_of f e.node) (spread marked c.args.met) c.requires.met)

pub returns-clause-ready : goal.returns-clause-ready
returns-clause-ready g c =
    let k = g.P.Cost.CostKind.kind in
    let side = c.args.self.now in
    let f = floor_of side in
    let others = c.args.other.now.rows.now in
    let e = c.args.e in
    let marked = c.mark_as-2.new.rows in
    let new = c.follow_out.new.self in
    let met' = c.follow_out.new.watch.met in
    let does = c.follow_out.ensures in
    let spreads : spread new.rows.now met' ≡ follow_all_meet k f others e.label (spread marked c.args.met) (out_of f e.node) = meets k f e.label (out_of f e.node) marked new.rows.now _ c.follow_out.new.watch does.heard in
    let same : floor_of new ≡ f = floor_kept does.kept in
    let front = front_at k same does.kept.target does.front in
    ready_from k same does.kept.target
    (followed_ready k g.met.P.Cost.CostKind.lawful f (g.met.P.Lawful.lawful side.plant.now) side.target side.rows.now side.queue.now e c.requires.taken marked c.mark_as-2.ensures others new.rows.now c.args.met met' new.queue.now spreads front does.count does.room)
