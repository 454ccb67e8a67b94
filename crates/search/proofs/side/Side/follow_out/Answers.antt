use Rattle.std.proofs.Common.{◌≡◌, ℕ, ◌+◌, ◌<◌, length, drop, Some, None, sym, ap, ◌∙◌, arith}
use Rattle.std.specs.List.{slice_get}
use Rattle.plant.specs.Floor.{Floor, out_of}
use Rattle.search.specs.Heard.{heard, follow_heard, follow_all_heard}
use Rattle.search.specs.Sides.{floor_of}
use Rattle.search.proofs.Kept.{floor_kept}
use Rattle.search.proofs.HeardFacts.{heard_more, heard_done}
use Rattle.search.proofs.OutFacts.{nth_none}
use Rattle.search.proofs.RowFacts.{nth_within}
use Rattle.search.proofs.side.Side.follow_out.Goals as goal

pub follow_lane-requires-clause-room : goal.follow_lane-requires-clause-room
follow_lane-requires-clause-room g c =
    let l = c.loop-lane in
    let inv = l.invariant in
    let is = out_of (floor_of c.args.self.now) c.args.node in
    let e : slice_get is l.lane-iterator.next ≡ Some c.in-Some.lane = (λ i. slice_get (out_of (g.P.Plant.floor (sym inv.2 i).now) (sym inv.3 i)) l.lane-iterator.next) ∙ sym c.in-Some.ensures.steps.0 in
    let h : l.lane-iterator.next < length is = nth_within is l.lane-iterator.next c.in-Some.lane e in
    omega (arith, h, c.requires.room, inv.7, inv.8)

pub loop-lane-preserved : goal.loop-lane-preserved
loop-lane-preserved g c =
    let k = g.P.Cost.CostKind.kind in
    let told = g.W.Watch.told in
    let l = c.loop-lane in
    let inv = l.invariant in
    let old = c.args.self.now in
    let f = floor_of old in
    let is = out_of f c.args.node in
    let j = l.lane-iterator.next in
    let steps = c.in-Some.ensures.steps in
    let same : floor_of l.self ≡ f = floor_kept inv.9 in
    let e : slice_get is j ≡ Some c.in-Some.lane = (λ i. slice_get (out_of (g.P.Plant.floor (sym inv.2 i).now) (sym inv.3 i)) j) ∙ sym steps.0 in
    let h : j < length is = nth_within is j c.in-Some.lane e in
    let next : c.next.new.self.next ≡ j + 1 = omega (arith, steps.3) in
    let new = c.follow_lane.new.self in
    let watch = c.follow_lane.new.watch in
    let does = c.follow_lane.ensures in
    let now : heard new.rows.now watch ≡ follow_heard told k f c.args.from (heard l.self.rows.now l.watch) c.in-Some.lane =
    does.heard ∙ ap (λ (f : Floor g.row.P-Cost.Denot). follow_heard told k f c.args.from (heard l.self.rows.now l.watch) c.in-Some.lane) same in
    let more = heard_more told k f c.args.from (heard l.self.rows.now l.watch) (heard new.rows.now watch) (heard old.rows.now c.args.watch.now) is j c.in-Some.lane e now inv.5 in (
      tt,
      tt,
      steps.1 ∙ inv.2,
      steps.2 ∙ inv.3,
      omega (arith, h, next),
      ap (λ (n : ℕ). follow_all_heard told k f c.args.from (heard new.rows.now watch) (drop n is)) next ∙ more,
      does.front,
      omega (arith, does.count, inv.7, next),
      does.room ∙ inv.8,
      record { plant = does.kept.plant ∙ inv.9.plant; source = does.kept.source ∙ inv.9.source; target = does.kept.target ∙ inv.9.target },
      does.named ∙ inv.10,
    )

pub returns-clause-heard : goal.returns-clause-heard
returns-clause-heard g c =
    let l = c.loop-lane in
    let inv = l.invariant in
    let old = c.args.self.now in
    let f = floor_of old in
    let is = out_of f c.args.node in
    let j = l.lane-iterator.next in
    let e : slice_get is j ≡ None = (λ i. slice_get (out_of (g.P.Plant.floor (sym inv.2 i).now) (sym inv.3 i)) j) ∙ sym c.in-None.ensures.steps.0 in
    heard_done g.W.Watch.told g.P.Cost.CostKind.kind f c.args.from (heard l.self.rows.now l.watch) (heard old.rows.now c.args.watch.now) is j (nth_none is j e) inv.5
