use Rattle.std.proofs.Common.{◌≡◌, suc, ◌+◌, ◌-◌, ◌*◌, ◌<◌, eqb, sym, refl, ap, ◌∙◌, subst, arith, rules}
use Rattle.std.proofs.lemmas.Bool.{cond_both}
use Rattle.plant.specs.FloorFacts.{turned_twice}
use Rattle.plant.specs.Floor.{Floor, turned}
use Rattle.search.specs.declared.meeting.Meeting.{Meeting}
use Rattle.search.specs.Sides.{floor_of}
use Rattle.search.specs.TwoWay.{both_of, two_from, two_way}
use Rattle.search.proofs.Kept.{floor_kept, floor_is, ready_from, stays_at, goes_at}
use Rattle.search.proofs.RoundFacts.{told, ends_forward, ends_between, ends_back, round}
use Rattle.search.proofs.two_sides.run_both.Given.{Over}
use Rattle.search.proofs.two_sides.run_both.Goals as goal

pub loop-init : goal.loop-init
loop-init g c =
    let k = g.P.Cost.CostKind.kind in
    let f = g.P.Plant.floor c.args.plant.now in
    let start = c.args.start in
    let goal = c.args.goal in
    let near = c.begin-near.ensures in
    let far = c.begin-far.ensures in
    let n : suc (2 * f.nodes) - 2 * 0 ≡ suc (2 * f.nodes) = omega arith in
    let within = cond_both (eqb start goal) (record { cost = k.zero; node = start }) (record { cost = k.beyond; node = 0 }) (λ (m : Meeting g.row.P-Cost.Denot). m.node < f.nodes) (λ _. c.requires.start) (λ _. (g.met.P.Lawful.lawful c.args.plant.now).some_node) in
    let here : floor_of c.begin-near.result ≡ f = floor_is c.begin-near.result near.plant in
    let there : floor_of c.begin-far.result ≡ turned f = floor_is c.begin-far.result far.plant in (
      near.ready,
      far.ready,
      subst (λ (m : Meeting g.row.P-Cost.Denot). m.node < f.nodes) (sym c.first_meeting-met.ensures) within,
      here,
      near.source,
      near.target,
      record { floor = there ∙ sym (ap turned here); source = far.source ∙ sym near.target; target = far.target ∙ sym near.source },
      refl,
      refl,
      (k.zero, λ i. two_from k f start goal (n i) (both_of (near.rows i) k.zero (far.rows i) (c.zero-back_last.ensures i) (c.first_meeting-met.ensures i))),
    )

-- the near side has no turn
near_ends : (g : Over) (c : goal.After-back_slots-1 g) →
    let whole = two_way g.P.Cost.CostKind.kind (g.P.Plant.floor c.args.plant.now) c.args.start c.args.goal in
    (c.take_turn.new.self.rows.now ≡ whole.near.rows) × (c.loop.far.rows.now ≡ whole.far.rows) × (c.loop.met ≡ whole.met)
near_ends g c =
    let k = g.P.Cost.CostKind.kind in
    let f = g.P.Plant.floor c.args.plant.now in
    let start = c.args.start in
    let goal = c.args.goal in
    let l = c.loop in
    let near = l.near in
    let far = l.far in
    let inv = l.invariant in
    let x = inv.9.0 in
    let whole = two_way k f start goal in
    let n = suc (2 * f.nodes) - 2 * (l.counter + 1) in
    let fuel : suc (2 * f.nodes) - 2 * l.counter ≡ suc (suc n) = omega (arith, c.loop-test.true, c.node_count-end.ensures.counts) in
    let stop = c.in_default.ensures.turn in
    let stays = stays_at k inv.3 inv.4 inv.5 near.rows.now far.rows.now l.back_last l.met stop.1 in
    let all = told whole near.rows.now far.rows.now x l.back_last l.met (sym inv.9.1 ∙ ends_forward k f start goal near.rows.now far.rows.now x l.back_last l.met (suc (2 * f.nodes) - 2 * l.counter) (suc n) fuel stays) in (
      stop.0 ∙ all.0,
      all.1,
      all.2,
    )

-- the far side has none
far_ends : (g : Over) (c : goal.After-result-1 g) →
    let whole = two_way g.P.Cost.CostKind.kind (g.P.Plant.floor c.args.plant.now) c.args.start c.args.goal in
    (c.take_turn.new.self.rows.now ≡ whole.near.rows) × (c.take_turn-in-loop.new.self.rows.now ≡ whole.far.rows) × (c.in-Some.ours.met ≡ whole.met)
far_ends g c =
    let k = g.P.Cost.CostKind.kind in
    let f = g.P.Plant.floor c.args.plant.now in
    let start = c.args.start in
    let goal = c.args.goal in
    let l = c.loop in
    let near = l.near in
    let far = l.far in
    let inv = l.invariant in
    let x = inv.9.0 in
    let whole = two_way k f start goal in
    let n = suc (2 * f.nodes) - 2 * (l.counter + 1) in
    let fuel : suc (2 * f.nodes) - 2 * l.counter ≡ suc (suc n) = omega (arith, c.loop-test.true, c.node_count-end.ensures.counts) in
    let near' = c.take_turn.new.self in
    let ours = c.in-Some.ours in
    let went = c.in-Some.ensures.turn in
    let goes = goes_at k inv.3 inv.4 inv.5 near.rows.now far.rows.now l.back_last l.met near'.rows.now ours.last ours.met went.goes in
    let floor' = inv.6.floor ∙ ap turned inv.3 in
    let source' = inv.6.source ∙ inv.5 in
    let target' = inv.6.target ∙ inv.4 in
    let stop = c.in_default-take_turn.ensures.turn in
    let stays = stays_at k floor' source' target' far.rows.now near'.rows.now ours.last ours.met stop.1 in
    let all = told whole near'.rows.now far.rows.now ours.last l.back_last ours.met (sym inv.9.1 ∙ ends_back k f start goal near.rows.now far.rows.now x l.back_last l.met (suc (2 * f.nodes) - 2 * l.counter) near'.rows.now ours.last ours.met goes n fuel stays) in (
      all.0,
      stop.0 ∙ all.1,
      all.2,
    )

-- the near side has the last turn
near_lasts : (g : Over) (c : goal.After-result-in-Some-take_turn-2-1 g) →
    let whole = two_way g.P.Cost.CostKind.kind (g.P.Plant.floor c.args.plant.now) c.args.start c.args.goal in
    (c.take_turn-2.new.self.rows.now ≡ whole.near.rows) × (c.loop.far.rows.now ≡ whole.far.rows) × (c.in-Some-take_turn-2.ours.met ≡ whole.met)
near_lasts g c =
    let k = g.P.Cost.CostKind.kind in
    let f = g.P.Plant.floor c.args.plant.now in
    let start = c.args.start in
    let goal = c.args.goal in
    let l = c.loop in
    let near = l.near in
    let far = l.far in
    let inv = l.invariant in
    let x = inv.9.0 in
    let whole = two_way k f start goal in
    let end : suc (2 * f.nodes) - 2 * l.counter ≡ 1 = omega (arith, c.loop-test.false, l.auto.counter-end, c.node_count-end.ensures.counts) in
    let near' = c.take_turn-2.new.self in
    let ours = c.in-Some-take_turn-2.ours in
    let went = c.in-Some-take_turn-2.ensures.turn in
    let goes = goes_at k inv.3 inv.4 inv.5 near.rows.now far.rows.now l.back_last l.met near'.rows.now ours.last ours.met went.goes in
    let all = told whole near'.rows.now far.rows.now ours.last l.back_last ours.met (sym inv.9.1 ∙ ends_between k f start goal near.rows.now far.rows.now x l.back_last l.met (suc (2 * f.nodes) - 2 * l.counter) near'.rows.now ours.last ours.met goes end) in (
      all.0,
      all.1,
      all.2,
    )

-- it has none
none_last : (g : Over) (c : goal.In-None g) →
    let whole = two_way g.P.Cost.CostKind.kind (g.P.Plant.floor c.args.plant.now) c.args.start c.args.goal in
    (c.take_turn-2.new.self.rows.now ≡ whole.near.rows) × (c.loop.far.rows.now ≡ whole.far.rows) × (c.loop.met ≡ whole.met)
none_last g c =
    let k = g.P.Cost.CostKind.kind in
    let f = g.P.Plant.floor c.args.plant.now in
    let start = c.args.start in
    let goal = c.args.goal in
    let l = c.loop in
    let near = l.near in
    let far = l.far in
    let inv = l.invariant in
    let x = inv.9.0 in
    let whole = two_way k f start goal in
    let end : suc (2 * f.nodes) - 2 * l.counter ≡ 1 = omega (arith, c.loop-test.false, l.auto.counter-end, c.node_count-end.ensures.counts) in
    let stop = c.in-None.ensures.turn in
    let stays = stays_at k inv.3 inv.4 inv.5 near.rows.now far.rows.now l.back_last l.met stop.1 in
    let all = told whole near.rows.now far.rows.now x l.back_last l.met (sym inv.9.1 ∙ ends_forward k f start goal near.rows.now far.rows.now x l.back_last l.met (suc (2 * f.nodes) - 2 * l.counter) 0 end stays) in (
      stop.0 ∙ all.0,
      all.1,
      all.2,
    )

pub returns-in_default-clause-rows : goal.returns-in_default-clause-rows
returns-in_default-clause-rows g c = let h = (near_ends g c).0 in search rules

pub returns-in_default-clause-back : goal.returns-in_default-clause-back
returns-in_default-clause-back g c = let h = (near_ends g c).1 in search rules

pub returns-in_default-clause-met : goal.returns-in_default-clause-met
returns-in_default-clause-met g c = (near_ends g c).2

pub take_turn-requires-in-loop-clause-facing : goal.take_turn-requires-in-loop-clause-facing
take_turn-requires-in-loop-clause-facing g c =
    let k = g.P.Cost.CostKind.kind in
    let f = g.P.Plant.floor c.args.plant.now in
    let start = c.args.start in
    let goal = c.args.goal in
    let l = c.loop in
    let near = l.near in
    let far = l.far in
    let inv = l.invariant in
    let x = inv.9.0 in
    let whole = two_way k f start goal in
    let kept = c.in-Some.ensures.kept in
    let same : floor_of c.take_turn.new.self ≡ floor_of near = floor_kept kept in
    record { floor = same ∙ sym (turned_twice (floor_of near)) ∙ sym (ap turned inv.6.floor); source = kept.source ∙ sym inv.6.target; target = kept.target ∙ sym inv.6.source }

pub returns-in_default-take_turn-clause-rows : goal.returns-in_default-take_turn-clause-rows
returns-in_default-take_turn-clause-rows g c = let h = (far_ends g c).0 in search rules

pub returns-in_default-take_turn-clause-back : goal.returns-in_default-take_turn-clause-back
returns-in_default-take_turn-clause-back g c = let h = (far_ends g c).1 in search rules

pub returns-in_default-take_turn-clause-met : goal.returns-in_default-take_turn-clause-met
returns-in_default-take_turn-clause-met g c = (far_ends g c).2

pub loop-preserved : goal.loop-preserved
loop-preserved g c =
    let k = g.P.Cost.CostKind.kind in
    let f = g.P.Plant.floor c.args.plant.now in
    let start = c.args.start in
    let goal = c.args.goal in
    let l = c.loop in
    let near = l.near in
    let far = l.far in
    let inv = l.invariant in
    let x = inv.9.0 in
    let whole = two_way k f start goal in
    let n = suc (2 * f.nodes) - 2 * (l.counter + 1) in
    let fuel : suc (2 * f.nodes) - 2 * l.counter ≡ suc (suc n) = omega (arith, c.loop-test.true, c.node_count-end.ensures.counts) in
    let near' = c.take_turn.new.self in
    let ours = c.in-Some.ours in
    let went = c.in-Some.ensures.turn in
    let goes = goes_at k inv.3 inv.4 inv.5 near.rows.now far.rows.now l.back_last l.met near'.rows.now ours.last ours.met went.goes in
    let floor' = inv.6.floor ∙ ap turned inv.3 in
    let source' = inv.6.source ∙ inv.5 in
    let target' = inv.6.target ∙ inv.4 in
    let far' = c.take_turn-in-loop.new.self in
    let theirs = c.in-Some-take_turn.theirs in
    let back = c.in-Some-take_turn.ensures.turn in
    let backs = goes_at k floor' source' target' far.rows.now near'.rows.now ours.last ours.met far'.rows.now theirs.last theirs.met back.goes in
    let kept = c.in-Some.ensures.kept in
    let kept' = c.in-Some-take_turn.ensures.kept in
    let same : floor_of near' ≡ floor_of near = floor_kept kept in
    let same' : floor_of far' ≡ floor_of far = floor_kept kept' in
    let nodes = ap (λ (y : Floor g.row.P-Cost.Denot). y.nodes) floor' in (
      ready_from k same kept.target went.ready,
      ready_from k same' kept'.target back.ready,
      omega (arith, back.within, nodes),
      same ∙ inv.3,
      kept.source ∙ inv.4,
      kept.target ∙ inv.5,
      record { floor = same' ∙ inv.6.floor ∙ sym (ap turned same); source = kept'.source ∙ inv.6.source ∙ sym kept.target; target = kept'.target ∙ inv.6.target ∙ sym kept.source },
      c.in-Some.ensures.named ∙ inv.7,
      c.in-Some-take_turn.ensures.named ∙ inv.8,
      (ours.last, sym (round k f start goal near.rows.now far.rows.now x l.back_last l.met (suc (2 * f.nodes) - 2 * l.counter) near'.rows.now ours.last ours.met goes n fuel far'.rows.now theirs.last theirs.met backs) ∙ inv.9.1),
    )

pub returns-in-Some-take_turn-2-clause-rows : goal.returns-in-Some-take_turn-2-clause-rows
returns-in-Some-take_turn-2-clause-rows g c = let h = (near_lasts g c).0 in search rules

pub returns-in-Some-take_turn-2-clause-back : goal.returns-in-Some-take_turn-2-clause-back
returns-in-Some-take_turn-2-clause-back g c = let h = (near_lasts g c).1 in search rules

pub returns-in-Some-take_turn-2-clause-met : goal.returns-in-Some-take_turn-2-clause-met
returns-in-Some-take_turn-2-clause-met g c = (near_lasts g c).2

pub returns-in-None-clause-rows : goal.returns-in-None-clause-rows
returns-in-None-clause-rows g c = let h = (none_last g c).0 in search rules

pub returns-in-None-clause-back : goal.returns-in-None-clause-back
returns-in-None-clause-back g c = let h = (none_last g c).1 in search rules

pub returns-in-None-clause-met : goal.returns-in-None-clause-met
returns-in-None-clause-met g c = (none_last g c).2
