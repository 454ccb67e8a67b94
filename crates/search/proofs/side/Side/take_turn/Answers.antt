use Rattle.std.proofs.Common.{◌≡◌, true, false, sym, refl, ap, ◌∙◌, arith}
use Rattle.plant.specs.Floor.{Floor, turned}
use Rattle.queue.specs.Held.{held}
use Rattle.search.specs.Sides.{floor_of}
use Rattle.search.specs.TwoWay.{Both, both_of, flip, two_from}
use Rattle.search.proofs.Kept.{floor_kept, ready_at, taken_from, settles_at}
use Rattle.search.proofs.PickFacts.{none_able, some_able}
use Rattle.search.proofs.TieFacts.{tied_scan}
use Rattle.search.proofs.TwoSteps.{two_ends, two_stops, two_turns}
use Rattle.search.proofs.side.Side.take_turn.Goals as goal

pub returns-in_err-e-clause-turn : goal.returns-in_err-e-clause-turn
returns-in_err-e-clause-turn g c =
    let k = g.P.Cost.CostKind.kind in
    let side = c.args.self.now in
    let other = c.args.other.now in
    let none = none_able k g.met.P.Cost.CostKind.lawful (floor_of side) side.target side.rows.now (held side.queue.now) c.requires.ready.front.tied (λ _. true) c.in_err-e.ensures.next in
    rw c.from_residual.ensures
    (c.next_live.ensures.rows, λ n x. two_ends k (floor_of side) side.source side.target n (both_of side.rows.now x other.rows.now c.args.last c.args.met) none)

pub returns-then-at_most-clause-turn : goal.returns-then-at_most-clause-turn
returns-then-at_most-clause-turn g c =
    let k = g.P.Cost.CostKind.kind in
    let side = c.args.self.now in
    let other = c.args.other.now in
    let e = c.in_ok-e.e in
    let stop : k.at_most c.args.met.cost e.key ≡ true = sym c.at_most.ensures ∙ c.if-at_most.true in (
      c.next_live.ensures.rows,
      λ n x. two_stops k (floor_of side) side.source side.target n (both_of side.rows.now x other.rows.now c.args.last c.args.met) e
          (some_able k g.met.P.Cost.CostKind.lawful (floor_of side) side.target side.rows.now (held side.queue.now) c.requires.ready.front.tied (held c.next_live.new.self.queue.now) e c.in_ok-e.ensures.next (λ _. true) refl) stop,
    )

pub settle-met-requires-clause-taken : goal.settle-met-requires-clause-taken
settle-met-requires-clause-taken g c =
    let k = g.P.Cost.CostKind.kind in
    let laws = g.met.P.Cost.CostKind.lawful in
    let side = c.args.self.now in
    let f = floor_of side in
    let next = c.next_live.new.self in
    let tied = c.requires.ready.front.tied in
    let e = c.in_ok-e.e in
    let told = c.in_ok-e.ensures in
    let same : floor_of next ≡ f = floor_kept told.kept in
    let within = tied.noted.within e told.next.here in
    taken_from k same told.kept.target told.rows (record {
      long = side.long;
      within = within;
      live = told.next.live;
      front = λ s done. record { tied = tied_scan k laws f side.target s done side.rows.now (held side.queue.now) (held next.queue.now) e (omega (arith, within, side.long)) tied told.next };
      fits = omega (arith, told.count, told.room, c.requires.ready.fits);
    })

pub returns-clause-turn : goal.returns-clause-turn
returns-clause-turn g c =
    let k = g.P.Cost.CostKind.kind in
    let side = c.args.self.now in
    let f = floor_of side in
    let source = side.source in
    let target = side.target in
    let other = c.args.other.now in
    let e = c.in_ok-e.e in
    let told = c.in_ok-e.ensures in
    let next = c.next_live.new.self in
    let new = c.settle-met.new.self in
    let met' = c.settle-met.result in
    let done = c.settle-met.ensures in
    let same : floor_of next ≡ f = floor_kept told.kept in
    let same' : floor_of new ≡ f = floor_kept done.kept ∙ same in
    let go : k.at_most c.args.met.cost e.key ≡ false = sym c.at_most.ensures ∙ c.if-at_most.false in
    let settles = settles_at k same told.kept.source told.rows new.rows.now other.rows.now c.args.last e c.args.met met' done.settles in
    record {
      goes = λ n x. two_turns k f source target n (both_of side.rows.now x other.rows.now c.args.last c.args.met) e
          (some_able k g.met.P.Cost.CostKind.lawful f target side.rows.now (held side.queue.now) c.requires.ready.front.tied (held next.queue.now) e told.next (λ _. true) refl) go
          ∙ ap (λ (b : Both g.row.P-Cost.Denot). flip (two_from k (turned f) target source n (flip b))) (settles x);
      within = omega (arith, done.met, ap (λ (x : Floor g.row.P-Cost.Denot). x.nodes) same);
      ready = ready_at k same' (done.kept.target ∙ told.kept.target) done.ready;
    }
