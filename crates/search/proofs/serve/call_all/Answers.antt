use Rattle.std.proofs.Common.{◌≡◌, ◌+◌, ◌<◌, ◌≤◌, List, length, get_or, set, sym, ap, ◌∙◌, subst, arith}
use Rattle.std.proofs.lemmas.List.{drop_more}
use Rattle.plant.specs.Shifted.{closed_list}
use Rattle.search.specs.declared.call.Call.TheVariants.{Close}
use Rattle.search.specs.Calls.{Reply}
use Rattle.search.specs.Lent.{lengths}
use Rattle.search.specs.Serving.{Serving}
use Rattle.search.proofs.Life.{fresh_life}
use Rattle.search.proofs.ServeFacts.{lengths_same, routes_long, same_after, made-same, serving_more, all_replies, all_routes, all_near, all_far, all_closed}
use Rattle.search.proofs.serve.call_all.Goals as goal

pub loop-i-preserved : goal.loop-i-preserved
loop-i-preserved g c =
    let k = g.P.Cost.CostKind.kind in
    let f = g.P.Plant.floor c.args.shift.now.below in
    let l = c.loop-i in
    let calls = c.args.calls.now in
    let a = lengths c.args.areas.now in
    let closed = closed_list l.shift in
    let call = get_or calls l.i (Close 0) in
    let floor-is : g.P.Plant.floor l.shift.below ≡ f = ap g.P.Plant.floor l.invariant.below in
    let areas-are : lengths l.areas ≡ a = lengths_same c.args.areas.now l.areas l.invariant.same in
    let m = made-same k closed l.at call floor-is areas-are c.call_on-reply.ensures.makes in
    let lt : l.i < length l.replies = omega (arith, c.requires, c.loop-i-test.true, l.auto.replies) in
    let more = serving_more l.invariant.served call (drop_more calls l.i (Close 0) c.loop-i-test.true) m c.call_on-reply.ensures.closed c.nodes_of-at.ensures lt (routes_long l.areas c.call_on-reply.new.areas c.call_on-reply.ensures.same) in
    let put : set l.replies l.i c.call_on-reply.result ≡ c.put_reply.new.replies = sym c.put_reply.ensures in
    let P : List (Reply g.row.P-Cost.Denot) → Type 0 = λ xs. Serving k f a calls (closed_list c.args.shift.now) c.args.replies.now c.args.areas.now.routes.now c.args.areas.now.rows.now c.args.areas.now.back_rows.now (l.i + 1) (l.at + c.nodes_of-at.result) (closed_list c.call_on-reply.new.shift) xs c.call_on-reply.new.areas.routes.now c.call_on-reply.new.areas.rows.now c.call_on-reply.new.areas.back_rows.now in
    record { served = subst P put more; below = c.call_on-reply.ensures.below ∙ l.invariant.below; same = same_after c.args.areas.now l.areas l.invariant.same c.call_on-reply.new.areas c.call_on-reply.ensures.same }

pub returns-clause-made : goal.returns-clause-made
returns-clause-made g c =
    let l = c.loop-i in
    let all : length c.args.calls.now ≤ l.i = c.loop-i-test.false in
    let fits : l.i ≤ length l.replies = omega (arith, c.requires, l.auto.replies, l.auto.i-end) in
    record {
      replies_are = all_replies l.invariant.served all fits;
      routes_are = all_routes l.invariant.served all;
      rows_are = all_near l.invariant.served all;
      back_are = all_far l.invariant.served all;
    }

pub returns-clause-life : goal.returns-clause-life
returns-clause-life g c =
    let laws = g.met.P.Cost.CostKind.lawful in
    fresh_life {routes = c.args.areas.now.routes.now} laws c.node_count.ensures.lawful (returns-clause-made g c) (all_closed c.loop-i.invariant.served c.loop-i-test.false)
