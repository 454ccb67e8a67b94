use Rattle.std.proofs.Common.{◌-◌, ◌≤◌, length, Ok, refl, ◌∙◌, arith}
use Rattle.plant.specs.Closed.{among, shut}
use Rattle.plant.specs.Shifted.{closed_list}
use Rattle.search.specs.declared.call.Call.TheVariants.{One}
use Rattle.search.specs.declared.reply.Done.TheVariants.{Searched as Told}
use Rattle.search.specs.Calls.{areas}
use Rattle.search.specs.Faults.{search_fault}
use Rattle.search.specs.Life.{too_short}
use Rattle.search.specs.OneWay.{one_way, one_route}
use Rattle.search.specs.Served.{answer}
use Rattle.search.proofs.AnswerFacts.{written}
use Rattle.search.proofs.MadeFacts.{length_left, search_accepts, search_refuses, enough_rows, one_fault, one_replied}
use Rattle.search.proofs.calling.call_one.Goals as goal

pub returns-clause-makes : goal.returns-clause-makes
returns-clause-makes g c =
    let k = g.P.Cost.CostKind.kind in
    let f = g.P.Plant.floor c.args.shift.now.below in
    let closed = closed_list c.args.shift.now in
    let F = shut k (among closed) f in
    let s = c.args.start in
    let t = c.args.goal in
    let at = c.args.at in
    let rows = c.args.areas.now.rows.now in
    let rows' = c.one_way.new.rows in
    let back = c.args.areas.now.back_rows.now in
    let routes = c.args.areas.now.routes.now in
    let part = c.one_way.new.route in
    let a = areas (length rows) (length c.args.areas.now.queue.now) (length back) (length c.args.areas.now.back_queue.now) (length routes) in
    let told = c.in_ok-answer.ensures in
    let fault = told.fault ∙ one_fault k f closed s t a (length routes - at) _ (length_left at routes) in
    let enough : f.nodes ≤ length rows = enough_rows f s t (length rows) _ fault in
    let near = written f.nodes rows' rows (one_way k F s t).rows (omega (arith, enough, c.one_way.auto.rows)) told.searched.rows_are told.searched.rows_past in
    search_accepts at rows rows' back back routes c.requires (search_fault f s t (too_short f a (length routes - at) (One s t))) (answer k F at (One s t) (one_way k F s t).cost (one_route k F s t)) part
    (Ok (Told c.counted.result at)) fault (one_replied k f closed s t at c.in_ok-answer.answer c.counted.result told.searched.answer_is c.counted.ensures.scanned c.counted.ensures.route) near.1 refl told.searched.route_is c.one_way.auto.route

pub returns-in_err-answer-clause-makes : goal.returns-in_err-answer-clause-makes
returns-in_err-answer-clause-makes g c =
    let k = g.P.Cost.CostKind.kind in
    let f = g.P.Plant.floor c.args.shift.now.below in
    let closed = closed_list c.args.shift.now in
    let F = shut k (among closed) f in
    let s = c.args.start in
    let t = c.args.goal in
    let at = c.args.at in
    let rows = c.args.areas.now.rows.now in
    let back = c.args.areas.now.back_rows.now in
    let routes = c.args.areas.now.routes.now in
    let a = areas (length rows) (length c.args.areas.now.queue.now) (length back) (length c.args.areas.now.back_queue.now) (length routes) in
    let told = c.in_err-answer.ensures in
    let fault = told.fault ∙ one_fault k f closed s t a (length routes - at) _ (length_left at routes) in
    search_refuses at rows c.one_way.new.rows back back routes c.requires (search_fault f s t (too_short f a (length routes - at) (One s t))) (answer k F at (One s t) (one_way k F s t).cost (one_route k F s t)) c.one_way.new.route
    c.in_err-answer.field-0.0 fault c.from_residual.result c.from_residual.ensures.1 told.searched.0 refl told.searched.2
