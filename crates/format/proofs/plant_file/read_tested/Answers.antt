use Rattle.std.proofs.Common.{◌≡◌, true, drop, sym, ap, ◌∙◌}
use Rattle.std.proofs.lemmas.Result.{err_from_is_err_and}
use Rattle.plants.specs.Faults.{counts_fit}
use Rattle.format.specs.Reader.{room_of}
use Rattle.format.specs.Space.{room_for}
use Rattle.format.proofs.Answered.{counts_refused, counts_kept, sized_counts, sized_room, read_lost, placed_fault, placed_none, refuses_counts, refuses_short}
use Rattle.format.proofs.plant_file.read_tested.Goals as goal

pub returns-in_err-read : goal.returns-in_err-read
returns-in_err-read c =
    let e = err_from_is_err_and c.from_residual.result c.from_residual.ensures.1 in
    rw (e.1, e.2) (λ lists _. read_lost (room_of c.args.room lists) c.args.text.now _ c.in_err-read.ensures)

pub returns-in_err-with_lanes : goal.returns-in_err-with_lanes
returns-in_err-with_lanes c =
    let k = c.in_ok-read.ensures in
    let p = k.0 in
    let counts = c.in_ok-read.read.counts in
    let e = err_from_is_err_and c.from_residual-in_err-with_lanes.result c.from_residual-in_err-with_lanes.ensures.1 in
    let q = placed_fault counts.lanes c.check_counts.result _ c.in_err-with_lanes.ensures in
    let f = counts_refused (counts_fit counts.nodes counts.lanes counts.landmarks) _ (rw q.0 at c.check_counts.ensures) in
    rw (e.1, e.2) (λ lists _. refuses_counts (room_of c.args.room lists) c.args.text.now (drop c.in_ok-read.read.end c.args.text.now) p _ k.1 (sized_counts p counts k.2 ∙ f.1) f.0)

pub returns-in_err-check_room : goal.returns-in_err-check_room
returns-in_err-check_room c =
    let k = c.in_ok-read.ensures in
    let p = k.0 in
    let counts = c.in_ok-read.read.counts in
    let ok = placed_none counts.lanes c.check_counts.result _ c.in_ok-with_lanes.ensures in
    let fit : counts_fit counts.nodes counts.lanes counts.landmarks ≡ true = counts_kept _ (rw ok at c.check_counts.ensures) in
    let e = err_from_is_err_and c.from_residual-in_err-check_room.result c.from_residual-in_err-check_room.ensures.1 in
    let f = c.in_err-check_room.ensures in
    rw (e.1, e.2)
    (λ lists q.
    refuses_short (room_of c.args.room lists) c.args.text.now (drop c.in_ok-read.read.end c.args.text.now) p _ k.1 (sized_counts p counts k.2 ∙ fit)
    (sized_room p counts c.args.room lists k.2 ∙ (ap (λ s. room_for counts c.args.room s) (sym q) ∙ f.1)) f.0)
