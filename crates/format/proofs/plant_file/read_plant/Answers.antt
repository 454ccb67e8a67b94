use Rattle.std.proofs.Common.{drop, sym, refl, ap, ◌∙◌}
use Rattle.std.specs.Result.{result_err}
use Rattle.std.proofs.lemmas.Result.{err_from_is_err_and}
use Rattle.format.specs.Reader.{room_of}
use Rattle.format.specs.Space.{held}
use Rattle.format.proofs.Kept.{marks_length}
use Rattle.format.proofs.Answered.{roomy_for, spacious_for, column_long, few_nodes, placed_fault, placed_none, refuses_plant, accepts_plant, columned, fault_for, written_for, tables_for}
use Rattle.format.proofs.plant_file.read_plant.Goals as goal

pub returns-in_err-counts : goal.returns-in_err-counts
returns-in_err-counts c =
    let e = err_from_is_err_and c.from_residual.result c.from_residual.ensures.1 in
    rw (e.1, e.2) (c.in_err-counts.ensures (held c.args.lists) c.space-space.ensures, refl)

pub returns-in_err-with_lanes : goal.returns-in_err-with_lanes
returns-in_err-with_lanes c =
    let k = c.in_ok-counts.ensures in
    let l = c.in_ok-counts.field-0 in
    let roomy = roomy_for c.args.room (held c.args.lists) c.space-space.result c.args.text.now _ _ _ _ l k c.space-space.ensures in
    let m = columned _ _ _ _ _ _ _ l k _ _ _ _ c.new-lanes.ensures c.new-marks.ensures c.lanes.ensures c.as_slice.ensures.value in
    let e = err_from_is_err_and c.from_residual-in_err-with_lanes.result c.from_residual-in_err-with_lanes.ensures.1 in
    let q = placed_fault l.counts.lanes c.settle.result _ c.in_err-with_lanes.ensures in
    let f = rw q.0 at c.settle.ensures.written in
    let fault = fault_for k.plant l.counts _ _ _ _ (result_err c.settle.result) m k.sized k.fit c.settle.ensures.fault in
    rw (e.1, e.2) (refuses_plant (room_of c.args.room (held c.args.lists)) c.args.text.now (drop l.end c.args.text.now) k.plant _ roomy (q.1 ∙ sym k.sized.lanes) (ap result_err (sym q.0) ∙ fault), f)

pub returns : goal.returns
returns c =
    let k = c.in_ok-counts.ensures in
    let l = c.in_ok-counts.field-0 in
    let p = k.plant in
    let roomy = roomy_for c.args.room (held c.args.lists) c.space-space.result c.args.text.now _ _ _ _ l k c.space-space.ensures in
    let m = columned _ _ _ _ _ _ _ l k _ _ _ _ c.new-lanes.ensures c.new-marks.ensures c.lanes.ensures c.as_slice.ensures.value in
    let q = placed_none l.counts.lanes c.settle.result _ c.in_ok-with_lanes.ensures in
    let w = rw q at c.settle.ensures.written in
    let fault = fault_for p l.counts _ _ _ _ (result_err c.settle.result) m k.sized k.fit c.settle.ensures.fault in
    record {
      plant = p;
      read_is = accepts_plant (room_of c.args.room (held c.args.lists)) c.args.text.now (drop l.end c.args.text.now) p roomy (ap result_err (sym q) ∙ fault);
      roomy = roomy;
      sized = k.sized;
      lines_are = refl;
      written = written_for l.counts.nodes p.nodes _ _ _ _ _ _ _ _ (sym k.sized.nodes) m.tails_are m.heads_are m.costs_are w.0;
      tables = tables_for l.counts.nodes p.nodes p.marks _ _ (sym k.sized.nodes) (w.1 p.marks m.marks_are);
    }

pub settle-requires : goal.settle-requires
settle-requires c =
    let k = c.in_ok-counts.ensures in
    let l = c.in_ok-counts.field-0 in
    let n = l.counts in
    let m = columned _ _ _ _ _ _ _ l k _ _ _ _ c.new-lanes.ensures c.new-marks.ensures c.lanes.ensures c.as_slice.ensures.value in (
      few_nodes n.nodes n.lanes n.landmarks k.fit,
      spacious_for n c.args.room c.space-space.result _ _ _ _ _ k.room c.space-space.ensures
          (sym (marks_length n.nodes k.plant.marks _ m.marks_are) ∙ k.sized.marks)
          (column_long _ _ k.plant.lanes n.lanes k.sized.lanes m.tails_are)
          (column_long _ _ k.plant.lanes n.lanes k.sized.lanes m.heads_are)
          (column_long _ _ k.plant.lanes n.lanes k.sized.lanes m.costs_are),
    )
