use Rattle.std.proofs.Common.{ℕ, ◌+◌, ◌*◌, ◌≤◌, length, mul-le-mul_right, add-mul, one-mul, arith}
use Rattle.format.specs.Plain.{to_row, from_row}
use Rattle.format.proofs.Tables.{marks_long, marks_nth, to_more, from_more, table_none, table-all}
use Rattle.format.proofs.marks.fill_tables.Goals as goal

-- row m ends where row m + 1 begins
row_ends : (m nodes marks n : ℕ) → m + 1 ≤ marks → marks * nodes ≤ n → m * nodes + nodes ≤ n
row_ends m nodes marks n h k =
    let p = mul-le-mul_right nodes h in
    let q = add-mul m 1 nodes in
    let o = one-mul nodes in
    omega arith

pub fill_row-requires : goal.fill_row-requires
fill_row-requires c =
    let t = c.loop-m-test.true in
    let k = c.loop-m.auto.to in
    let p = c.requires.0 in
    let r = row_ends c.loop-m.m c.args.nodes (length c.args.marks.now) (length c.args.to.now) (omega arith) p in
    omega arith

pub fill_row-requires-in-loop-m : goal.fill_row-requires-in-loop-m
fill_row-requires-in-loop-m c =
    let t = c.loop-m-test.true in
    let k = c.loop-m.auto.from in
    let p = c.requires.1 in
    let r = row_ends c.loop-m.m c.args.nodes (length c.args.marks.now) (length c.args.from.now) (omega arith) p in
    omega arith

pub loop-m-init : goal.loop-m-init
loop-m-init c ms h = (table_none to_row c.args.nodes ms c.args.to.now, table_none from_row c.args.nodes ms c.args.from.now)

pub loop-m-preserved : goal.loop-m-preserved
loop-m-preserved c ms h =
    let i = c.loop-m.invariant ms h in
    let t = c.loop-m-test.true in
    let k = marks_nth c.args.nodes ms c.args.marks.now _ c.loop-m.m h t in (
      to_more c.args.nodes c.loop-m.m ms c.args.marks.now _ c.args.to.now c.loop-m.to c.fill_row.new.rows k h (omega arith) i.0 (c.fill_row.ensures (to_row k.mark) k.here.0),
      from_more c.args.nodes c.loop-m.m ms c.args.marks.now _ c.args.from.now c.loop-m.from c.fill_row-in-loop-m.new.rows k h (omega arith) i.1
          (c.fill_row-in-loop-m.ensures (from_row k.mark) k.here.1),
    )

pub returns : goal.returns
returns c ms h =
    let i = c.loop-m.invariant ms h in
    let l = marks_long c.args.nodes ms c.args.marks.now h in
    let t = c.loop-m-test.false in
    let e = c.loop-m.auto.m-end in
    (table-all to_row c.args.nodes c.loop-m.m ms c.args.to.now c.loop-m.to (omega arith) i.0, table-all from_row c.args.nodes c.loop-m.m ms c.args.from.now c.loop-m.from (omega arith) i.1)
