use Rattle.std.proofs.Common.{◌+◌, [], ◌∷◌, ◌++◌, drop, refl, arith}
use Rattle.std.proofs.lemmas.Result.{err_from_is_err_and}
use Rattle.format.specs.Items.{mark_form}
use Rattle.format.proofs.Kept.{read_none, read_lost, read_more, read_all, push_long, marks_none, marks_more}
use Rattle.format.proofs.marks.read_marks.Goals as goal

pub loop-m-init : goal.loop-m-init
loop-m-init c = (record { xs = []; long = refl; is = read_none (mark_form c.args.counts.nodes) (drop c.args.from c.args.text.now) c.args.counts.landmarks (2 + c.args.counts.lanes) }, marks_none c.args.counts.nodes c.args.marks.now.items)

pub returns-in_err-read : goal.returns-in_err-read
returns-in_err-read c =
    let p = err_from_is_err_and c.from_residual.result c.from_residual.ensures.1 in
    rw (p.1, p.2)
    (read_lost (mark_form c.args.counts.nodes) c.args.text.now c.args.from c.loop-m.at c.args.counts.landmarks (2 + c.args.counts.lanes) c.loop-m.m _ c.loop-m.invariant.0 c.loop-m-test.true
    c.in_err-read.ensures)

pub loop-m-preserved : goal.loop-m-preserved
loop-m-preserved c =
    let r = c.loop-m.invariant.0 in
    let k = c.in_ok-read.ensures in
    let m = k.0 in (
      record {
        xs = r.xs ++ (m ∷ []);
        long = push_long r.xs m c.loop-m.m r.long;
        is =
            read_more (mark_form c.args.counts.nodes) c.args.text.now c.args.from c.loop-m.at c.in_ok-read.read.end c.args.counts.landmarks (2 + c.args.counts.lanes) c.loop-m.m m r
            c.loop-m-test.true k.1;
      },
      marks_more c.args.counts.nodes r.xs m c.in_ok-read.read.form c.args.marks.now.items c.loop-m.marks.items c.keep.new.list.items k.2 c.loop-m.invariant.1 c.keep.ensures,
    )

pub returns : goal.returns
returns c =
    let r = c.loop-m.invariant.0 in
    (r.xs, read_all (mark_form c.args.counts.nodes) c.args.text.now c.args.from c.loop-m.at c.args.counts.landmarks (2 + c.args.counts.lanes) c.loop-m.m r c.loop-m-test.false, (let l = r.long in let t = c.loop-m-test.false in let e = c.loop-m.auto.m-end in omega arith), c.loop-m.invariant.1)
