use Rattle.std.proofs.Common.{sym, subst}
use Rattle.format.specs.Places.{ValuesAt}
use Rattle.format.proofs.Tables.{put-row, row_long}
use Rattle.format.proofs.marks.fill_row.Goals as goal

pub returns : goal.returns
returns c xs v =
    put-row c.args.first c.args.nodes c.args.rows.now c.fill_values.new.row xs
    (c.fill_values.ensures xs (subst (ValuesAt c.args.values.line.text.now c.args.values.at xs) (sym (row_long c.args.first c.args.nodes c.args.rows.now c.requires)) v))
