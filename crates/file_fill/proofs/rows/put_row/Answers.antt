-- Each turn writes one number of the row.
use Rattle.std.proofs.Common.{arith}
use Rattle.std.proofs.Common.{◌∙◌, ap, ◌+◌, ◌*◌, List, ℕ}
use Rattle.std.proofs.lemmas.List.{take_all}
use Rattle.std.proofs.lemmas.List.Edits.{sets}
use Rattle.history.specs.Lent.{row_width}
use Rattle.fields.proofs.Writing.{put_mid-sets}
use Rattle.file_fill.proofs.Storing.{row_more}
use Rattle.file_fill.proofs.rows.put_row.Goals as goal

pub loop-col-preserved : goal.loop-col-preserved
loop-col-preserved c = row_more c.args.table.now _ _ c.loop-col.col c.args.row c.loop-col.invariant c.put.ensures (omega arith) (omega arith)

pub returns : goal.returns
returns c = c.loop-col.invariant ∙ ap (λ (l : List ℕ). sets c.args.table.now (row_width * c.args.link + c.args.base) l) (take_all c.loop-col.col c.args.row (omega arith))

pub returns-then-at-table : goal.returns-then-at-table
returns-then-at-table c = put_mid-sets c.args.table.now _ _ _ c.args.row (omega arith) (omega arith) c.copy_from_slice.ensures.after
