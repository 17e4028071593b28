-- The numbers of the row up to `col` are written.
use Rattle.std.proofs.Common.{◌≡◌, ◌+◌, ◌*◌, take}
use Rattle.std.proofs.lemmas.List.Edits.{sets}
use Rattle.history.specs.Lent.{row_width}
use Rattle.file_fill.proofs.rows.put_row.Given as goal

abbrev pub invariant-loop-col : goal.invariant-loop-col
invariant-loop-col l = l.table ≡ sets l.fn.table (row_width * l.link + l.base) (take l.col l.value-items)
