-- All four fields of `rows::four` are there.
use Rattle.file_scan.proofs.RowReads.{four_all}
use Rattle.file_scan.proofs.rows.four.Goals as goal

pub returns : goal.returns
returns c = four_all c.in_ok-number.ensures.given c.in_ok-number-2.ensures.given c.in_ok-number-3.ensures.given c.in_ok-number-4.ensures.given
