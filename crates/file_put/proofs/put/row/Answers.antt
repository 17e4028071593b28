-- Five fields, one after the other.
use Rattle.lists.proofs.Puts.{put_append}
use Rattle.file_put.proofs.put.row.Goals as goal

pub returns : goal.returns
returns c =
    put_append c.byte-a_at.ensures
    (put_append c.number-b_at.ensures (put_append c.number-c_at.ensures (put_append c.number-d_at.ensures c.number.ensures)))
