-- The zeros are those that the table holds.
use Rattle.std.proofs.Common.{arith}
use Rattle.std.proofs.Common.{◌≡◌, replicate}
use Rattle.std.proofs.lemmas.Grind.{common_steps}
use Rattle.file_fill.proofs.Storing.{zeros_put}
use Rattle.file_fill.proofs.rows.put_zeros.Goals as goal

pub returns : goal.returns
returns c =
    let zeros : c.fill.new.self ≡ replicate c.min-n.result 0 = grind (arith, common_steps) in
    record { is = zeros_put c.args.table.now c.fill.new.self c.args.n c.min-n.result c.min-n.ensures zeros }
