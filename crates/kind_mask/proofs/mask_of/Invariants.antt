use Rattle.kind_mask.proofs.Masking.{From}
use Rattle.kind_mask.proofs.mask_of.Given as goal

abbrev pub invariant-loop-i : goal.invariant-loop-i
invariant-loop-i l = From l.given l.mask l.i
