use Rattle.apart_laws.proofs.Downward.{theorem_h}
use Rattle.apart_laws.proofs.theorem_h.Goals as goal

pub returns : goal.returns
returns c = theorem_h
