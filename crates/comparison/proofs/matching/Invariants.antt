-- the first j bytes are the same
use Rattle.std.proofs.Common.{◌≡◌, ℕ, ◌+◌, ◌<◌, get_or}
use Rattle.comparison.proofs.matching.Given as goal

abbrev pub invariant-loop-j : goal.invariant-loop-j
invariant-loop-j l = (k : ℕ) → k < l.j → get_or l.bytes (l.from + k) 0 ≡ get_or l.store (l.at + k) 0
