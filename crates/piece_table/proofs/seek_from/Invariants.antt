-- what the rest of the way finds, the whole finds
use Prim.Native.Nat.{◌-◌}
use Rattle.piece_table.proofs.Seeking.{Sinks}
use Rattle.piece_table.proofs.seek_from.Given as goal

abbrev pub invariant-loop-turn : goal.invariant-loop-turn
invariant-loop-turn l = Sinks l.table l.link l.kind l.cell 0 l.fuel l.at l.found (l.fuel - l._turn)
