use Rattle.std.proofs.Common.{arith}
use Rattle.segment_walk.proofs.Halving.{present, half_falls}
use Rattle.segment_find.proofs.Searching.{deep_place, deep_half}
use Rattle.segment_find.proofs.+search.Goals as goal

pub bounds-notes-depth : goal.bounds-notes-depth
bounds-notes-depth t c = deep_place (present c.absent.ensures c.if-absent.false) c.requires

pub search-requires : goal.search-requires
search-requires t c =
    let there = present c.absent.ensures c.if-absent.false in
    (omega (arith, c.decreases, half_falls _ _ _ _ there c.half-below.ensures), deep_half _ _ there c.requires c.half-below.ensures)
