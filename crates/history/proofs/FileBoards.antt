-- Two files: one small enough to be read field by field, and that of the listing of document 01. Assumes nothing.
use mathlib.Core.Path.{◌≡◌, refl}
use mathlib.Core.List.{List, [], ◌∷◌, flatten, flat_map}
use Rattle.lists.specs.Lists.{has, count, count_from, sum_of}
use Prim.Native.Nat.{ℕ, ◌+◌, ◌*◌}
use Rattle.history.specs.Words.{Block, a_block, line_of}
use Rattle.history.specs.Lent.{Lent, row_width, entry_width, block_head, node_head, entry_head}
use Rattle.history.specs.Tree.{tree_of, add_all, add_location, insert, entries_in, node_count, entry_count, widths}
use Rattle.history.specs.Rules.{every, halved, filled, lived, numbered, placed, sorted, ascends, summed, rule23, apart, shares}
use Rattle.history.specs.File.{file_of, contents, file_bytes, block_bytes, node_bytes, bytes_of, number_of, those_with, place_in, map_tree, nodes_of, got, ◌>>=◌, onward, give, refuse◌unless◌, field, number, many, read_block, read_nodes, read_root, read_file, tree_from, placed_in, rule20, rule21, rule22, load}

-- ── field by field ──

-- E = 2, kind 3: one block of two cells, live at tick 0 alone, so that it stands in the left half
abbrev pub early : List Block
early = a_block 3 258 (7 ∷ 9 ∷ []) 0 1 ∷ []

abbrev pub early_file : List ℕ
early_file =
    flatten
    ((3 ∷ [])
    ∷ (1 ∷ 0 ∷ 0 ∷ 0 ∷ 0 ∷ 0 ∷ 0 ∷ 0 ∷ [])
    -- the block
    ∷ (3 ∷ [])
    ∷ (2 ∷ 1 ∷ 0 ∷ 0 ∷ 0 ∷ 0 ∷ 0 ∷ 0 ∷ [])
    ∷ (2 ∷ 0 ∷ 0 ∷ 0 ∷ 0 ∷ 0 ∷ 0 ∷ 0 ∷ [])
    ∷ (0 ∷ 0 ∷ 0 ∷ 0 ∷ 0 ∷ 0 ∷ 0 ∷ 0 ∷ [])
    ∷ (1 ∷ 0 ∷ 0 ∷ 0 ∷ 0 ∷ 0 ∷ 0 ∷ 0 ∷ [])
    ∷ (7 ∷ 9 ∷ [])
    -- the root, without entries
    ∷ (1 ∷ [])
    ∷ (0 ∷ 0 ∷ 0 ∷ 0 ∷ 0 ∷ 0 ∷ 0 ∷ 0 ∷ [])
    ∷ (2 ∷ 0 ∷ 0 ∷ 0 ∷ 0 ∷ 0 ∷ 0 ∷ 0 ∷ [])
    ∷ (1 ∷ 0 ∷ 0 ∷ 0 ∷ 0 ∷ 0 ∷ 0 ∷ 0 ∷ [])
    ∷ (0 ∷ 0 ∷ 0 ∷ 0 ∷ 0 ∷ 0 ∷ 0 ∷ 0 ∷ [])
    -- its left half, with one entry, block 0, and no child
    ∷ (1 ∷ [])
    ∷ (0 ∷ 0 ∷ 0 ∷ 0 ∷ 0 ∷ 0 ∷ 0 ∷ 0 ∷ [])
    ∷ (1 ∷ 0 ∷ 0 ∷ 0 ∷ 0 ∷ 0 ∷ 0 ∷ 0 ∷ [])
    ∷ (0 ∷ 0 ∷ 0 ∷ 0 ∷ 0 ∷ 0 ∷ 0 ∷ 0 ∷ [])
    ∷ (1 ∷ 0 ∷ 0 ∷ 0 ∷ 0 ∷ 0 ∷ 0 ∷ 0 ∷ [])
    ∷ (0 ∷ 0 ∷ 0 ∷ 0 ∷ 0 ∷ 0 ∷ 0 ∷ 0 ∷ [])
    ∷ (0 ∷ [])
    ∷ (0 ∷ [])
    -- no right half
    ∷ (0 ∷ [])
    ∷ [])

-- its bytes
pub early-written : file_of 3 2 early (tree_of 3 2 early) ≡ early_file
unfolding line_of file_of contents file_bytes block_bytes node_bytes bytes_of those_with place_in map_tree nodes_of flatten flat_map has count_from tree_of add_all add_location insert entries_in
early-written = refl

-- ── the listing ──

abbrev pub listed : (first created destroyed : ℕ) → List ℕ → Block
listed f c d bytes = a_block 1 f bytes c d

abbrev pub listing : List Block
listing =
    listed 102 1 3 (7 ∷ [])
    ∷ listed 103 3 6 (9 ∷ [])
    ∷ listed 100 1 8 (7 ∷ 7 ∷ [])
    ∷ listed 102 3 8 (9 ∷ [])
    ∷ listed 103 6 8 (4 ∷ [])
    ∷ listed 104 3 8 (9 ∷ [])
    ∷ []

-- the smallest tables that take it: six blocks, seven bytes, ten nodes, twelve entries
abbrev pub listing_lent : Lent
listing_lent = record { pieces = 0; blocks = block_head + row_width * 6; store = 7; nodes = node_head + row_width * 10; entries = entry_head + entry_width * 12 }

pub listing_loaded : load listing_lent (file_of 1 8 listing (tree_of 1 8 listing)) 0
    ≡ got (record { end = 8; kind = 1; blocks = listing; tree = tree_of 1 8 listing }) 651
unfolding line_of load read_file read_root read_nodes read_block many number field refuse◌unless◌ give ◌>>=◌ onward number_of tree_from placed_in rule20 rule21 rule22 rule23 halved filled lived every numbered placed sorted ascends summed widths count apart shares node_count entry_count sum_of count_from tree_of add_all add_location insert file_of contents file_bytes block_bytes node_bytes bytes_of those_with place_in map_tree nodes_of flatten flat_map has entries_in
listing_loaded = refl
