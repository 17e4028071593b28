-- The boards to try of document 01: all that it marks with *, gathered in one list with their questions, and one more at the edge of each refusal.
-- `marked_boards` makes it part of the build that every one comes out as it must.
use Rattle.std.specs.Prelude.{◌≡◌, ℕ, ◌+◌, ◌-◌, ◌*◌, ◌^◌, length, take, replicate, set}
use Rattle.std.proofs.Math.Option.{Option}
use mathlib.Core.List.{List, [], ◌∷◌, ◌++◌, map, flatten}
use Rattle.history.specs.Words.{Piece, Block, a_block, cell_place}
use Rattle.history.specs.Lent.{Lent, row_width, entry_width, piece_head, block_head, node_head, entry_head}
use Rattle.history.specs.Tree.{Tree, hole, node}
use Rattle.history.specs.Ledger.{Opening, opened, opening_for}
use Rattle.history.specs.Results.{Result, done, read, update}
use Rattle.history.specs.Reads.{Found, Cells, tree_in}
use Rattle.history.specs.Refusals.{Answer, accepted, refused, open_answer, find_answer, touching_answer, next_answer, last_answer, cells_answer, block_answer, clock_answer}
use Rattle.history.specs.Calls.{Call, record_call, finish_call, answers, after_all}
use Rattle.history.specs.File.{Read, got, fault, Loaded, bytes_of, file_of, load}
use Rattle.history.specs.Printed.{header_text, bad_record_text, open_text, newline, decimal, refused_line, printed}

-- ── what is asked ──

pub data Question : Type 0 where
  what_opening what_answers what_pieces what_blocks : Question
  what_tree : (kind : ℕ) → Question
  what_block : (number : ℕ) → Question
  what_find what_touching : (kind t start stop answer : ℕ) → Question
  what_next what_last : (kind t cell : ℕ) → Question
  what_cells : (kind t start stop bytes held : ℕ) → Question
  what_label : (cell : ℕ) → Question

pub data Fact : Type 0 where
  opening : Answer Unit → Fact
  answered : List (Answer Result) → Fact
  pieces : List Piece → Fact
  blocks : List Block → Fact
  tree : Tree → Fact
  block : Answer Block → Fact
  found : Answer Found → Fact
  touching : Answer (List ℕ) → Fact
  neighbour : Answer (Option ℕ) → Fact
  cells : Answer Cells → Fact
  label : Answer ℕ → Fact

-- a question with the fact that must come of it
infix 70 ◌is◌
pub record Case : Type 0 where
  pub question : Question
  pub fact : Fact

abbrev pub ◌is◌ : Question → Fact → Case
q is f = record { question = q; fact = f }

-- what a board is played with, and what is asked of it
pub record Board : Type 0 where
  pub opening : Opening
  pub calls : List Call
  pub cases : List Case

unfoldable pub told : (a : Opening) (ks : List Call) → Question → Fact
told a ks what_opening = opening (open_answer a)
told a ks what_answers = answered (answers (opened a) ks)
told a ks what_pieces = pieces (after_all (opened a) ks).now.pieces
told a ks what_blocks = blocks (after_all (opened a) ks).now.blocks
told a ks (what_tree kind) = tree (tree_in (after_all (opened a) ks) kind)
told a ks (what_block k) = block (block_answer (after_all (opened a) ks) k)
told a ks (what_find kind t s n room) = found (find_answer (after_all (opened a) ks) kind t s n room)
told a ks (what_touching kind t s n room) = touching (touching_answer (after_all (opened a) ks) kind t s n room)
told a ks (what_next kind t c) = neighbour (next_answer (after_all (opened a) ks) kind t c)
told a ks (what_last kind t c) = neighbour (last_answer (after_all (opened a) ks) kind t c)
told a ks (what_cells kind t s n bytes held) = cells (cells_answer (after_all (opened a) ks) kind t s n bytes held)
told a ks (what_label c) = label (clock_answer (after_all (opened a) ks) c)

unfoldable pub played : Board → List Fact
played b = map (λ c. told b.opening b.calls c.question) b.cases

unfoldable pub expected : Board → List Fact
expected b = map (λ c. c.fact) b.cases

-- ── short names ──

-- lengths for so many pieces, blocks, store bytes, nodes and entries
abbrev pub lengths : (pieces blocks store nodes entries : ℕ) → Lent
lengths p b s n e =
    record {
      pieces = piece_head + row_width * p;
      blocks = block_head + row_width * b;
      store = s;
      nodes = node_head + row_width * n;
      entries = entry_head + entry_width * e;
    }

-- as much as the program `board` lends
abbrev pub ample : Lent
ample = lengths 512 1024 65536 1024 4096

-- end tick and lent lengths; kind 1 alone
abbrev pub on : ℕ → Lent → Opening
on e lent = opening_for e (1 ∷ []) lent

-- kind, tick, first cell, bytes; with a scratch of so many numbers
abbrev pub op_of : (kind scratch t first : ℕ) → List ℕ → Call
op_of kind scratch t f bs = record_call scratch (record { kind = kind; tick = t; first = f; bytes = bs })

abbrev pub op_in : (kind t first : ℕ) → List ℕ → Call
op_in kind t f bs = op_of kind (row_width * 512) t f bs

-- of kind 1
abbrev pub op_with : (scratch t first : ℕ) → List ℕ → Call
op_with scratch t f bs = op_of 1 scratch t f bs

abbrev pub op : (t first : ℕ) → List ℕ → Call
op t f bs = op_with (row_width * 512) t f bs

-- first cell, bytes, written
abbrev piece_on : (first : ℕ) → List ℕ → ℕ → Piece
piece_on f bs w = record { kind = 1; stretch = record { first = cell_place 1 f; bytes = bs }; written = w }

-- first cell, bytes, created, destroyed
abbrev block_on : (first : ℕ) → List ℕ → ℕ → ℕ → Block
block_on f bs c d = a_block 1 f bs c d

abbrev yes! : Answer Unit
yes! = accepted tt

-- what record and finish answer: an update from a cell on, a read, that it is done
abbrev pub from! : (cell : ℕ) → Answer Result
from! c = accepted (update c)

abbrev pub known! : Answer Result
known! = accepted read

abbrev pub done! : Answer Result
done! = accepted done

abbrev pub label! : ℕ → Fact
label! n = label (accepted n)

abbrev pub listed : List ℕ → (visited : ℕ) → Fact
listed ks n = found (accepted (record { numbers = ks; visited = n }))

abbrev pub shown : (bytes held : List ℕ) → Fact
shown bs hs = cells (accepted (record { bytes = bs; held = hs }))

-- the calls of the listing
abbrev pub listing : List Call
listing = op 1 100 (7 ∷ 7 ∷ 7 ∷ []) ∷ op 3 102 (9 ∷ 9 ∷ 9 ∷ []) ∷ op 5 100 (7 ∷ 7 ∷ []) ∷ op 6 103 (4 ∷ []) ∷ finish_call ∷ []

-- ── the marked boards ──

unfoldable pub marked : List Board
marked =
    -- * the listing; its find at tick 6 over [100, 104) gives 100, 102, 103 and 3 nodes; at [104, 104), none
    record {
      opening = on 8 ample;
      calls = listing;
      cases = what_answers is answered (from! 100 ∷ from! 102 ∷ known! ∷ from! 103 ∷ done! ∷ [])
          ∷ what_pieces is pieces []
          ∷ what_blocks is blocks (block_on 102 (7 ∷ []) 1 3
          ∷ block_on 103 (9 ∷ []) 3 6
          ∷ block_on 100 (7 ∷ 7 ∷ []) 1 8
          ∷ block_on 102 (9 ∷ []) 3 8
          ∷ block_on 103 (4 ∷ []) 6 8
          ∷ block_on 104 (9 ∷ []) 3 8
          ∷ [])
          ∷ what_find 1 6 100 104 3 is listed (2 ∷ 3 ∷ 4 ∷ []) 3
          ∷ what_find 1 6 104 104 0 is listed [] 3
          ∷ what_label 102 is label! 142
          ∷ [];
    }
    -- * (0, 10, 05 05) then (1, 10, 05 05 05 05): block 10, length 2, life 0 to 1; a piece of four from tick 1
    ∷ record {
      opening = on 8 ample;
      calls = op 0 10 (5 ∷ 5 ∷ []) ∷ op 1 10 (5 ∷ 5 ∷ 5 ∷ 5 ∷ []) ∷ [];
      cases = what_blocks is blocks (block_on 10 (5 ∷ 5 ∷ []) 0 1 ∷ []) ∷ what_pieces is pieces (piece_on 10 (5 ∷ 5 ∷ 5 ∷ 5 ∷ []) 1 ∷ []) ∷ [];
    }
    -- * ten cells at 20, then other bytes in 20 to 23: 24 to 29 stay
    ∷ record {
      opening = on 8 ample;
      calls = op 2 20 (replicate 10 6) ∷ op 4 20 (replicate 4 8) ∷ [];
      cases = what_pieces is pieces (piece_on 20 (replicate 4 8) 4 ∷ piece_on 24 (replicate 6 6) 2 ∷ [])
          ∷ what_blocks is blocks (block_on 20 (replicate 4 6) 2 4 ∷ [])
          ∷ [];
    }
    -- * two different writes of one cell at one tick: the first is live never
    ∷ record {
      opening = on 8 ample;
      calls = op 3 50 (1 ∷ []) ∷ op 3 50 (2 ∷ []) ∷ finish_call ∷ [];
      cases = what_blocks is blocks (block_on 50 (1 ∷ []) 3 3 ∷ block_on 50 (2 ∷ []) 3 8 ∷ [])
          ∷ what_find 1 3 0 100 2 is listed (1 ∷ []) 4
          ∷ what_cells 1 3 50 51 1 1 is shown (2 ∷ []) (1 ∷ [])
          ∷ [];
    }
    -- * E = 8: life 1 to 8 stands in [1,2), [2,4), [4,8)
    ∷ record {
      opening = on 8 ample;
      calls = op 1 10 (5 ∷ []) ∷ finish_call ∷ [];
      cases = what_tree 1 is tree (node [] (node [] (node [] hole (node (0 ∷ []) hole hole)) (node (0 ∷ []) hole hole)) (node (0 ∷ []) hole hole)) ∷ [];
    }
    -- * life 0 to 0 makes [0,4), [0,2), [0,1), all empty
    ∷ record {
      opening = on 8 ample;
      calls = op 0 10 (5 ∷ []) ∷ op 0 10 (6 ∷ []) ∷ finish_call ∷ [];
      cases = what_blocks is blocks (block_on 10 (5 ∷ []) 0 0 ∷ block_on 10 (6 ∷ []) 0 8 ∷ [])
          ∷ what_tree 1 is tree (node (1 ∷ []) (node [] (node [] (node [] hole hole) hole) hole) hole)
          ∷ [];
    }
    -- * cells 1432 to 1445 booked: find over [1440, 1450) lists nothing; read cells shows the train at 1444
    ∷ record {
      opening = on 8 ample;
      calls = op 0 1432 (replicate 14 9) ∷ finish_call ∷ [];
      cases = what_find 1 5 1440 1450 9 is listed [] 1
          ∷ what_find 1 5 1432 1433 9 is listed (0 ∷ []) 1
          ∷ what_cells 1 5 1444 1447 3 3 is shown (9 ∷ 9 ∷ 0 ∷ []) (1 ∷ 1 ∷ 0 ∷ [])
          ∷ what_label 1439 is label! 2359
          ∷ what_label 1440 is label! 0
          ∷ what_label (2 ^ 32 + 61) is label! 101
          ∷ [];
    }
    -- * first cell 2^64 − 2: length 1 is accepted, length 2 refused 6; tick E − 1 is accepted, E refused 7
    ∷ record {
      opening = on (2 ^ 63) ample;
      calls = op 0 (2 ^ 64 - 2) (1 ∷ 1 ∷ []) ∷ op 0 (2 ^ 64 - 2) (1 ∷ []) ∷ op (2 ^ 63) 0 (1 ∷ []) ∷ op (2 ^ 63 - 1) 0 (1 ∷ []) ∷ [];
      cases = what_answers is answered (refused 6 ∷ from! (2 ^ 64 - 2) ∷ refused 7 ∷ from! 0 ∷ [])
          ∷ what_pieces is pieces (piece_on 0 (1 ∷ []) (2 ^ 63 - 1) ∷ piece_on (2 ^ 64 - 2) (1 ∷ []) 0 ∷ [])
          ∷ [];
    }
    ∷ []

-- ── the edge of each refusal of record, finish and the reads ──

-- room for 2 pieces, 3 blocks, 6 bytes
abbrev scant : Lent
scant = lengths 2 3 6 1024 4096

unfoldable pub edges : List Board
edges =
    -- 1: E from 1 to 2^63, kinds 0 to 4
    record { opening = opening_for 0 (1 ∷ []) ample; calls = []; cases = what_opening is opening (refused 1) ∷ [] }
    ∷ record { opening = opening_for 1 (0 ∷ []) ample; calls = []; cases = what_opening is opening yes! ∷ [] }
    ∷ record { opening = opening_for (2 ^ 63 + 1) (1 ∷ []) ample; calls = []; cases = what_opening is opening (refused 1) ∷ [] }
    ∷ record { opening = opening_for (2 ^ 63) (4 ∷ []) ample; calls = []; cases = what_opening is opening yes! ∷ [] }
    ∷ record { opening = opening_for 8 (5 ∷ []) ample; calls = []; cases = what_opening is opening (refused 1) ∷ [] }
    -- 2: tables that cannot hold their heads
    ∷ record {
      opening = on 8 (record { pieces = 7; blocks = 8200; store = 65536; nodes = 8200; entries = 8200 });
      calls = op 0 5 [] ∷ finish_call ∷ [];
      cases = what_answers is answered (refused 2 ∷ refused 2 ∷ []) ∷ what_find 1 9 1 0 0 is found (refused 2) ∷ what_block 0 is block (refused 2) ∷ [];
    }
    -- 3, 5 and 8, in their order; a finished index keeps its blocks
    ∷ record {
      opening = on 8 ample;
      calls = op 1 5 [] ∷ op 4 5 (1 ∷ []) ∷ op 3 5 (1 ∷ []) ∷ finish_call ∷ finish_call ∷ op 5 5 [] ∷ [];
      cases = what_answers is answered (refused 5 ∷ from! 5 ∷ refused 8 ∷ done! ∷ refused 3 ∷ refused 3 ∷ [])
          ∷ what_blocks is blocks (block_on 5 (1 ∷ []) 4 8 ∷ [])
          ∷ [];
    }
    -- an operation of which two conditions hold gets the first: 5 and 6 before 7, 8 before 9, 9 before 10, 10 before 11
    ∷ record {
      opening = on 8 (lengths 1 1 1 1024 4096);
      calls = op 8 5 [] ∷ op 8 (2 ^ 64 - 1) (1 ∷ []) ∷ op 4 5 (1 ∷ []) ∷ op 3 9 (1 ∷ 1 ∷ []) ∷ op 4 9 (1 ∷ 1 ∷ []) ∷ [];
      cases = what_answers is answered (refused 5 ∷ refused 6 ∷ from! 5 ∷ refused 8 ∷ refused 9 ∷ []) ∷ [];
    }
    ∷ record {
      opening = on 8 (lengths 2 1 1 1024 4096);
      calls = op 4 5 (1 ∷ []) ∷ op 4 9 (1 ∷ 1 ∷ []) ∷ [];
      cases = what_answers is answered (from! 5 ∷ refused 10 ∷ []) ∷ [];
    }
    -- 4: no read of an open index
    ∷ record {
      opening = on 8 ample;
      calls = op 1 5 (1 ∷ []) ∷ [];
      cases = what_find 1 1 0 9 9 is found (refused 4) ∷ what_cells 1 1 0 9 9 9 is cells (refused 4) ∷ what_block 0 is block (refused 4) ∷ [];
    }
    -- 9 by the table; an operation that repeats what stands is accepted
    ∷ record {
      opening = on 8 scant;
      calls = op 0 5 (1 ∷ []) ∷ op 0 7 (2 ∷ []) ∷ op 1 9 (3 ∷ []) ∷ op 2 7 (2 ∷ []) ∷ [];
      cases = what_answers is answered (from! 5 ∷ from! 7 ∷ refused 9 ∷ known! ∷ [])
          ∷ what_pieces is pieces (piece_on 5 (1 ∷ []) 0 ∷ piece_on 7 (2 ∷ []) 0 ∷ [])
          ∷ [];
    }
    -- 10: three rows hold two blocks and a piece; one block more is refused
    ∷ record {
      opening = on 8 scant;
      calls = op 0 5 (1 ∷ []) ∷ op 1 5 (2 ∷ []) ∷ op 2 5 (3 ∷ []) ∷ op 3 5 (4 ∷ []) ∷ [];
      cases = what_answers is answered (from! 5 ∷ from! 5 ∷ from! 5 ∷ refused 10 ∷ []) ∷ [];
    }
    -- 11: six bytes; an update that would bring a seventh is refused, a read is not
    ∷ record {
      opening = on 8 scant;
      calls = op 0 5 (replicate 6 1) ∷ op 1 11 (2 ∷ []) ∷ op 2 5 (1 ∷ []) ∷ [];
      cases = what_answers is answered (from! 5 ∷ refused 11 ∷ known! ∷ []) ∷ [];
    }
    -- 12 and 13: the listing needs 10 nodes and 12 entries; 12 comes before 13
    ∷ record { opening = on 8 (lengths 9 9 9 9 11); calls = listing; cases = what_answers is answered (from! 100 ∷ from! 102 ∷ known! ∷ from! 103 ∷ refused 12 ∷ []) ∷ [] }
    ∷ record { opening = on 8 (lengths 9 9 9 9 12); calls = listing; cases = what_answers is answered (from! 100 ∷ from! 102 ∷ known! ∷ from! 103 ∷ refused 12 ∷ []) ∷ [] }
    ∷ record { opening = on 8 (lengths 9 9 9 10 11); calls = listing; cases = what_answers is answered (from! 100 ∷ from! 102 ∷ known! ∷ from! 103 ∷ refused 13 ∷ []) ∷ [] }
    ∷ record { opening = on 8 (lengths 9 9 9 10 12); calls = listing; cases = what_answers is answered (from! 100 ∷ from! 102 ∷ known! ∷ from! 103 ∷ done! ∷ []) ∷ [] }
    -- 14, 15 and 16; an empty window is no fault
    ∷ record {
      opening = on 8 ample;
      calls = listing;
      cases = what_find 1 8 1 0 0 is found (refused 14)
          ∷ what_find 1 7 1 0 0 is found (refused 15)
          ∷ what_find 1 7 1 1 0 is listed [] 3
          ∷ what_find 1 6 100 104 2 is found (refused 16)
          ∷ what_cells 1 8 1 0 0 0 is cells (refused 14)
          ∷ what_cells 1 7 1 0 0 0 is cells (refused 15)
          ∷ what_cells 1 4 102 104 2 1 is cells (refused 16)
          ∷ what_cells 1 4 102 104 1 2 is cells (refused 16)
          ∷ what_cells 1 4 102 104 2 2 is shown (9 ∷ 9 ∷ []) (1 ∷ 1 ∷ [])
          ∷ what_block 6 is block (refused 15)
          ∷ what_block 5 is block (accepted (block_on 104 (9 ∷ []) 3 8))
          ∷ [];
    }
    ∷ []

-- ── the edge of each refusal of load ──

-- a file, what is lent for it, and what must come of loading it
pub record Load : Type 0 where
  pub lent : Lent
  pub file : List ℕ
  pub at : ℕ
  pub comes : Read Loaded

-- E = 2 and two blocks, of cells 5 and 6, that live from 0 to 2 in the root
abbrev two : List Block
two = block_on 5 (7 ∷ []) 0 2 ∷ block_on 6 (8 ∷ []) 0 2 ∷ []

unfoldable good : List ℕ
good = file_of 1 2 two (node (0 ∷ 1 ∷ []) hole hole)

-- where things stand in it: the blocks are 34 bytes each, from byte 9 on; the root's presence byte is 77, its numbers follow
abbrev root : ℕ
root = 77

abbrev exact : Lent
exact = lengths 0 2 2 1 2

abbrev loads : Lent → List ℕ → Read Loaded → Load
loads lent file comes = record { lent = lent; file = file; at = 0; comes = comes }

abbrev whole : ℕ → Read Loaded
whole next = got (record { end = 2; kind = 1; blocks = two; tree = node (0 ∷ 1 ∷ []) hole hole }) next

unfoldable pub loading : List Load
unfolding good
loading =
    loads exact good (whole 128)
    ∷ record { lent = exact; file = 9 ∷ good ++ (9 ∷ []); at = 1; comes = whole 129 }
    -- 17: a byte short, no byte, a position at the end, a count of 2^64 − 1
    ∷ loads exact (take 127 good) (fault 17)
    ∷ loads exact [] (fault 17)
    ∷ record { lent = exact; file = good; at = 128; comes = fault 17 }
    ∷ loads exact (1 ∷ replicate 8 255) (fault 17)
    -- 18: a kind above 4, a block's kind unlike the file's, though the bytes end after it
    ∷ loads exact (5 ∷ []) (fault 18)
    ∷ loads exact (take 10 (set good 9 2)) (fault 18)
    -- 19: a presence byte of 2
    ∷ loads exact (set good root 2) (fault 19)
    -- 20: one row or byte too few of each
    ∷ loads (lengths 0 1 2 1 2) good (fault 20)
    ∷ loads (lengths 0 2 1 1 2) good (fault 20)
    ∷ loads (lengths 0 2 2 0 2) good (fault 20)
    ∷ loads (lengths 0 2 2 1 1) good (fault 20)
    -- 21: no root, root min 1, E of 0, a wrong mid, a child that isn't the half, a child of a node of width 1
    ∷ loads exact (set (take 78 good) root 0) (fault 21)
    ∷ loads exact (set good (root + 1) 1) (fault 21)
    ∷ loads exact (set good (root + 9) 0) (fault 21)
    ∷ loads exact (set good (root + 17) 0) (fault 21)
    ∷ loads ample (file_of 1 2 two (node [] (node [] (node (0 ∷ 1 ∷ []) hole hole) hole) hole)) (fault 21)
    -- 22: no block, a length of 0, created = destroyed, destroyed > E, an end above 2^64 − 1
    ∷ loads exact (file_of 1 2 (block_on 5 [] 0 2 ∷ []) (node (0 ∷ []) hole hole)) (fault 22)
    ∷ loads exact (file_of 1 2 (block_on 5 (7 ∷ []) 2 2 ∷ []) (node (0 ∷ []) hole hole)) (fault 22)
    ∷ loads exact (file_of 1 2 (block_on 5 (7 ∷ []) 0 3 ∷ []) (node (0 ∷ []) hole hole)) (fault 22)
    ∷ loads exact (file_of 1 2 (block_on (2 ^ 64 - 1) (7 ∷ []) 0 2 ∷ []) (node (0 ∷ []) hole hole)) (fault 22)
    ∷ loads exact (file_of 1 2 (block_on 5 (7 ∷ []) 1 1 ∷ []) (node [] hole hole)) (fault 22)
    -- 23: a block number too high, a block that doesn't cover the node, one that covers the parent, cells not ascending, widths short of a life
    ∷ loads exact (set good (root + 41) 2) (fault 23)
    ∷ loads exact (file_of 1 2 (block_on 5 (7 ∷ []) 0 1 ∷ []) (node (0 ∷ []) hole hole)) (fault 23)
    ∷ loads ample (file_of 1 2 (block_on 5 (7 ∷ []) 0 2 ∷ []) (node [] (node (0 ∷ []) hole hole) (node (0 ∷ []) hole hole))) (fault 23)
    ∷ loads exact (file_of 1 2 two (node (1 ∷ 0 ∷ []) hole hole)) (fault 23)
    ∷ loads ample (file_of 1 4 (block_on 5 (7 ∷ []) 0 3 ∷ []) (node [] (node (0 ∷ []) hole hole) hole)) (fault 23)
    -- 24: two blocks share a cell at a tick
    ∷ loads (lengths 0 2 3 1 2) (file_of 1 2 (block_on 5 (7 ∷ 7 ∷ []) 0 2 ∷ block_on 6 (8 ∷ []) 0 2 ∷ []) (node (0 ∷ 1 ∷ []) hole hole)) (fault 24)
    ∷ []

unfoldable pub loaded_as : Load → Read Loaded
loaded_as x = load x.lent x.file x.at

-- ── the listing as the program prints it ──

-- a record of the input: its mark, tick, first cell, length, bytes
abbrev record_bytes : (t first : ℕ) → List ℕ → List ℕ
record_bytes t f bs = 0xb7 ∷ 0x4f ∷ (bytes_of 8 t ++ (bytes_of 8 f ++ (bytes_of 2 (length bs) ++ bs)))

unfoldable pub listing_input : List ℕ
listing_input =
    bytes_of 8 8
    ++ (bytes_of 1 1
    ++ (record_bytes 1 100 (7 ∷ 7 ∷ 7 ∷ []) ++ (record_bytes 3 102 (9 ∷ 9 ∷ 9 ∷ []) ++ (record_bytes 5 100 (7 ∷ 7 ∷ []) ++ record_bytes 6 103 (4 ∷ [])))))

-- the header, and six lines from "102 1 1 3 0142 07" to "104 1 3 8 0144 09"
unfoldable pub listing_output : List ℕ
listing_output =
    flatten
    (header_text
    ∷ (10 ∷ 49 ∷ 48 ∷ 50 ∷ 32 ∷ 49 ∷ 32 ∷ 49 ∷ 32 ∷ 51 ∷ 32 ∷ 48 ∷ 49 ∷ 52 ∷ 50 ∷ 32 ∷ 48 ∷ 55 ∷ [])
    ∷ (10 ∷ 49 ∷ 48 ∷ 51 ∷ 32 ∷ 49 ∷ 32 ∷ 51 ∷ 32 ∷ 54 ∷ 32 ∷ 48 ∷ 49 ∷ 52 ∷ 51 ∷ 32 ∷ 48 ∷ 57 ∷ [])
    ∷ (10 ∷ 49 ∷ 48 ∷ 48 ∷ 32 ∷ 50 ∷ 32 ∷ 49 ∷ 32 ∷ 56 ∷ 32 ∷ 48 ∷ 49 ∷ 52 ∷ 48 ∷ 32 ∷ 48 ∷ 55 ∷ 48 ∷ 55 ∷ [])
    ∷ (10 ∷ 49 ∷ 48 ∷ 50 ∷ 32 ∷ 49 ∷ 32 ∷ 51 ∷ 32 ∷ 56 ∷ 32 ∷ 48 ∷ 49 ∷ 52 ∷ 50 ∷ 32 ∷ 48 ∷ 57 ∷ [])
    ∷ (10 ∷ 49 ∷ 48 ∷ 51 ∷ 32 ∷ 49 ∷ 32 ∷ 54 ∷ 32 ∷ 56 ∷ 32 ∷ 48 ∷ 49 ∷ 52 ∷ 51 ∷ 32 ∷ 48 ∷ 52 ∷ [])
    ∷ (10 ∷ 49 ∷ 48 ∷ 52 ∷ 32 ∷ 49 ∷ 32 ∷ 51 ∷ 32 ∷ 56 ∷ 32 ∷ 48 ∷ 49 ∷ 52 ∷ 52 ∷ 32 ∷ 48 ∷ 57 ∷ [])
    ∷ (newline ∷ [])
    ∷ [])

-- a refused record, a block of no life, and letters in the bytes: (1, 100, ab), (0, 100, 01), (1, 100, cd)
unfoldable pub refused_input : List ℕ
refused_input =
    bytes_of 8 8 ++ (bytes_of 1 1 ++ (record_bytes 1 100 (0xab ∷ []) ++ (record_bytes 0 100 (1 ∷ []) ++ record_bytes 1 100 (0xcd ∷ []))))

-- the header, "op 2 refused 8", "100 1 1 1 0140 ab" and "100 1 1 8 0140 cd"
unfoldable pub refused_output : List ℕ
refused_output =
    flatten
    (header_text
    ∷ (10 ∷ 111 ∷ 112 ∷ 32 ∷ 50 ∷ 32 ∷ 114 ∷ 101 ∷ 102 ∷ 117 ∷ 115 ∷ 101 ∷ 100 ∷ 32 ∷ 56 ∷ [])
    ∷ (10 ∷ 49 ∷ 48 ∷ 48 ∷ 32 ∷ 49 ∷ 32 ∷ 49 ∷ 32 ∷ 49 ∷ 32 ∷ 48 ∷ 49 ∷ 52 ∷ 48 ∷ 32 ∷ 97 ∷ 98 ∷ [])
    ∷ (10 ∷ 49 ∷ 48 ∷ 48 ∷ 32 ∷ 49 ∷ 32 ∷ 49 ∷ 32 ∷ 56 ∷ 32 ∷ 48 ∷ 49 ∷ 52 ∷ 48 ∷ 32 ∷ 99 ∷ 100 ∷ [])
    ∷ (newline ∷ [])
    ∷ [])

-- ── the result ──

-- every board and every file comes out as it must
pub record MarkedBoards : Type 0 where
  pub boards : map played marked ≡ map expected marked
  pub refusals : map played edges ≡ map expected edges
  pub printed-listing : printed listing_input ≡ listing_output
  pub printed_refusal : printed refused_input ≡ refused_output
  pub cut_record : printed (take 40 listing_input) ≡ bad_record_text ++ decimal 2 (newline ∷ [])
  pub wrong_mark : printed (set listing_input 9 0) ≡ bad_record_text ++ decimal 1 (newline ∷ [])
  pub short_input : printed (take 8 listing_input) ≡ bad_record_text ++ decimal 0 (newline ∷ [])
  pub refused_opening : printed (set listing_input 0 0) ≡ refused_line open_text 1
  pub files : map loaded_as loading ≡ map (λ (x : Load). x.comes) loading
