-- The boards to try of document 02, request by request. `requested_boards` makes it part of the build that every one comes out as it must.
use Rattle.std.specs.Prelude.{◌≡◌, List, [], ◌∷◌, ◌++◌, map, ℕ, ◌-◌, ◌*◌, ◌^◌, replicate}
use Rattle.std.proofs.Math.Option.{none, some}
use Rattle.history.specs.Words.{Block, a_block}
use Rattle.history.specs.Lent.{Lent}
use Rattle.history.specs.Tree.{Tree, hole, node}
use Rattle.history.specs.Ledger.{Opening, opened, opening_for}
use Rattle.history.specs.Refusals.{accepted, refused}
use Rattle.history.specs.Calls.{Call, finish_call, after_all, calendar_call, days_call}
use Rattle.history.specs.File.{got, file_of, file_by}
use Rattle.history.specs.Boards.{Fact, opening, answered, blocks, tree, found, touching, neighbour, cells, label, ◌is◌, Board, Load, what_opening, what_answers, what_blocks, what_tree, what_find, what_touching, what_next, what_last, what_cells, what_label, played, expected, loaded_as, lengths, ample, on, op_in, op_with, op, from!, known!, done!, listed, shown, listing, label! }
use Rattle.history.specs.HoursBoards.{◌to◌, calendar, no_week, monday, special, HoursBoards}
use Rattle.history.specs.DaysBoards.{DaysBoards}

-- ── Item 1 ──

abbrev touched : List ℕ → Fact
touched ks = touching (accepted ks)

abbrev number : ℕ → Fact
number k = neighbour (accepted (some k))

abbrev missing : Fact
missing = neighbour (accepted none)

unfoldable pub touching_boards : List Board
touching_boards =
    -- the listing: what ends at the start does not touch, an empty window touches nothing, even inside a block, and the list goes by cell, not by number;
    -- 14, 15 and 16 in their order, and 14 alone of a neighbour
    record {
      opening = on 8 ample;
      calls = listing;
      cases = what_touching 1 6 101 103 2 is touched (2 ∷ 3 ∷ [])
          ∷ what_touching 1 6 102 105 3 is touched (3 ∷ 4 ∷ 5 ∷ [])
          ∷ what_touching 1 6 101 101 0 is touched []
          ∷ what_touching 1 2 0 200 2 is touched (2 ∷ 0 ∷ [])
          ∷ what_touching 1 8 1 0 0 is touching (refused 14)
          ∷ what_touching 1 7 1 0 0 is touching (refused 15)
          ∷ what_touching 1 7 1 1 0 is touched []
          ∷ what_touching 1 6 101 103 1 is touching (refused 16)
          ∷ what_next 1 6 101 is number 3
          ∷ what_next 1 6 102 is number 3
          ∷ what_next 1 6 105 is missing
          ∷ what_next 1 8 1 is neighbour (refused 14)
          ∷ what_last 1 6 101 is missing
          ∷ what_last 1 6 102 is number 2
          ∷ what_last 1 6 103 is number 3
          ∷ what_last 1 8 1 is neighbour (refused 14)
          ∷ [];
    }
    -- 1432 to 1445, through midnight: who asks from 1440 on is told of the train that came before
    ∷ record {
      opening = on 8 ample;
      calls = op 0 1432 (replicate 14 9) ∷ finish_call ∷ [];
      cases = what_find 1 5 1440 1450 9 is listed [] 1
          ∷ what_touching 1 5 1440 1450 9 is touched (0 ∷ [])
          ∷ what_touching 1 5 1446 1450 9 is touched []
          ∷ what_last 1 5 1445 is missing
          ∷ what_last 1 5 1446 is number 0
          ∷ [];
    }
    -- two writes at one tick: the block of no life, number 0, never shows
    ∷ record {
      opening = on 8 ample;
      calls = op 3 50 (1 ∷ []) ∷ op 3 50 (2 ∷ []) ∷ finish_call ∷ [];
      cases = what_touching 1 3 0 100 2 is touched (1 ∷ []) ∷ what_next 1 3 50 is number 1 ∷ what_last 1 3 51 is number 1 ∷ what_next 1 2 50 is missing ∷ [];
    }
    -- the last cell that can be booked; a cell of 2^64 - 1 has no next
    ∷ record {
      opening = on 8 ample;
      calls = op 0 (2 ^ 64 - 2) (1 ∷ []) ∷ finish_call ∷ [];
      cases = what_touching 1 0 (2 ^ 64 - 2) (2 ^ 64 - 1) 1 is touched (0 ∷ [])
          ∷ what_next 1 0 (2 ^ 64 - 2) is number 0
          ∷ what_next 1 0 (2 ^ 64 - 1) is missing
          ∷ what_last 1 0 (2 ^ 64 - 2) is missing
          ∷ what_last 1 0 (2 ^ 64 - 1) is number 0
          ∷ [];
    }
    -- an index without blocks
    ∷ record {
      opening = on 8 ample;
      calls = finish_call ∷ [];
      cases = what_touching 1 0 0 (2 ^ 64 - 1) 0 is touched [] ∷ what_next 1 0 0 is missing ∷ what_last 1 0 (2 ^ 64 - 1) is missing ∷ [];
    }
    -- 4: an open index; 2: tables that cannot hold their heads
    ∷ record {
      opening = on 8 ample;
      calls = op 1 5 (1 ∷ []) ∷ [];
      cases = what_touching 1 9 1 0 0 is touching (refused 4) ∷ what_next 1 9 0 is neighbour (refused 4) ∷ what_last 1 9 0 is neighbour (refused 4) ∷ [];
    }
    ∷ record {
      opening = on 8 (record { pieces = 7; blocks = 8200; store = 65536; nodes = 8200; entries = 8200 });
      calls = finish_call ∷ [];
      cases = what_touching 1 9 1 0 0 is touching (refused 2) ∷ what_next 1 9 0 is neighbour (refused 2) ∷ what_last 1 9 0 is neighbour (refused 2) ∷ [];
    }
    ∷ []

-- ── Item 2 ──

unfoldable pub change_boards : List Board
change_boards =
    -- two cells, then three with the same byte: the third was unknown; two again are a read
    record {
      opening = on 8 ample;
      calls = op 0 10 (5 ∷ 5 ∷ []) ∷ op 1 10 (5 ∷ 5 ∷ 5 ∷ []) ∷ op 2 10 (5 ∷ 5 ∷ []) ∷ finish_call ∷ [];
      cases = what_answers is answered (from! 10 ∷ from! 12 ∷ known! ∷ done! ∷ []) ∷ [];
    }
    -- a gap between two pieces that are alike; a difference inside a piece; a held 0 is known, and an unknown cell differs from it
    ∷ record {
      opening = on 8 ample;
      calls = op 0 10 (5 ∷ []) ∷ op 0 12 (5 ∷ []) ∷ op 1 10 (5 ∷ 5 ∷ 5 ∷ []) ∷ op 2 10 (5 ∷ 5 ∷ 6 ∷ []) ∷ op 3 20 (0 ∷ []) ∷ op 4 20 (0 ∷ []) ∷ op 5 9 (0 ∷ 5 ∷ []) ∷ [];
      cases = what_answers is answered (from! 10 ∷ from! 12 ∷ from! 11 ∷ from! 12 ∷ from! 20 ∷ known! ∷ from! 9 ∷ []) ∷ [];
    }
    -- a difference in the second piece; one behind a gap, which is lower
    ∷ record {
      opening = on 8 ample;
      calls = op 0 10 (1 ∷ 1 ∷ []) ∷ op 0 12 (2 ∷ 2 ∷ []) ∷ op 1 10 (1 ∷ 1 ∷ 2 ∷ 3 ∷ []) ∷ op 2 20 (5 ∷ []) ∷ op 2 22 (5 ∷ []) ∷ op 3 20 (5 ∷ 5 ∷ 6 ∷ []) ∷ [];
      cases = what_answers is answered (from! 10 ∷ from! 12 ∷ from! 13 ∷ from! 20 ∷ from! 22 ∷ from! 21 ∷ []) ∷ [];
    }
    -- the last cell that can be booked
    ∷ record {
      opening = on 8 ample;
      calls = op 0 (2 ^ 64 - 3) (1 ∷ []) ∷ op 1 (2 ^ 64 - 3) (1 ∷ 1 ∷ []) ∷ [];
      cases = what_answers is answered (from! (2 ^ 64 - 3) ∷ from! (2 ^ 64 - 2) ∷ []) ∷ [];
    }
    ∷ []

-- ── Item 3 ──

-- kinds 0, 3 and 4, named in any order and twice
abbrev pub several : Lent → Opening
several lent = opening_for 8 (4 ∷ 0 ∷ 3 ∷ 0 ∷ []) lent

-- the same cell and byte in two kinds are two bookings
abbrev pub mixed : List Call
mixed = op_in 3 1 5 (8 ∷ []) ∷ op_in 0 3 9 (8 ∷ []) ∷ op_in 0 4 5 (8 ∷ []) ∷ finish_call ∷ []

-- finish goes by kind code, then by cell
abbrev mixed_blocks : List Block
mixed_blocks = a_block 0 5 (8 ∷ []) 4 8 ∷ a_block 0 9 (8 ∷ []) 3 8 ∷ a_block 3 5 (8 ∷ []) 1 8 ∷ []

-- 5 nodes and 3 entries; 6 nodes and 3 entries
abbrev tree_of_zero : Tree
tree_of_zero = node [] (node [] hole (node [] hole (node (1 ∷ []) hole hole))) (node (0 ∷ 1 ∷ []) hole hole)

abbrev tree_of_three : Tree
tree_of_three = node [] (node [] (node [] hole (node (2 ∷ []) hole hole)) (node (2 ∷ []) hole hole)) (node (2 ∷ []) hole hole)

unfoldable pub kind_boards : List Board
kind_boards =
    -- 1: an empty set, and any kind above 4
    record { opening = opening_for 8 [] ample; calls = []; cases = what_opening is opening (refused 1) ∷ [] }
    ∷ record { opening = opening_for 8 (1 ∷ 5 ∷ []) ample; calls = []; cases = what_opening is opening (refused 1) ∷ [] }
    ∷ record { opening = opening_for 8 (4 ∷ 0 ∷ 1 ∷ 1 ∷ []) ample; calls = []; cases = what_opening is opening (accepted tt) ∷ [] }
    -- two kinds with blocks and one without; 25 before 14, for kinds above 4 too
    ∷ record {
      opening = several ample;
      calls = mixed;
      cases = what_answers is answered (from! 5 ∷ from! 9 ∷ from! 5 ∷ done! ∷ [])
          ∷ what_blocks is blocks mixed_blocks
          ∷ what_tree 0 is tree tree_of_zero
          ∷ what_tree 3 is tree tree_of_three
          ∷ what_tree 4 is tree hole
          ∷ what_find 0 5 0 10 2 is listed (0 ∷ 1 ∷ []) 2
          ∷ what_find 3 5 0 10 1 is listed (2 ∷ []) 2
          ∷ what_find 4 5 0 10 0 is listed [] 0
          ∷ what_touching 0 5 5 10 2 is touched (0 ∷ 1 ∷ [])
          ∷ what_touching 3 5 5 10 1 is touched (2 ∷ [])
          ∷ what_next 3 5 6 is missing
          ∷ what_next 0 5 6 is number 1
          ∷ what_last 3 5 9 is number 2
          ∷ what_last 0 3 9 is missing
          ∷ what_cells 0 3 5 6 1 1 is shown (0 ∷ []) (0 ∷ [])
          ∷ what_cells 3 3 5 6 1 1 is shown (8 ∷ []) (1 ∷ [])
          ∷ what_cells 4 3 5 6 1 1 is shown (0 ∷ []) (0 ∷ [])
          ∷ what_find 1 8 0 10 0 is found (refused 25)
          ∷ what_find 7 8 0 10 0 is found (refused 25)
          ∷ what_touching 1 8 0 10 0 is touching (refused 25)
          ∷ what_next 1 8 0 is neighbour (refused 25)
          ∷ what_last 1 8 0 is neighbour (refused 25)
          ∷ what_cells 1 8 0 10 0 0 is cells (refused 25)
          ∷ [];
    }
    -- 25 before 5, and after 3 and 4; the last accepted tick is common to all kinds
    ∷ record {
      opening = several ample;
      calls = op_in 1 0 5 [] ∷ op_in 7 0 5 (8 ∷ []) ∷ op_in 3 4 5 (8 ∷ []) ∷ op_in 0 3 5 (8 ∷ []) ∷ finish_call ∷ op_in 1 0 5 [] ∷ [];
      cases = what_answers is answered (refused 25 ∷ refused 25 ∷ from! 5 ∷ refused 8 ∷ done! ∷ refused 3 ∷ []) ∷ [];
    }
    ∷ record { opening = several ample; calls = []; cases = what_find 1 8 0 10 0 is found (refused 4) ∷ what_next 1 8 0 is neighbour (refused 4) ∷ [] }
    -- 12 and 13 count the trees together: 11 nodes and 6 entries
    ∷ record { opening = several (lengths 9 9 9 10 6); calls = mixed; cases = what_answers is answered (from! 5 ∷ from! 9 ∷ from! 5 ∷ refused 12 ∷ []) ∷ [] }
    ∷ record { opening = several (lengths 9 9 9 11 5); calls = mixed; cases = what_answers is answered (from! 5 ∷ from! 9 ∷ from! 5 ∷ refused 13 ∷ []) ∷ [] }
    ∷ record { opening = several (lengths 9 9 9 11 6); calls = mixed; cases = what_answers is answered (from! 5 ∷ from! 9 ∷ from! 5 ∷ done! ∷ []) ∷ [] }
    ∷ []

-- the file of two kinds, kind 0 before kind 3
unfoldable pub mixed_file : List ℕ
mixed_file = file_of 0 8 mixed_blocks tree_of_zero ++ file_of 3 8 mixed_blocks tree_of_three

unfoldable pub kind_files : List Load
unfolding mixed_file
kind_files =
    -- the trees one after the other, each numbering its own blocks: a load takes one
    record {
      lent = ample;
      file = mixed_file;
      at = 0;
      comes = got (record { end = 8; kind = 0; blocks = a_block 0 5 (8 ∷ []) 4 8 ∷ a_block 0 9 (8 ∷ []) 3 8 ∷ []; tree = tree_of_zero }) 272;
    }
    ∷ record {
      lent = ample;
      file = mixed_file;
      at = 272;
      comes = got (record {
        end = 8;
        kind = 3;
        blocks = a_block 3 5 (8 ∷ []) 1 8 ∷ [];
        tree = node [] (node [] (node [] hole (node (0 ∷ []) hole hole)) (node (0 ∷ []) hole hole)) (node (0 ∷ []) hole hole);
      }) 544;
    }
    ∷ []

-- ── Item 4 ──

unfoldable pub label_boards : List Board
label_boards =
    -- both ends of an hour, of a day and of a platform: 2^32 is no multiple of 1,440, so a platform's last minute is 04:15 and the next one starts at 00:00
    record {
      opening = on 8 ample;
      calls = [];
      cases = what_label 0 is label! 0
          ∷ what_label 59 is label! 59
          ∷ what_label 60 is label! 100
          ∷ what_label 1439 is label! 2359
          ∷ what_label 1440 is label! 0
          ∷ what_label (2 ^ 32 - 1) is label! 415
          ∷ what_label (2 ^ 32) is label! 0
          ∷ what_label (2 ^ 64 - 1) is label! 415
          ∷ [];
    }
    ∷ []

-- ── Items 5 and 8 ──

unfoldable pub hours_boards : List Board
hours_boards =
    -- Mondays 480 to 1200: `to` is closed, each cell counts for itself, and zero bytes pass; nothing was refused before the calendar came
    record {
      opening = on 8 ample;
      calls = op 0 479 (7 ∷ []) ∷ calendar_call (1 ∷ 480 ∷ 1200 ∷ []) ∷ op 1 479 (7 ∷ []) ∷ op 1 480 (7 ∷ []) ∷ op 1 1199 (7 ∷ 7 ∷ []) ∷ op 1 1199 (7 ∷ 0 ∷ []) ∷ op 1 479 (0 ∷ 7 ∷ []) ∷ op 2 1920 (7 ∷ []) ∷ [];
      cases = what_answers is answered (from! 479 ∷ done! ∷ refused 26 ∷ from! 480 ∷ refused 26 ∷ from! 1199 ∷ from! 479 ∷ refused 26 ∷ []) ∷ [];
    }
    -- an empty calendar closes all: a known booking is refused too, a zero byte is written; then one that opens all
    ∷ record {
      opening = on 8 ample;
      calls = op 1 100 (7 ∷ []) ∷ calendar_call [] ∷ op 2 100 (7 ∷ []) ∷ op 2 100 (0 ∷ []) ∷ op 2 100 (0 ∷ []) ∷ calendar_call (calendar (monday (0 to 1440 ∷ [])) 0 []) ∷ op 2 100 (7 ∷ []) ∷ [];
      cases = what_answers is answered (from! 100 ∷ done! ∷ refused 26 ∷ from! 100 ∷ known! ∷ done! ∷ from! 100 ∷ []) ∷ [];
    }
    -- replaced whole, special days too; a calendar that is refused leaves the one before
    ∷ record {
      opening = on 8 ample;
      calls = calendar_call (calendar (monday (0 to 10 ∷ [])) 1 (special 1 (0 to 10 ∷ []) ∷ [])) ∷ op 1 1440 (7 ∷ []) ∷ calendar_call (0 ∷ 0 ∷ 0 ∷ []) ∷ op 1 0 (7 ∷ []) ∷ op 1 1441 (7 ∷ [])
          ∷ calendar_call (calendar no_week 1 (special 0 (0 to 10 ∷ []) ∷ [])) ∷ calendar_call (1 ∷ 10 ∷ 10 ∷ []) ∷ op 1 9 (7 ∷ []) ∷ op 1 10 (7 ∷ []) ∷ [];
      cases = what_answers is answered (done! ∷ from! 1440 ∷ done! ∷ refused 26 ∷ refused 26 ∷ done! ∷ refused 27 ∷ from! 9 ∷ refused 26 ∷ []) ∷ [];
    }
    -- item 8, Mondays 480 to 1200 with three special days, the last one without windows: a known booking is refused there, and the Monday after is judged as before
    ∷ record {
      opening = on 8 ample;
      calls = op 0 480 (7 ∷ []) ∷ calendar_call (calendar (monday (480 to 1200 ∷ [])) 3 (special 0 (60 to 120 ∷ []) ∷ special 1 (0 to 10 ∷ []) ∷ special 7 [] ∷ []))
          ∷ op 1 480 (7 ∷ []) ∷ op 1 60 (7 ∷ []) ∷ op 1 1449 (7 ∷ []) ∷ op 1 1450 (7 ∷ []) ∷ op 1 10560 (7 ∷ []) ∷ op 1 10560 (0 ∷ []) ∷ op 1 20640 (7 ∷ []) ∷ [];
      cases = what_answers is answered (from! 480 ∷ done! ∷ refused 26 ∷ from! 60 ∷ from! 1449 ∷ refused 26 ∷ refused 26 ∷ from! 10560 ∷ from! 20640 ∷ []) ∷ [];
    }
    -- the order: 2, 3 before 27; 8 before 26 before 9; finish keeps the calendar and refuses the next one
    ∷ record {
      opening = on 8 (lengths 1 9 9 99 99);
      calls = calendar_call (1 ∷ 0 ∷ 10 ∷ []) ∷ op 3 0 (7 ∷ []) ∷ op 2 20 (7 ∷ []) ∷ op 3 20 (7 ∷ []) ∷ op 3 5 (7 ∷ []) ∷ op_with 7 3 20 (7 ∷ []) ∷ finish_call ∷ calendar_call (1 ∷ 10 ∷ 10 ∷ []) ∷ calendar_call [] ∷ [];
      cases = what_answers is answered (done! ∷ from! 0 ∷ refused 8 ∷ refused 26 ∷ refused 9 ∷ refused 2 ∷ done! ∷ refused 3 ∷ refused 3 ∷ []) ∷ [];
    }
    ∷ record {
      opening = on 8 (record { pieces = 7; blocks = 8200; store = 65536; nodes = 8200; entries = 8200 });
      calls = calendar_call (1 ∷ 10 ∷ 10 ∷ []) ∷ [];
      cases = what_answers is answered (refused 2 ∷ []) ∷ [];
    }
    ∷ []

-- ── Item 6 ──

unfoldable pub days_boards : List Board
days_boards =
    -- no list, then a lone short day, then a long one in its place; lists that are refused leave it, and so do all other calls; an empty one takes it back
    record { opening = on 8 ample; calls = op 0 5 (1 ∷ []) ∷ []; cases = what_label 120 is label! 200 ∷ what_label 1380 is label! 2300 ∷ [] }
    ∷ record {
      opening = on 8 ample;
      calls = days_call (0 ∷ 1380 ∷ []) ∷ op 0 5 (1 ∷ []) ∷ calendar_call [] ∷ days_call (0 ∷ 1440 ∷ []) ∷ days_call (3 ∷ 1380 ∷ 3 ∷ 1500 ∷ []) ∷ days_call (7 ∷ []) ∷ [];
      cases = what_answers is answered (done! ∷ from! 5 ∷ done! ∷ refused 28 ∷ refused 28 ∷ refused 28 ∷ [])
          ∷ what_label 119 is label! 159
          ∷ what_label 120 is label! 300
          ∷ what_label 1380 is label! 0
          ∷ what_label (2 ^ 32 - 1) is label! 515
          ∷ [];
    }
    ∷ record {
      opening = on 8 ample;
      calls = days_call (0 ∷ 1380 ∷ 1 ∷ 1380 ∷ []) ∷ days_call (0 ∷ 1500 ∷ []) ∷ [];
      cases = what_label 179 is label! 259 ∷ what_label 180 is label! 200 ∷ what_label 240 is label! 300 ∷ what_label 1500 is label! 0 ∷ what_label 2940 is label! 0 ∷ [];
    }
    ∷ record { opening = on 8 ample; calls = days_call (0 ∷ 1380 ∷ []) ∷ days_call [] ∷ []; cases = what_label 120 is label! 200 ∷ [] }
    -- finish keeps it, and a closed index takes the next one; its blocks are found as before
    ∷ record {
      opening = on 8 ample;
      calls = days_call (0 ∷ 1380 ∷ []) ∷ op 0 120 (1 ∷ []) ∷ finish_call ∷ [];
      cases = what_label 120 is label! 300 ∷ [];
    }
    ∷ record {
      opening = on 8 ample;
      calls = op 0 120 (1 ∷ []) ∷ finish_call ∷ days_call (0 ∷ 1500 ∷ []) ∷ days_call (0 ∷ 1439 ∷ []) ∷ calendar_call [] ∷ [];
      cases = what_answers is answered (from! 120 ∷ done! ∷ done! ∷ refused 28 ∷ refused 3 ∷ []) ∷ what_label 180 is label! 200 ∷ what_touching 1 1 0 999 1 is touched (0 ∷ []) ∷ [];
    }
    -- a booking is judged by the list as it stands: Mondays from 03:00 on
    ∷ record {
      opening = on 8 ample;
      calls = calendar_call (1 ∷ 180 ∷ 1440 ∷ []) ∷ op 0 120 (1 ∷ []) ∷ days_call (0 ∷ 1380 ∷ []) ∷ op 0 119 (1 ∷ []) ∷ op 0 120 (1 ∷ []) ∷ days_call (0 ∷ 1500 ∷ []) ∷ op 0 239 (1 ∷ []) ∷ op 0 240 (1 ∷ []) ∷ [];
      cases = what_answers is answered (done! ∷ refused 26 ∷ done! ∷ refused 26 ∷ from! 120 ∷ done! ∷ refused 26 ∷ from! 240 ∷ []) ∷ [];
    }
    -- 2 before 28, and of the clock
    ∷ record {
      opening = on 8 (record { pieces = 7; blocks = 8200; store = 65536; nodes = 8200; entries = 8200 });
      calls = days_call (0 ∷ 1440 ∷ []) ∷ [];
      cases = what_answers is answered (refused 2 ∷ []) ∷ what_label 0 is label (refused 2) ∷ [];
    }
    ∷ []

-- ── Item 9 ──

unfoldable pub scratch_boards : List Board
scratch_boards =
    -- ten pieces with eight numbers, the most that the table has; then 9, by the table alone
    record {
      opening = on 8 (lengths 10 99 99 99 99);
      calls = map (λ k. op_with 8 0 (2 * k) (7 ∷ [])) (0 ∷ 1 ∷ 2 ∷ 3 ∷ 4 ∷ 5 ∷ 6 ∷ 7 ∷ 8 ∷ 9 ∷ 10 ∷ []);
      cases = what_answers is answered (map (λ k. from! (2 * k)) (0 ∷ 1 ∷ 2 ∷ 3 ∷ 4 ∷ 5 ∷ 6 ∷ 7 ∷ 8 ∷ 9 ∷ []) ++ (refused 9 ∷ [])) ∷ [];
    }
    -- seven numbers or none are 2, whatever else holds of the call, open or closed; finish and the reads are lent none
    ∷ record {
      opening = on 8 ample;
      calls = op_with 8 4 5 (1 ∷ []) ∷ op_with 7 4 5 (1 ∷ []) ∷ op_with 0 3 5 [] ∷ finish_call ∷ op_with 7 5 5 (1 ∷ []) ∷ op_with 8 5 5 (1 ∷ []) ∷ [];
      cases = what_answers is answered (from! 5 ∷ refused 2 ∷ refused 2 ∷ done! ∷ refused 2 ∷ refused 3 ∷ []) ∷ what_next 1 4 0 is number 0 ∷ [];
    }
    ∷ []

-- ── the result ──

pub record RequestedBoards : Type 0 where
  pub item_1 : map played touching_boards ≡ map expected touching_boards
  pub item_2 : map played change_boards ≡ map expected change_boards
  pub item_3 : map played kind_boards ≡ map expected kind_boards
  pub item_3_written : file_by (after_all (opened (several ample)) mixed) ≡ mixed_file
  pub item_3_loaded : map loaded_as kind_files ≡ map (λ (x : Load). x.comes) kind_files
  pub item_4 : map played label_boards ≡ map expected label_boards
  pub item_5 : map played hours_boards ≡ map expected hours_boards
  pub calendars : HoursBoards
  pub item_6 : map played days_boards ≡ map expected days_boards
  pub days : DaysBoards
  pub item_9 : map played scratch_boards ≡ map expected scratch_boards
