-- What finish counts are the trees of all blocks, and what the count answers is the ledger's refusal. Assumes nothing.
use mathlib.Core.Path.{◌≡◌, refl, sym, ap, ◌∙◌}
use mathlib.Core.Bool.{Bool, true, false, cond}
use mathlib.Core.List.{List, ◌++◌, map, map-map}
use Prim.Native.Nat.{ℕ, ◌≤◌, ◌<◌, ◌^◌}
use native.Mathlib.Omega.{arith}
use lib.ListN.{length}
use lib.Dec.{ltb}
use borrow.Author.Tests.{ltb-false}
use Rattle.lists.specs.Lists.{All, count_from}
use Rattle.lists.proofs.Lists.{all_map, all_append, all_of_map}
use Rattle.history.specs.Words.{Block, block_of}
use Rattle.history.specs.Tree.{nodes_in, entries_all}
use Rattle.history.specs.Ledger.{Ledger, settled}
use Rattle.history.specs.Results.{Result, done}
use Rattle.history.specs.Refusals.{Answer, accepted, refused, first_of, finish_refusals, finish_answer}
use Rattle.history.proofs.ByKind.{kind_known}
use Rattle.tables.specs.Columns.{nodes_count}
use Rattle.block_table.specs.Blocks.{block_of_row, blocks_of}
use Rattle.piece_table.specs.Piece.{piece_at}
use Rattle.piece_table.specs.Shown.{shown}
use Rattle.piece_table.proofs.Removing.{linked_valid}
use Rattle.segment_tree.specs.Count.{rows_in}
use Rattle.segment_tree.specs.Lives.{owned_of, block_life, piece_life, entry_rows_in, room_for, rows_to_count, Countable}
use Rattle.std.specs.Prelude.{Ok, Err, Result as Told}
use Rattle.refusals.specs.declared.Refusal.{Refusal}
use Rattle.refusals.specs.declared.Refusal.TheVariants.{NodesFull, EntriesFull}
use Rattle.refusals.specs.Numbers.{number_of}
use Rattle.layout.specs.Tables.{Tables}
use Rattle.layout.specs.Formed.{Blank}
use Rattle.index_finish.specs.Finish.{StandsOpen, all_blocks, whole_trees}
use Rattle.index_finish.proofs.Lists.{counts_once}
use Rattle.index_finish.proofs.Standing.{few_rows, are_blocks, piece-count, linked}

-- ── lives ──

pub row_lives : (store b : List ℕ) (n : ℕ) → map (block_life b) (count_from 1 n) ≡ map owned_of (blocks_of store b n)
unfolding blocks_of block_of_row
row_lives store b n = sym (map-map owned_of (block_of_row store b) (count_from 1 n))

module _ {t : Tables} {l : Ledger} (s : StandsOpen t l) where
  piece-lives : map (piece_life t.pieces l.opening.end) s.encodes.pieces.links ≡ map owned_of (map (block_of l.opening.end) l.now.pieces)
  piece-lives =
      let q : map owned_of (map (block_of l.opening.end) l.now.pieces) ≡ map (λ p. owned_of (block_of l.opening.end p)) l.now.pieces
      = map-map owned_of (block_of l.opening.end) l.now.pieces in
      sym (q ∙ ap (map (λ p. owned_of (block_of l.opening.end p))) s.encodes.pieces.shows
      ∙ map-map (λ p. owned_of (block_of l.opening.end p)) (λ link. shown t.store (piece_at t.pieces link)) s.encodes.pieces.links)

  -- all blocks are of kinds that there are
  pub all_known : All (λ (b : Block). b.kind < nodes_count) (l.now.blocks ++ map (block_of l.opening.end) l.now.pieces)
  all_known =
      let b = s.sound.board in
      all_append (all_map (λ x g. omega (arith, kind_known l.opening.kinds x.kind b.known_kinds g.own_kind)) b.blocks)
      (all_of_map (block_of l.opening.end) (all_map (λ x g. omega (arith, kind_known l.opening.kinds x.kind b.known_kinds g.own_kind)) b.pieces))

  pub countable : Blank t → length t.pieces < 2 ^ 64 → length t.blocks < 2 ^ 64
      → Countable (rows_to_count t.blocks (length l.now.blocks) t.pieces (length l.now.pieces) l.opening.end) t.nodes l.now.blocks
      (map (block_of l.opening.end) l.now.pieces) s.encodes.pieces.links
  countable blank few_pieces few_blocks = record {
    zeros = blank.nodes;
    some = omega (arith, s.sound.board.some_tick);
    small = s.sound.board.end_most;
    known = all_known;
    few = few_rows s few_blocks;
    blocks_are = row_lives t.store t.blocks (length l.now.blocks) ∙ ap (map owned_of) (sym (are_blocks s));
    pieces_are = piece-lives;
    all_pieces =
        counts_once (length l.now.pieces) s.encodes.pieces.links s.encodes.pieces.linked.once
        (λ k m. ((linked_valid (linked s few_pieces) m).some, rw (← piece-count s) (s.encodes.pieces.linked.within k m)))
        (s.encodes.pieces.linked.count ∙ piece-count s);
  }

-- what is counted is all blocks
pub counted_all : (l : Ledger) → l.now.blocks ++ map (block_of l.opening.end) l.now.pieces ≡ all_blocks l
unfolding settled
counted_all l = refl

-- ── the answer ──

abbrev answer_if : (nodes entries : Bool) → Answer Result
answer_if nodes entries = cond nodes (refused 12) (cond entries (refused 13) (accepted done))

-- whether nodes are spent, and entries
abbrev nodes_spent : Ledger → Tables → Bool
nodes_spent l t = ltb (rows_in t.nodes) (nodes_in (whole_trees l))

abbrev entries_spent : Ledger → Tables → Bool
entries_spent l t = ltb (entry_rows_in t.entries) (entries_all (whole_trees l))

module _ {t : Tables} {l : Ledger} (s : StandsOpen t l) where
  finish_answer_lem : finish_answer l ≡ answer_if (nodes_spent l t) (entries_spent l t)
  unfolding first_of finish_refusals
  finish_answer_lem = rw (s.encodes.lengths, s.encodes.heads, s.still_open)

  -- the count's answer is the ledger's
  pub counted_refused : {r : Told Unit Refusal} {x : Refusal} → r ≡ room_for (rows_in t.nodes) (entry_rows_in t.entries) (whole_trees l) → r ≡ Err x → finish_answer l ≡ refused (number_of x)
  counted_refused {r} {x} told full = rw finish_answer_lem (go (nodes_spent l t) (entries_spent l t) told)
    where
      go : (n m : Bool) → r ≡ cond n (Err NodesFull) (cond m (Err EntriesFull) (Ok tt)) → answer_if n m ≡ refused (number_of x)
      go true m e = let q : x ≡ NodesFull = cc in rw q refl
      go false true e = let q : x ≡ EntriesFull = cc in rw q refl
      go false false e = absurd (cc)

  pub counted_accepted : {r : Told Unit Refusal} → r ≡ room_for (rows_in t.nodes) (entry_rows_in t.entries) (whole_trees l) → r ≡ Ok tt → finish_answer l ≡ accepted done
  counted_accepted {r} told z = rw finish_answer_lem (go (nodes_spent l t) (entries_spent l t) told)
    where
      go : (n m : Bool) → r ≡ cond n (Err NodesFull) (cond m (Err EntriesFull) (Ok tt)) → answer_if n m ≡ accepted done
      go true m e = absurd (cc)
      go false true e = absurd (cc)
      go false false e = refl

  pub accepted_space : {r : Told Unit Refusal} → r ≡ room_for (rows_in t.nodes) (entry_rows_in t.entries) (whole_trees l) → r ≡ Ok tt → entries_all (whole_trees l) ≤ entry_rows_in t.entries
  accepted_space {r} told z = go (nodes_spent l t) (entries_spent l t) refl told
    where
      go : (n m : Bool) → entries_spent l t ≡ m → r ≡ cond n (Err NodesFull) (cond m (Err EntriesFull) (Ok tt)) → entries_all (whole_trees l) ≤ entry_rows_in t.entries
      go true m w e = absurd (cc)
      go false true w e = absurd (cc)
      go false false w e = ltb-false (entry_rows_in t.entries) (entries_all (whole_trees l)) w
