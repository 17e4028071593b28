-- The file and the ledger: what is loaded is a sound closed ledger, a sound one can be written and loaded, and the two answer alike. Assumes
-- nothing.
use mathlib.Core.Path.{◌≡◌, refl, sym, ◌∙◌, ap, ap₂, subst}
use mathlib.Core.Logic.{◌⊎◌, inl, inr}
use mathlib.Core.Bool.{true, false, cond, not}
use mathlib.Core.Option.{some}
use mathlib.Core.List.{List, [], map, ◌∷◌, flat_map, ◌++◌, append_assoc, append-nil}
use Prim.Native.Nat.{ℕ, zero, suc, ◌<◌, ◌≤◌, ◌^◌, ◌+◌, ◌-◌, min}
use native.Mathlib.Omega.{arith}
use lib.Dec.{eqb}
use lib.ListN.{length, take, get_or, length-append}
use lib.Seq.{take-append_seam, drop-append_seam}
use borrow.Author.Tests.{eq-eqb, ne_eqb, not-true}
use Rattle.lists.specs.Lists.{All, all_nil, has, count_from, sum_of, all_cons, pairs_nil, pairs_cons}
use Rattle.lists.proofs.Lists.{all_map, all_both, all_at, all_of_map}
use Rattle.lists.proofs.Maps.{length_of_map, map_all}
use Rattle.lists.proofs.Numbers.{decided, eq_or_ne}
use Rattle.lists.proofs.Counting.{count_from_below, count_from_append}
use Rattle.history.specs.Words.{Block, all_kinds, cell_place, size, of_kind, own_life, only_kind}
use Rattle.history.specs.Tree.{Tree, hole, no_block, block_at, tree_at, node_count, entry_count, widths}
use Rattle.history.specs.Reads.{tree_in, seen, find_by, cells_by}
use Rattle.history.specs.File.{written, written_blocks, renumbered, new_number, contents, file_of, file_part, file_by, part_at, file_bytes, got, tree_from, rule20, load, end_of, Loaded, File, loaded_from, reloaded, trees_with, loaded_ledger, saved_ledger}
use Rattle.history.specs.Rules.{filled, halved, numbered, placed, sorted, rule23}
use Rattle.history.specs.Lent.{Lent}
use Rattle.history.specs.Days.{rises_from, days_taken}
use Rattle.history.specs.Ledger.{Ledger}
use Rattle.history.specs.Sound.{Stored, SoundBlock, Sound, none_of, SoundBoard, SoundTree, SoundClosed}
use Rattle.history.proofs.OneTree.{holes_but_own, sum_with}
use Rattle.history.proofs.ByKind.{own_same, own_kind, own_stretch, own-ends, own_forward, own_dead, own-lives, only_length, only_at, only_same, only_apart, only_seen, none_owned, one-owned}
use Rattle.history.proofs.RulesLaws.{every_all, rule23_decides, apart_decides, filled_decides}
use Rattle.history.proofs.FileNumbers.{Bytes}
use Rattle.history.proofs.FileYields.{Yielded}
use Rattle.history.proofs.FileRoundTrip.{gives_file, BlockFits, FileFits}
use Rattle.history.proofs.FileRules.{rule20_decides, rule21_decides, rule22_decides, Rule20, Rule21, LivingBlock, Rule22}
use Rattle.history.proofs.FileIntervals.{tree_from_rooted}
use Rattle.history.proofs.FileLoad.{file_some, load_accepted, read_inside, Accepted, LoadedOf}
use Rattle.history.proofs.FileKept.{WholeBlock, Writable, written-lives}
use Rattle.history.proofs.FileReloaded.{load-written}
use Rattle.history.proofs.FileAlike.{written-find, written-visited, written-seen}

-- ── a loaded index is sound ──

-- blocks whose bytes stand one after the other are inside the store
stored_each : (front : List ℕ) (bs : List Block) → All (λ b. Stored (front ++ flat_map (λ b. b.stretch.bytes) bs) b.stretch) bs
unfolding flat_map
stored_each front [] = all_nil
stored_each front (b ∷ bs) =
    let rest : List ℕ = flat_map (λ b. b.stretch.bytes) bs in
    let first : Stored (front ++ (b.stretch.bytes ++ rest)) b.stretch =
    record {
      offset = length front;
      inside = simp length-append (omega arith);
      bytes = sym (ap (take (size b.stretch)) (drop-append_seam front (b.stretch.bytes ++ rest)) ∙ take-append_seam b.stretch.bytes rest);
    } in
    all_cons first (all_map (λ c h. rw (append_assoc front b.stretch.bytes rest) at h) (stored_each (front ++ b.stretch.bytes) bs))

flat_length : (bs : List Block) → length (flat_map (λ b. b.stretch.bytes) bs) ≡ sum_of (map (λ b. size b.stretch) bs)
unfolding flat_map sum_of
flat_length [] = refl
flat_length (b ∷ bs) = length-append b.stretch.bytes (flat_map (λ b. b.stretch.bytes) bs) ∙ ap (λ (n : ℕ). length b.stretch.bytes + n) (flat_length bs)

-- ── one tree among holes ──

-- a kind without blocks needs no node
hole_sound : (e : ℕ) (bs : List Block) (kind : ℕ) → none_of kind bs ≡ true → SoundTree e bs kind hole
unfolding halved numbered placed sorted widths
hole_sound e bs kind none =
    record {
      rooted = sym none;
      rule_21 = refl;
      rule_23 =
          decided (rule23 e (only_kind kind bs) hole) (rule23_decides e (only_kind kind bs) hole)
          (record {
            numbers = refl;
            places = refl;
            order = refl;
            sums = λ k h. sym (rw (only_at kind bs k) (own_dead kind (block_at bs k)
                (not-true _ (all_at no_block (every_all (λ b. not (of_kind kind b)) bs none) k (rw (only_length kind bs) at h)))));
          });
    }

-- Whatever the loader takes is well formed.
accepted_sound : (n : Lent) (f : File) → FileFits f → Accepted n f → Sound (loaded_ledger n (loaded_from f))
unfolding node_count entry_count has days_taken rises_from
accepted_sound n f fits rules =
    let room : Rule20 n f = (rule20_decides n f).yes rules.room in
    record {
      board = record {
        some_tick = halves.some_tick;
        end_most = halves.end_most;
        known_kinds = record { some_kind = omega arith; known = all_cons fits.kindly all_nil; ascending = pairs_cons all_nil pairs_nil };
        last_below_end = halves.some_tick;
        pieces = all_nil;
        in_order = pairs_nil;
        blocks = all_both (λ b living z. sound_block b living z) blocks.blocks stored;
        pieces_fit = omega arith;
        blocks_fit = omega (arith, room.blocks);
        store_fits = rw (flat_length f.blocks) room.bytes;
        calendar-taken = tt;
        days_taken_lem = refl;
      };
      closed = record {
        no_pieces = refl;
        five = length_of_map (λ k. cond (eqb f.kind k) (tree_from f.nodes) hole) all_kinds;
        each = λ k low. rw (holes_but_own f.kind (tree_from f.nodes) k low) (tree_sound k (eq_or_ne f.kind k));
        rule_24 = (apart_decides f.blocks).yes rules.disjoint;
        nodes_fit = rw (sum_with node_count refl f.kind (tree_from f.nodes) fits.kindly) room.nodes;
        entries_fit = rw (sum_with entry_count refl f.kind (tree_from f.nodes) fits.kindly) room.entries;
      };
    }
  where
    halves : Rule21 f.nodes
    halves = (rule21_decides f.nodes).yes rules.halves

    blocks : Rule22 (end_of f.nodes) f.blocks
    blocks = (rule22_decides (end_of f.nodes) f.blocks).yes rules.blocks

    store : List ℕ
    store = flat_map (λ b. b.stretch.bytes) f.blocks

    stored : All (λ b. BlockFits f.kind b × Stored (flat_map (λ b. b.stretch.bytes) f.blocks) b.stretch) f.blocks
    stored = all_both (λ b fit z. (fit, z)) fits.blocks (stored_each [] f.blocks)

    own : All (λ (b : Block). b.kind ≡ f.kind) f.blocks
    own = all_map (λ b fit. fit.own) fits.blocks

    tree_sound : (k : ℕ) → (f.kind ≡ k) ⊎ (f.kind ≡ k → ⊥) → SoundTree (end_of f.nodes) f.blocks k (cond (eqb f.kind k) (tree_from f.nodes) hole)
    tree_sound k (inl e) =
        rw (eq-eqb f.kind k e)
        (subst (λ (j : ℕ). SoundTree (end_of f.nodes) f.blocks j (tree_from f.nodes)) e
        (record {
          rooted = tree_from_rooted f.nodes halves.some_tick ∙ sym (one-owned f.kind f.blocks 0 blocks.some_block (all_at no_block own 0 blocks.some_block));
          rule_21 = halves.halves;
          rule_23 = rw (only_same f.kind own) rules.entries;
        }))
    tree_sound k (inr n) = rw (ne_eqb f.kind k n) (hole_sound (end_of f.nodes) f.blocks k (none_owned k f.blocks (λ j h q. n (sym (all_at no_block own j h) ∙ q))))

    sound_block : (b : Block) → LivingBlock (end_of f.nodes) b → BlockFits f.kind b × Stored (flat_map (λ b. b.stretch.bytes) f.blocks) b.stretch
        → SoundBlock (f.kind ∷ []) (end_of f.nodes) (flat_map (λ b. b.stretch.bytes) f.blocks) b
    sound_block b living z =
        record {
          stretch = record {
            some_cell = living.some_cell;
            from_line = omega (arith, z.0.line);
            no_wrap = omega (arith, z.0.line, living.no_wrap);
            stored = z.1;
          };
          forward = omega (arith, living.lives);
          by_end = living.by_end;
          own_kind = rw (eq-eqb b.kind f.kind z.0.own) refl;
        }

-- so is whatever load gives
pub loaded_sound : (n : Lent) (file : List ℕ) → Bytes file → (at : ℕ) (x : Loaded) (next : ℕ) → load n file at ≡ got x next → Sound (loaded_ledger n x)
loaded_sound n file small at x next e =
    let z : LoadedOf n file at x next = load_accepted n file at x next e in
    let y : Yielded file (λ g w. FileFits g × (w ≡ file_bytes g)) at z.said next =
    (gives_file file small).yields at z.said next (read_inside file at z.said next z.read) z.read in
    rw z.same (accepted_sound n z.said y.says.0 z.rules)

-- ── a kind's tree can be written ──

-- what one of them has all have together
pub sum_at : (f : Tree → ℕ) → f hole ≡ 0 → (trees : List Tree) (k : ℕ) → f (tree_at trees k) ≤ sum_of (map f trees)
unfolding sum_of
sum_at f none [] k = omega arith
sum_at f none (t ∷ ts) zero = omega arith
sum_at f none (t ∷ ts) (suc k) = omega (arith, sum_at f none ts k)

-- a sound closed ledger with blocks of the kind, in tables of fewer than 2^64 numbers
pub sound_writable : (l : Ledger) (trees : List Tree) → SoundBoard l → SoundClosed l trees → (kind : ℕ) → kind ≤ 4 → none_of kind l.now.blocks ≡ false
    → l.opening.lent.blocks < 2 ^ 64 → l.opening.lent.entries < 2 ^ 64 → Writable kind l.opening.end (only_kind kind l.now.blocks) (tree_at trees kind)
unfolding only_kind entry_count
sound_writable l trees board closed kind low some_block small narrow =
    let own : SoundTree l.opening.end l.now.blocks kind (tree_at trees kind) = closed.each kind low in
    record {
      known_kind = low;
      some_tick = board.some_tick;
      end_most = board.end_most;
      rooted = own.rooted ∙ some_block;
      halves = own.rule_21;
      rule_23 = own.rule_23;
      rule_24 = only_apart kind l.now.blocks closed.rule_24;
      blocks = all_of_map (own_life kind) (all_map whole board.blocks);
      count = omega (arith, only_length kind l.now.blocks, board.blocks_fit);
      entries = omega (arith, closed.entries_fit, sum_at entry_count refl trees kind);
    }
  where
    whole : (b : Block) → SoundBlock l.opening.kinds l.opening.end l.now.store b → WholeBlock kind l.opening.end (own_life kind b)
    whole b h =
        record {
          full = decided (filled (own_life kind b)) (filled_decides (own_life kind b))
              (rw (own_stretch kind b, own_kind kind b) (h.stretch.some_cell, omega (arith, h.stretch.from_line, h.stretch.no_wrap)));
          line = rw (own_stretch kind b, own_kind kind b) (omega (arith, h.stretch.from_line));
          forward = own_forward kind b h.forward;
          by_end = omega (arith, own-ends kind b, h.by_end);
          own_kind = λ lives. own_kind kind b ∙ own-lives kind b (own_life kind b).created lives;
        }

-- ── of all blocks the kind's are written ──

module _ (kind e : ℕ) (bs : List Block) (tree : Tree) (w : Writable kind e (only_kind kind bs) tree) where
  same_numbers : written (only_kind kind bs) tree ≡ written bs tree
  same_numbers = rw (only_length kind bs) refl

  -- those that are written are as they were
  pub written_only : written_blocks (only_kind kind bs) tree ≡ written_blocks bs tree
  written_only =
      map_all (block_at (only_kind kind bs)) (block_at bs) (all_map one (written-lives kind e (only_kind kind bs) tree w))
      ∙ ap (map (block_at bs)) same_numbers
    where
      one : (k : ℕ) → (block_at (only_kind kind bs) k).created < (block_at (only_kind kind bs) k).destroyed → block_at (only_kind kind bs) k ≡ block_at bs k
      one k lives =
          only_at kind bs k
          ∙ own_same kind (block_at bs k) (own-lives kind (block_at bs k) (own_life kind (block_at bs k)).created (rw (only_at kind bs k) at lives))

  pub renumbered_only : renumbered (only_kind kind bs) tree ≡ renumbered bs tree
  renumbered_only = rw same_numbers refl

  pub file_only : file_of kind e (only_kind kind bs) tree ≡ file_of kind e bs tree
  unfolding contents
  file_only =
      file_some kind e (only_kind kind bs) tree w.rooted
      ∙ ap file_bytes (rw (written_only, same_numbers) refl)
      ∙ sym (file_some kind e bs tree w.rooted)

  pub numbers_only : numbered (length bs) tree ≡ true
  numbers_only = rw (only_length kind bs) at ((rule23_decides e (only_kind kind bs) tree).yes w.rule_23).numbers

  -- Given room, the loader takes what was written of the kind, wherever it stands.
  pub load_kind : (n : Lent) → 0 < length (written bs tree) → rule20 n (contents kind e (only_kind kind bs) tree) ≡ true → (before behind : List ℕ)
      → load n (before ++ (file_of kind e bs tree ++ behind)) (length before)
      ≡ got (reloaded kind e bs tree) (length before + length (file_of kind e bs tree))
  load_kind n any room before behind =
      rw (file_only, written_only, renumbered_only) at (load-written kind e (only_kind kind bs) tree w n (rw same_numbers any) room before behind)

-- ── and answers alike ──

module _ (n : Lent) (l : Ledger) (trees : List Tree) (closed : l.trees ≡ some trees) (kind : ℕ) (low : kind ≤ 4)
    (w : Writable kind l.opening.end (only_kind kind l.now.blocks) (tree_at trees kind)) where
  tree_in_lem : tree_in l kind ≡ tree_at trees kind
  tree_in_lem = rw closed refl

  tree_saved : tree_in (saved_ledger n l kind) kind ≡ renumbered l.now.blocks (tree_at trees kind)
  tree_saved = holes_but_own kind _ kind low ∙ rw (eq-eqb kind kind refl, closed) refl

  -- find lists the same blocks, under their new numbers, and visits as many nodes
  pub saved_find : (t start stop : ℕ)
      → find_by (saved_ledger n l kind) kind t start stop
      ≡ record { numbers = map (new_number l.now.blocks (tree_at trees kind)) (find_by l kind t start stop).numbers; visited = (find_by l kind t start stop).visited }
  unfolding find_by
  saved_find t s m =
      rw (
        tree_saved,
        tree_in_lem,
        written-find l.opening.end l.now.blocks (tree_at trees kind) (numbers_only kind l.opening.end l.now.blocks (tree_at trees kind) w) t s m,
        written-visited l.opening.end l.now.blocks (tree_at trees kind) t,
      )
      refl

  -- a cell shows what it showed
  pub saved_seen : SoundBoard l → (t c : ℕ) → c < 2 ^ 64 → seen t (cell_place kind c) (saved_ledger n l kind).now.blocks ≡ seen t (cell_place kind c) l.now.blocks
  saved_seen board t c below =
      rw tree_in_lem
      (ap (seen t (cell_place kind c)) (sym (written_only kind l.opening.end l.now.blocks (tree_at trees kind) w))
      ∙ written-seen kind l.opening.end (only_kind kind l.now.blocks) (tree_at trees kind) w t (cell_place kind c)
      ∙ only_seen l.opening.kinds l.opening.end l.now.store kind board.blocks t c below)

  -- so read cells gives the same
  pub saved_cells : SoundBoard l → (t start stop : ℕ) → stop ≤ 2 ^ 64 → cells_by (saved_ledger n l kind) kind t start stop ≡ cells_by l kind t start stop
  unfolding cells_by
  saved_cells board t s m most =
      ap₂ (λ (x y : List ℕ). record { bytes = x; held = y })
      (map_all _ _ (all_map (λ c p. ap (λ (xs : List ℕ). get_or xs 0 0) (saved_seen board t c (omega arith))) (count_from_below s (m - s))))
      (map_all _ _ (all_map (λ c p. ap (λ (xs : List ℕ). min 1 (length xs)) (saved_seen board t c (omega arith))) (count_from_below s (m - s))))

-- ── the file as a whole ──

flat_append : (f : ℕ → List ℕ) (xs ys : List ℕ) → flat_map f (xs ++ ys) ≡ flat_map f xs ++ flat_map f ys
unfolding flat_map
flat_append f [] ys = refl
flat_append f (x ∷ xs) ys = ap (λ (r : List ℕ). f x ++ r) (flat_append f xs ys) ∙ sym (append_assoc (f x) (flat_map f xs) (flat_map f ys))

-- a kind's part stands between those of the lower and of the higher kinds
pub part_split : (l : Ledger) (kind : ℕ) → kind ≤ 4
    → file_by l ≡ flat_map (file_part l) (count_from 0 kind) ++ (file_part l kind ++ flat_map (file_part l) (count_from (suc kind) (4 - kind)))
unfolding count_from flat_map
part_split l kind low =
    ap (λ (m : ℕ). flat_map (file_part l) (count_from 0 m)) (let five : 5 ≡ kind + suc (4 - kind) = omega arith in five)
    ∙ ap (flat_map (file_part l)) (count_from_append 0 kind (suc (4 - kind)) ∙ ap (λ (m : ℕ). count_from 0 kind ++ count_from m (suc (4 - kind))) (let zero-kind : 0 + kind ≡ kind = omega arith in zero-kind))
    ∙ flat_append (file_part l) (count_from 0 kind) (count_from kind (suc (4 - kind)))

-- the parts follow one another
pub part_next : (l : Ledger) (kind : ℕ) → part_at l (suc kind) ≡ part_at l kind + length (file_part l kind)
unfolding count_from flat_map
part_next l kind =
    let last : count_from 0 (suc kind) ≡ count_from 0 kind ++ (kind ∷ []) = last_of kind in
    ap (λ (ks : List ℕ). length (flat_map (file_part l) ks)) last
    ∙ ap length (flat_append (file_part l) (count_from 0 kind) (kind ∷ []))
    ∙ length-append (flat_map (file_part l) (count_from 0 kind)) (file_part l kind ++ [])
    ∙ ap (λ (xs : List ℕ). part_at l kind + length xs) (append-nil (file_part l kind))
  where
    last_of : (k : ℕ) → count_from 0 (suc k) ≡ count_from 0 k ++ (k ∷ [])
    last_of k =
        ap (count_from 0) (let one : suc k ≡ k + 1 = omega arith in one)
        ∙ count_from_append 0 k 1
        ∙ ap (λ (m : ℕ). count_from 0 k ++ (m ∷ [])) (let zero-k : 0 + k ≡ k = omega arith in zero-k)

-- a loaded index writes its one tree
pub loaded_file : (n : Lent) (x : Loaded) → x.kind ≤ 4 → file_by (loaded_ledger n x) ≡ file_of x.kind x.end x.blocks x.tree
unfolding flat_map file_of
loaded_file n x low =
    part_split (loaded_ledger n x) x.kind low
    ∙ rw (
      nothing (all_map (λ k p. absent k (omega arith) (λ e. omega arith)) (count_from_below 0 x.kind)),
      nothing (all_map (λ k p. absent k (omega arith) (λ e. omega arith)) (count_from_below (suc x.kind) (4 - x.kind))),
      own,
    )
    (append-nil (file_of x.kind x.end x.blocks x.tree))
  where
    nothing : {ks : List ℕ} → All (λ k. file_part (loaded_ledger n x) k ≡ []) ks → flat_map (file_part (loaded_ledger n x)) ks ≡ []
    nothing all_nil = refl
    nothing (all_cons p ps) = rw (p, nothing ps) refl

    absent : (k : ℕ) → k ≤ 4 → (x.kind ≡ k → ⊥) → file_part (loaded_ledger n x) k ≡ []
    absent k small other =
        let none : tree_at (trees_with x.kind x.tree) k ≡ hole = holes_but_own x.kind x.tree k small ∙ rw (ne_eqb x.kind k other) refl in
        ap (file_of k x.end x.blocks) none

    own : file_part (loaded_ledger n x) x.kind ≡ file_of x.kind x.end x.blocks x.tree
    own =
        let there : tree_at (trees_with x.kind x.tree) x.kind ≡ x.tree = holes_but_own x.kind x.tree x.kind low ∙ rw (eq-eqb x.kind x.kind refl) refl in
        ap (file_of x.kind x.end x.blocks) there
