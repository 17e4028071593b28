-- The tables of an index and of what is loaded of its file answer alike: blocks, find and read cells; touching, next and last stand in Touched. Assumes nothing.
use mathlib.Core.Path.{◌≡◌, refl, sym, ap, ◌∙◌, subst}
use mathlib.Core.Logic.{⊎_elim}
use mathlib.Core.List.{List, map}
use Prim.Native.Nat.{ℕ, ◌^◌, ◌≤◌, ◌<◌}
use native.Mathlib.Omega.{arith}
use lib.Dec.{ltb}
use lib.ListN.{length, get_or, take}
use borrow.Author.Tests.{ltb-false}
use Rattle.lists.proofs.Lists.{pairs_at}
use Rattle.lists.proofs.Numbers.{le_or_lt, lt_or_le}
use Rattle.lists.proofs.Maps.{length_of_map}
use Rattle.history.specs.Words.{Block}
use Rattle.history.specs.Tree.{block_at}
use Rattle.history.specs.Ledger.{Ledger}
use Rattle.history.specs.Reads.{trees_or_none, tree_in, block_by, Found, find_by, Cells}
use Rattle.history.specs.Refusals.{Answer, accepted, refused, window_refusals, find_answer, cells_answer, block_answer}
use Rattle.history.specs.Sound.{Sound}
use Rattle.history.specs.File.{written, saved_ledger}
use Rattle.history.proofs.FilePlaces.{place_in-inside, place_in_found}
use Rattle.history.proofs.FileKept.{written_block}
use Rattle.history.proofs.FileSound.{saved_find, saved_cells}
use Rattle.layout.specs.Tables.{Tables, lengths_of}
use Rattle.layout.specs.Encodes.{Encodes}
use Rattle.layout.proofs.Unique.{unique}
use Rattle.layout.specs.Reads.{values_of, filled_by, HandedInto}
use Rattle.layout.specs.Relations.{Counts, counts_of, FoundBy, Fields, block_in, BlockGivenBy}
use Rattle.layout.proofs.ReadLaws.{clock_there, block_there, block_15}
use Rattle.cells_read.specs.Answers.{CellsHanded}
use Rattle.cells.specs.Answers.{CellsReadBy}
use Rattle.spacetime_file.specs.Law.{Lives, number_in, AnswersAlike}
use Rattle.spacetime_file.proofs.Closed.{KindIn, trees_are}
use Rattle.spacetime_file.proofs.Numbering.{first_map, accepted_refused, first_accepted, list_alike, lives-written, ascending, kept_lives, same_window}
use Rattle.spacetime_file.proofs.Touched.{touches_alike, next_alike, last_alike}

module _ {t u : Tables} {l : Ledger} {kind : ℕ} (c : KindIn t l kind) (e : Encodes u (saved_ledger (lengths_of u) l kind)) (s : Sound (saved_ledger (lengths_of u) l kind)) where
  abbrev saved : Ledger
  saved = saved_ledger (lengths_of u) l kind

  abbrev kept : List ℕ
  kept = written l.now.blocks (tree_in l kind)

  -- ── find and read cells ──

  renumber : Found → Found
  renumber f = record { numbers = map (number_in l kind) f.numbers; visited = f.visited }

  same_find : (tick start stop room : ℕ) → find_answer saved kind tick start stop room ≡ values_of renumber (find_answer l kind tick start stop room)
  unfolding renumber
  same_find tick start stop room =
      let found = find_by l kind tick start stop in
      rw (
        saved_find (lengths_of u) l (trees_or_none l.trees) (trees_are c.closed) kind c.known c.can tick start stop,
        length_of_map (number_in l kind) found.numbers,
        same_window c e tick start stop (ltb room (length found.numbers)),
      )
      (first_map renumber (window_refusals l kind tick start stop (ltb room (length found.numbers))) found)

  same_cells : (tick start stop bytes held : ℕ) → stop < 2 ^ 64 → cells_answer saved kind tick start stop bytes held ≡ cells_answer l kind tick start stop bytes held
  same_cells tick start stop bytes held cells =
      rw (
        saved_cells (lengths_of u) l (trees_or_none l.trees) (trees_are c.closed) kind c.known c.can c.closed.sound.board tick start stop (omega arith),
        same_window c e tick start stop _,
      )
      refl

  same_counts : (f : Found) → counts_of (renumber f) ≡ counts_of f
  unfolding renumber
  same_counts f = rw (length_of_map (number_in l kind) f.numbers) refl

  -- an accepted find lists what the slice holds
  found_fits : (tick start stop room : ℕ) (f : Found) → find_answer l kind tick start stop room ≡ accepted f → length f.numbers ≤ room
  unfolding window_refusals
  found_fits tick start stop room f q =
      let found = find_by l kind tick start stop in
      let p = first_accepted (window_refusals l kind tick start stop (ltb room (length found.numbers))) found f q in
      rw p.1 (ltb-false room (length found.numbers) p.0.1.1.1.1.1.0)

  finds_alike : (tick start stop : ℕ) (out old new : List ℕ) (a b : Answer Counts) → FoundBy t kind tick start stop out old a → FoundBy u kind tick start stop out new b
      → (b ≡ a) × ((n : Counts) → a ≡ accepted n → take n.count new ≡ map (number_in l kind) (take n.count old))
  unfolding renumber
  finds_alike tick start stop out old new a b f g =
      list_alike counts_of (λ h. h.numbers) (λ n. n.count) (number_in l kind) renumber (λ h. refl) same_counts (λ h. refl) out old new a b
      (find_answer l kind tick start stop (length out)) (found_fits tick start stop (length out)) (f.read.formed l c.closed.encodes c.closed.sound)
      (subst (λ (x : Answer Found). HandedInto counts_of (λ h. h.numbers) out new b x) (same_find tick start stop (length out)) (g.read.formed saved e s))

  cells_alike : (tick start stop : ℕ) (bytes bytes₁ bytes₂ held held₁ held₂ : List ℕ) (a b : Answer Unit) → stop < 2 ^ 64
      → CellsReadBy t kind tick start stop bytes bytes₁ held held₁ a → CellsReadBy u kind tick start stop bytes bytes₂ held held₂ b
      → (b ≡ a) × (bytes₂ ≡ bytes₁) × (held₂ ≡ held₁)
  cells_alike tick start stop bytes bytes₁ bytes₂ held held₁ held₂ a b cells f g =
      let one = f.read.formed l c.closed.encodes c.closed.sound in
      let two = g.read.formed saved e s in
      let same = same_cells tick start stop (length bytes) (length held) cells in (
        two.answered ∙ ap (values_of (λ _. tt)) same ∙ sym one.answered,
        two.in_bytes ∙ ap (λ (x : Answer Cells). filled_by (λ c. c.bytes) x bytes) same ∙ sym one.in_bytes,
        two.in_held ∙ ap (λ (x : Answer Cells). filled_by (λ c. c.held) x held) same ∙ sym one.in_held,
      )

  -- what a read of the loaded index does, a read of the index that was written does
  pub cells_back : (tick start stop : ℕ) {bytes bytes' held held' : List ℕ} {a : Answer Unit} → stop < 2 ^ 64
      → CellsReadBy u kind tick start stop bytes bytes' held held' a → CellsReadBy t kind tick start stop bytes bytes' held held' a
  cells_back tick start stop {bytes} {bytes'} {held} {held'} {a} cells g = record {
    read = record {
      formed = λ m enc sound.
          subst (λ (x : Ledger). CellsHanded bytes bytes' held held' a (cells_answer x kind tick start stop (length bytes) (length held))) (unique t l m c.closed.encodes enc)
          (subst (λ (x : Answer Cells). CellsHanded bytes bytes' held held' a x) (same_cells tick start stop (length bytes) (length held) cells) (g.read.formed saved e s));
      unformed = λ n. absurd (n (record { ledger = l; encodes = c.closed.encodes; sound = c.closed.sound }));
    };
  }

  -- ── blocks ──

  kept_many : length saved.now.blocks ≡ length kept
  kept_many = length_of_map (block_at l.now.blocks) kept

  saved_there : (j : ℕ) → j < length kept → block_answer saved j ≡ accepted (block_by saved j)
  saved_there j h = block_there e refl j (rw kept_many h)

  saved_past : (j : ℕ) → length kept ≤ j → block_answer saved j ≡ refused 15
  saved_past j h = block_15 e refl j (rw kept_many h)

  blocks_alike : (k : ℕ) → Lives l kind k → (old new : Answer Fields) → BlockGivenBy t k old → BlockGivenBy u (number_in l kind k) new
      → values_of (block_in u.store) new ≡ values_of (block_in t.store) old
  blocks_alike k h old new f g =
      let has-place = lives-written c k h in
      (g.read.formed saved e s).bytes_there
      ∙ saved_there (number_in l kind k) (place_in-inside kept k has-place)
      ∙ ap {B = Answer Block} accepted (written_block l.now.blocks (tree_in l kind) k has-place)
      ∙ sym (block_there c.closed.encodes c.closed.closed k h.number)
      ∙ sym (f.read.formed l c.closed.encodes c.closed.sound).bytes_there

  none_else : (j : ℕ) (f : Fields) → BlockGivenBy u j (accepted f) → (k : ℕ) × Lives l kind k × (number_in l kind k ≡ j)
  none_else j f g =
      ⊎_elim (λ h. absurd (accepted_refused ((g.read.formed saved e s).bytes_there ∙ saved_past j h))) (λ h. kept_lives c j h) (le_or_lt (length kept) j)

  order_kept : (j k : ℕ) → Lives l kind j → Lives l kind k → j < k → number_in l kind j < number_in l kind k
  order_kept j k a b less =
      ⊎_elim (λ h. h)
      (λ h.
      let j-is = place_in_found kept j (lives-written c j a) in
      let k-is = place_in_found kept k (lives-written c k b) in
      absurd (⊎_elim
      (λ same. let z : k ≡ j = sym k-is ∙ ap (λ (i : ℕ). get_or kept i 0) (omega arith) ∙ j-is in omega arith)
      (λ below. let z = pairs_at 0 (ascending c) (number_in l kind k) (number_in l kind j) below (place_in-inside kept j (lives-written c j a)) in omega arith)
      (le_or_lt (number_in l kind j) (number_in l kind k))))
      (lt_or_le (number_in l kind j) (number_in l kind k))

  pub alike : AnswersAlike l kind t u
  alike = record {
    blocks = blocks_alike;
    no_others = none_else;
    in_order = order_kept;
    finds = finds_alike;
    cells = cells_alike;
    touches = touches_alike c e s;
    next = next_alike c e s;
    last = last_alike c e s;
    clock = λ cell b g. (g.read.formed saved e s).answered ∙ ap (values_of (λ label. label)) (clock_there e cell);
  }
