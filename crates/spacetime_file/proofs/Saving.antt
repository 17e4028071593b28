-- What write writes of a closed index is loaded again, and the tables answer alike. Assumes nothing.
use mathlib.Core.Path.{◌≡◌, refl, sym, ap, ◌∙◌, subst}
use mathlib.Core.Bool.{false}
use mathlib.Core.List.{List, ◌++◌, flat_map}
use Prim.Native.Nat.{ℕ, suc, ◌+◌, ◌-◌, ◌≤◌, ◌<◌, max}
use native.Mathlib.Omega.{arith}
use lib.ListN.{length, take, drop, replicate, length-take, length-drop, length-replicate, take-append-drop}
use lib.Seq.{sets, length-take-le}
use Rattle.lists.specs.Lists.{count_from}
use Rattle.history.specs.Lent.{Lent, piece_head}
use Rattle.history.specs.Ledger.{Ledger}
use Rattle.history.specs.Reads.{tree_in}
use Rattle.history.specs.Sound.{none_of, Sound}
use Rattle.history.specs.File.{Read, got, Loaded, load, loaded_ledger, saved_ledger, reloaded, written, file_part, file_by, part_at}
use Rattle.history.proofs.FilePlaces.{place_in-inside}
use Rattle.history.proofs.FileReads.{Stands}
use Rattle.history.proofs.FileSound.{loaded_sound, load_kind, part_split, part_next}
use Rattle.history.proofs.ByKind.{one-owned}
use Rattle.layout.specs.Tables.{Tables, tables, lengths_of}
use Rattle.layout.specs.Encodes.{Encodes}
use Rattle.layout.specs.Relations.{zeros}
use Rattle.layout.specs.Files.{LoadedTables, LoadLeaves, position_of, headed}
use Rattle.spacetime_file.specs.Law.{Slices, ClosedIn, Lives, RoomFor, Reloads, PartsFollow, AnswersAlike}
use Rattle.spacetime_file.proofs.Closed.{KindIn, kind_in, contents_only, file_written, take_part, file_bytes_lem}
use Rattle.spacetime_file.proofs.Numbering.{lives-written}
use Rattle.spacetime_file.proofs.Alike.{alike}

-- ── bytes at a position ──

pub stands_at : (file bytes : List ℕ) (at : ℕ) → 0 < length bytes → take (length bytes) (drop at file) ≡ bytes → Stands file at bytes
stands_at file bytes at some_byte e =
    let many = ap length e in
    let inside : at ≤ length file = omega (arith, length-take (length bytes) (drop at file), length-drop at file) in
    record {
      before = take at file;
      behind = drop (length bytes) (drop at file);
      place = length-take-le at file inside;
      whole =
          sym (take-append-drop at file)
          ∙ ap (λ (r : List ℕ). take at file ++ r) (sym (take-append-drop (length bytes) (drop at file)) ∙ ap (λ (r : List ℕ). r ++ drop (length bytes) (drop at file)) e);
    }

-- ── the tables of a loaded index ──

-- beside a piece table that holds its head
pub headed_same : (t t' : Tables) → t'.pieces ≡ zeros t.pieces → piece_head ≤ length t.pieces → headed t' ≡ t'
headed_same t t' e h =
    let many : length t'.pieces ≡ length t.pieces = ap length e ∙ length-replicate (length t.pieces) 0 in
    let most : max piece_head (length t'.pieces) ≡ length t.pieces = omega arith in
    ap (λ (p : List ℕ). tables p t'.blocks t'.store t'.nodes t'.entries) (ap (λ (n : ℕ). replicate n 0) most ∙ sym e)

-- what a loaded index stands for
pub loaded_encodes : {t t' : Tables} (x : Loaded) → piece_head ≤ length t.pieces → LoadedTables x t t' → Encodes t' (loaded_ledger (lengths_of t') x)
loaded_encodes {t} {t'} x h d = subst (λ (v : Tables). Encodes v (loaded_ledger (lengths_of v) x)) (headed_same t t' d.pieces h) d.stands

-- ── written and loaded ──

-- the parts follow one another
pub parts_follow : (l : Ledger) → PartsFollow l
unfolding count_from flat_map
parts_follow l = record { first = refl; next = part_next l; last = refl }

-- a kind of which a block has a life has blocks
pub lives-some : (l : Ledger) (kind k : ℕ) → Lives l kind k → none_of kind l.now.blocks ≡ false
lives-some l kind k lives = one-owned kind l.now.blocks k lives.number lives.same_kind

module _ {t : Tables} {l : Ledger} {kind : ℕ} (c : KindIn t l kind) (some-kept : 0 < length (written l.now.blocks (tree_in l kind))) where
  -- what loading the kind's part of the file of the ledger gives
  abbrev again : Loaded
  again = reloaded kind l.opening.end l.now.blocks (tree_in l kind)

  file_loaded : (u : Tables) → RoomFor l kind u → (file : List ℕ) (at : ℕ) → take (length (file_part l kind)) (drop at file) ≡ file_part l kind
      → load (lengths_of u) file at ≡ got again (at + length (file_part l kind))
  file_loaded u room file at e =
      let bs = l.now.blocks in
      let some_byte = file_bytes_lem kind l.opening.end bs (tree_in l kind) c.can.rooted in
      let s = stands_at file (file_part l kind) at some_byte e in
      let fits = rw (← (contents_only kind l.opening.end bs (tree_in l kind) c.can)) at room.room in
      let there = load_kind kind l.opening.end bs (tree_in l kind) c.can (lengths_of u) some-kept fits s.before s.behind in
      subst (λ (p : ℕ). load (lengths_of u) file p ≡ got again (p + length (file_part l kind))) s.place
      (subst (λ (f : List ℕ). load (lengths_of u) f (length s.before) ≡ got again (length s.before + length (file_part l kind))) (sym s.whole) there)

  -- the kind's part stands at its position in what was written
  part_there : (out : List ℕ) → length (file_by l) ≤ length out → take (length (file_part l kind)) (drop (part_at l kind) (sets out 0 (file_by l))) ≡ file_part l kind
  part_there out fits =
      let split = part_split l kind c.known in
      ap (λ (x : List ℕ). take (length (file_part l kind)) (drop (part_at l kind) (sets out 0 x))) split
      ∙ take_part (flat_map (file_part l) (count_from 0 kind)) (file_part l kind) (flat_map (file_part l) (count_from (suc kind) (4 - kind))) out (rw (← split) fits)

  -- so whatever follows of tables that stand for it is true of those that were loaded
  pub reloads : {Good : Tables → Type 0} → ((u : Tables) → Encodes u (saved_ledger (lengths_of u) l kind) → Sound (saved_ledger (lengths_of u) l kind) → Good u)
      → Reloads t l kind (RoomFor l kind) Good
  unfolding position_of
  reloads {Good} good out out' wrote Wrote-by fits file at small same u u' loaded room d =
      let w = file_written c.closed Wrote-by fits in
      let bytes : take (length (file_part l kind)) (drop at file) ≡ file_part l kind =
      same ∙ ap (λ (x : List ℕ). take (length (file_part l kind)) (drop (part_at l kind) x)) w.1 ∙ part_there out fits in
      let is = file_loaded u room file at bytes in
      let left : LoadedTables again u u' = subst (λ (x : Read Loaded). LoadLeaves x u u') is d.left in
      let sound : Sound (saved_ledger (lengths_of u') l kind) =
      subst (λ (n : Lent). Sound (loaded_ledger n again)) (sym left.lengths) (loaded_sound (lengths_of u) file small at again (at + length (file_part l kind)) is) in
      (w.0, d.answered ∙ ap position_of is, good u' (loaded_encodes again room.head left) sound)

-- a kind of which a block has a life has blocks to write
pub some_written : {t : Tables} {l : Ledger} {kind : ℕ} → KindIn t l kind → (k : ℕ) → Lives l kind k → 0 < length (written l.now.blocks (tree_in l kind))
some_written {l = l} {kind} c k lives = let p = place_in-inside (written l.now.blocks (tree_in l kind)) k (lives-written c k lives) in omega (arith, p)

pub reloads_alike : {t : Tables} {l : Ledger} → Slices t → ClosedIn t l → (kind k : ℕ) → Lives l kind k → Reloads t l kind (RoomFor l kind) (AnswersAlike l kind t)
reloads_alike {l = l} slices closed kind k lives =
    let c = kind_in slices closed kind (lives-some l kind k lives) in
    reloads c (some_written c k lives) (λ u stands sound. alike c stands sound)
