-- A closed index: its trees, a kind that has blocks, what it writes, and that it can be written. Assumes nothing.
use mathlib.Core.Path.{◌≡◌, refl, ap, ap₂, ◌∙◌}
use mathlib.Core.Bool.{true, false, false≢true}
use mathlib.Core.Option.{Option, none, some}
use mathlib.Core.List.{List, ◌++◌, flatten, append_assoc}
use Prim.Native.Nat.{ℕ, ◌+◌, ◌≤◌, ◌<◌}
use native.Mathlib.Omega.{arith}
use lib.ListN.{length, take, drop}
use lib.Seq.{sets, sets-eq, take-append_seam, drop-append_seam}
use Rattle.lists.proofs.Lists.{all_at}
use Rattle.history.specs.Words.{Block, only_kind}
use Rattle.history.specs.Lent.{too_short}
use Rattle.history.specs.Tree.{Tree, no_block}
use Rattle.history.specs.Ledger.{Ledger, opens_kind, is_some}
use Rattle.history.specs.Reads.{trees_or_none, tree_in}
use Rattle.history.specs.Refusals.{Answer, accepted, refused}
use Rattle.history.specs.Sound.{none_of, SoundClosed}
use Rattle.history.specs.File.{file_bytes, file_of, contents, nodes_of, bytes_of, file_by}
use Rattle.history.specs.Rules.{is_hole}
use Rattle.history.proofs.ByKind.{kind_known, some-owned}
use Rattle.history.proofs.FindSound.{closed_trees}
use Rattle.history.proofs.FileKept.{Writable}
use Rattle.history.proofs.FileSound.{sound_writable, written_only, renumbered_only}
use Rattle.history.proofs.FileLoad.{file_some}
use Rattle.layout.specs.Tables.{Tables}
use Rattle.layout.specs.Files.{WrittenBy}
use Rattle.layout.proofs.ReadLaws.{heads-held, write_fits, write_16, into_gives, into_refuses}
use Rattle.spacetime_file.specs.Law.{Slices, ClosedIn}

-- ── its trees ──

some_trees : (x : Option (List Tree)) → is_some x ≡ true → x ≡ some (trees_or_none x)
some_trees none e = absurd (false≢true e)
some_trees (some trees) e = refl

module _ {t : Tables} {l : Ledger} (c : ClosedIn t l) where
  pub trees_are : l.trees ≡ some (trees_or_none l.trees)
  trees_are = some_trees l.trees c.closed

  pub trees_sound : SoundClosed l (trees_or_none l.trees)
  trees_sound = closed_trees l l.trees c.closed c.sound.closed

  -- the lent tables hold their heads
  pub heads_there : too_short l.opening.lent ≡ false
  heads_there = heads-held c.encodes

  -- ── what write answers ──

  module _ {out out' : List ℕ} {wrote : Answer ℕ} (w : WrittenBy t out out' wrote) where
    -- the file, in a slice that holds it
    pub file_written : length (file_by l) ≤ length out → (wrote ≡ accepted (length (file_by l))) × (out' ≡ sets out 0 (file_by l))
    file_written h = into_gives (w.read.formed l c.encodes c.sound) (write_fits c.encodes c.closed (length out) h)

    -- else 16
    pub file_refused : length out < length (file_by l) → (wrote ≡ refused 16) × (out' ≡ out)
    file_refused h = into_refuses (w.read.formed l c.encodes c.sound) (write_16 c.encodes c.closed (length out) h)

-- ── a kind that has blocks ──

-- it was opened, and it can be written
pub record KindIn (t : Tables) (l : Ledger) (kind : ℕ) : Type 0 where
  pub closed : ClosedIn t l
  pub known : kind ≤ 4
  pub opens : opens_kind l kind ≡ true
  pub can : Writable kind l.opening.end (only_kind kind l.now.blocks) (tree_in l kind)

pub kind_in : {t : Tables} {l : Ledger} → Slices t → ClosedIn t l → (kind : ℕ) → none_of kind l.now.blocks ≡ false → KindIn t l kind
kind_in {t} {l} slices c kind some_block =
    let one = some-owned kind l.now.blocks some_block in
    let opens : opens_kind l kind ≡ true = rw one.2 at (all_at no_block c.sound.board.blocks one.0 one.1).own_kind in
    let known = kind_known l.opening.kinds kind c.sound.board.known_kinds opens in
    record {
      closed = c;
      known = known;
      opens = opens;
      can =
          sound_writable l (trees_or_none l.trees) c.sound.board (trees_sound c) kind known some_block (rw c.encodes.lengths slices.blocks)
          (rw c.encodes.lengths slices.entries);
    }

-- what is said of the kind's blocks is said of all
pub contents_only : (kind e : ℕ) (bs : List Block) (tree : Tree) → Writable kind e (only_kind kind bs) tree → contents kind e (only_kind kind bs) tree ≡ contents kind e bs tree
unfolding contents
contents_only kind e bs tree w =
    ap₂ (λ (blocks : List Block) (own : Tree). record { kind = kind; blocks = blocks; nodes = nodes_of 0 e own }) (written_only kind e bs tree w) (renumbered_only kind e bs tree w)

-- ── bytes ──

-- what was set from the front on
pub take-sets : (xs out : List ℕ) → length xs ≤ length out → take (length xs) (sets out 0 xs) ≡ xs
take-sets xs out h = ap (take (length xs)) (sets-eq xs out 0 (omega arith)) ∙ take-append_seam xs (drop (0 + length xs) out)

-- and a part of it, at its place
pub take_part : (before part behind out : List ℕ) → length (before ++ (part ++ behind)) ≤ length out
    → take (length part) (drop (length before) (sets out 0 (before ++ (part ++ behind)))) ≡ part
take_part before part behind out h =
    let all = before ++ (part ++ behind) in
    let rest = drop (0 + length all) out in
    ap (λ (x : List ℕ). take (length part) (drop (length before) x)) (sets-eq all out 0 (omega arith) ∙ append_assoc before (part ++ behind) rest)
    ∙ ap (take (length part)) (drop-append_seam before ((part ++ behind) ++ rest) ∙ append_assoc part behind rest)
    ∙ take-append_seam part (behind ++ rest)

-- with a node the file has bytes
pub file_bytes_lem : (kind e : ℕ) (bs : List Block) (tree : Tree) → is_hole tree ≡ false → 0 < length (file_of kind e bs tree)
unfolding file_bytes flatten bytes_of
file_bytes_lem kind e bs tree root = rw (file_some kind e bs tree root) (omega arith)
