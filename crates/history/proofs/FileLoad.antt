-- Loading: what it answers, rule by rule; what is true of an index that it gives; a file that was written is read back, and a loaded index writes
-- the bytes read. Assumes nothing.
use mathlib.Core.Path.{◌≡◌, refl, sym, ◌∙◌, ap}
use mathlib.Core.Logic.{⊎_elim}
use mathlib.Core.Bool.{Bool, true, false, true≢false, false≢true}
use mathlib.Core.List.{List, [], ◌++◌}
use Prim.Native.Nat.{ℕ, ◌≤◌, ◌+◌, ◌-◌}
use native.Mathlib.Omega.{arith}
use lib.ListN.{length, take, drop}
use Rattle.lists.proofs.Numbers.{le_or_lt}
use Rattle.history.specs.Words.{Block}
use Rattle.history.specs.Tree.{Tree, hole, node}
use Rattle.history.specs.File.{file_of, contents, file_bytes, got, ◌>>=◌, onward, give, refuse◌unless◌, read_file, tree_from, rule20, rule21, rule22, load, end_of, Read, fault, Loaded, File, loaded_from}
use Rattle.history.specs.Rules.{is_hole, rule23, apart}
use Rattle.history.specs.Lent.{Lent}
use Rattle.history.proofs.FileNumbers.{Bytes}
use Rattle.history.proofs.FileReads.{number_cut}
use Rattle.history.proofs.FileYields.{spans_taken, got_value, got_next, fault_got, Yielded}
use Rattle.history.proofs.FileRoundTrip.{reads_file, gives_file, FileFits}
use Rattle.history.proofs.FileRules.{rule21_decides, rule22_decides, Rule21, Rule22}
use Rattle.history.proofs.FileIntervals.{nodes_of-tree_from, tree_from_rooted}
use Rattle.history.proofs.FileContents.{rules_enter, contents_same, contents-fits, Entered, IndexFits}

-- ── written and read ──

-- with a node it writes what it says ..
pub file_some : (kind e : ℕ) (bs : List Block) (tree : Tree) → is_hole tree ≡ false → file_of kind e bs tree ≡ file_bytes (contents kind e bs tree)
unfolding file_of
file_some kind e bs hole h = absurd (true≢false h)
file_some kind e bs (node es l r) h = refl

-- .. and without one nothing
pub file_none : (kind e : ℕ) (bs : List Block) (tree : Tree) → is_hole tree ≡ true → file_of kind e bs tree ≡ []
unfolding file_of
file_none kind e bs hole h = refl
file_none kind e bs (node es l r) h = absurd (false≢true h)

-- A file that was written is read back, wherever it stands: the blocks with an entry, and the nodes with their intervals and new numbers.
pub read_written : (kind e : ℕ) (bs : List Block) (tree : Tree) → is_hole tree ≡ false → IndexFits kind e bs tree → (before behind : List ℕ)
    → read_file (before ++ (file_of kind e bs tree ++ behind)) (length before) ≡ got (contents kind e bs tree) (length before + length (file_of kind e bs tree))
read_written kind e bs tree some h before behind =
    rw (file_some kind e bs tree some)
    ((reads_file (contents kind e bs tree) (contents-fits kind e bs tree h)).gives _ _
    (record { before = before; behind = behind; place = refl; whole = refl }))

-- ── what loading answers, rule by rule ──

-- rules 20 to 24 hold of what the file says
pub record Accepted (n : Lent) (f : File) : Type 0 where
  pub room : rule20 n f ≡ true
  pub halves : rule21 f.nodes ≡ true
  pub blocks : rule22 (end_of f.nodes) f.blocks ≡ true
  pub entries : rule23 (end_of f.nodes) f.blocks (tree_from f.nodes) ≡ true
  pub disjoint : apart f.blocks ≡ true

module _ (n : Lent) (file : List ℕ) (at : ℕ) where
  -- 17, 18, 19: whichever comes first in the file
  pub load_fault : (i : ℕ) → read_file file at ≡ fault i → load n file at ≡ fault i
  unfolding load ◌>>=◌ onward
  load_fault i e = rw e refl

  module _ (f : File) (next : ℕ) (read : read_file file at ≡ got f next) where
    -- 20
    pub load_room : rule20 n f ≡ false → load n file at ≡ fault 20
    unfolding load ◌>>=◌ onward refuse◌unless◌
    load_room a = rw (read, a) refl

    -- 21
    pub load-halves : rule20 n f ≡ true → rule21 f.nodes ≡ false → load n file at ≡ fault 21
    unfolding load ◌>>=◌ onward refuse◌unless◌
    load-halves a b = rw (read, a, b) refl

    -- 22
    pub load_blocks : rule20 n f ≡ true → rule21 f.nodes ≡ true → rule22 (end_of f.nodes) f.blocks ≡ false → load n file at ≡ fault 22
    unfolding load ◌>>=◌ onward refuse◌unless◌
    load_blocks a b c = rw (read, a, b, c) refl

    -- 23
    pub load_entries : rule20 n f ≡ true → rule21 f.nodes ≡ true → rule22 (end_of f.nodes) f.blocks ≡ true
        → rule23 (end_of f.nodes) f.blocks (tree_from f.nodes) ≡ false → load n file at ≡ fault 23
    unfolding load ◌>>=◌ onward refuse◌unless◌
    load_entries a b c d = rw (read, a, b, c, d) refl

    -- 24
    pub load_disjoint : rule20 n f ≡ true → rule21 f.nodes ≡ true → rule22 (end_of f.nodes) f.blocks ≡ true
        → rule23 (end_of f.nodes) f.blocks (tree_from f.nodes) ≡ true → apart f.blocks ≡ false → load n file at ≡ fault 24
    unfolding load ◌>>=◌ onward refuse◌unless◌
    load_disjoint a b c d e = rw (read, a, b, c, d, e) refl

    -- else it is taken
    pub load-taken : Accepted n f → load n file at ≡ got (loaded_from f) next
    unfolding load ◌>>=◌ onward refuse◌unless◌ give
    load-taken h = rw (read, h.room, h.halves, h.blocks, h.entries, h.disjoint) refl

-- ── what is true of a loaded index ──

-- what the file says, and that the rules hold of it
pub record LoadedOf (n : Lent) (file : List ℕ) (at : ℕ) (x : Loaded) (next : ℕ) : Type 0 where
  pub said : File
  pub read : read_file file at ≡ got said next
  pub same : x ≡ loaded_from said
  pub rules : Accepted n said

onward_got : {A B : Type 0} (o : Read A) (k : A → ℕ → Read B) {y : B} {n : ℕ} {G : Type 0} → onward o k ≡ got y n
    → ((x : A) (m : ℕ) → o ≡ got x m → k x m ≡ got y n → G) → G
unfolding onward
onward_got (got x m) k e f = f x m refl e
onward_got (fault i) k e f = absurd (fault_got e)

refuse_got : {A : Type 0} (i : ℕ) (t : Bool) (file : List ℕ) (at : ℕ) (k : Unit {0} → ℕ → Read A) {y : A} {n : ℕ} {G : Type 0}
    → onward ((refuse i unless t) file at) k ≡ got y n → (t ≡ true → k tt at ≡ got y n → G) → G
unfolding refuse◌unless◌ onward
refuse_got i true file at k e f = f refl e
refuse_got i false file at k e f = absurd (fault_got e)

-- an index that was loaded passed every rule
pub load_accepted : (n : Lent) (file : List ℕ) (at : ℕ) (x : Loaded) (next : ℕ) → load n file at ≡ got x next → LoadedOf n file at x next
unfolding load ◌>>=◌ give
load_accepted n file at x next e =
    onward_got _ _ e λ f m read r₁.
    refuse_got 20 _ _ _ _ r₁ λ a r₂.
    refuse_got 21 _ _ _ _ r₂ λ b r₃.
    refuse_got 22 _ _ _ _ r₃ λ c r₄.
    refuse_got 23 _ _ _ _ r₄ λ d r₅.
    refuse_got 24 _ _ _ _ r₅ λ g r₆.
    record { said = f; read = read ∙ ap (got f) (got_next r₆); same = sym (got_value r₆); rules = record { room = a; halves = b; blocks = c; entries = d; disjoint = g } }

-- ── read and written ──

-- what was read began inside the file
pub read_inside : (file : List ℕ) (at : ℕ) (f : File) (next : ℕ) → read_file file at ≡ got f next → at ≤ length file
unfolding read_file ◌>>=◌ onward
read_inside file at f next e =
    ⊎_elim (λ h. h) (λ h. absurd (fault_got (rw (number_cut 1 file at (omega arith)) at e))) (le_or_lt at (length file))

-- What was read, written again, is the bytes read, if rule 21 holds and every block has an entry.
pub written_read : (file : List ℕ) → Bytes file → (at : ℕ) (f : File) (next : ℕ) → read_file file at ≡ got f next
    → Rule21 f.nodes → Entered f.blocks (tree_from f.nodes)
    → file_of f.kind (end_of f.nodes) f.blocks (tree_from f.nodes) ≡ take (next - at) (drop at file)
written_read file small at f next read halves entered =
    let e : ℕ = end_of f.nodes in
    let says : contents f.kind e f.blocks (tree_from f.nodes) ≡ f =
    contents_same f.kind e f.blocks (tree_from f.nodes) entered ∙ (rw (nodes_of-tree_from 0 e f.nodes halves.places) refl) in
    let y : Yielded file (λ g w. FileFits g × (w ≡ file_bytes g)) at f next = (gives_file file small).yields at f next (read_inside file at f next read) read in
    file_some f.kind e f.blocks (tree_from f.nodes) (tree_from_rooted f.nodes halves.some_tick) ∙ ap file_bytes says ∙ sym y.says.1 ∙ sym (spans_taken y.spans)

-- A loaded index is written with the bytes read.
pub loaded_written : (n : Lent) (file : List ℕ) → Bytes file → (at : ℕ) (x : Loaded) (next : ℕ) → load n file at ≡ got x next
    → file_of x.kind x.end x.blocks x.tree ≡ take (next - at) (drop at file)
loaded_written n file small at x next e =
    let z : LoadedOf n file at x next = load_accepted n file at x next e in
    let f : File = z.said in
    let halves : Rule21 f.nodes = (rule21_decides f.nodes).yes z.rules.halves in
    let blocks : Rule22 (end_of f.nodes) f.blocks = (rule22_decides (end_of f.nodes) f.blocks).yes z.rules.blocks in
    rw z.same (written_read file small at f next z.read halves (rules_enter f.nodes f.blocks halves blocks z.rules.entries))
