-- All blocks: the trees decide rule 24, and so does the whole test. Assumes nothing.
use mathlib.Core.Path.{◌≡◌, refl, sym, ap, ◌∙◌}
use mathlib.Core.Logic.{inl, inr, ⊎_elim}
use mathlib.Core.Bool.{Bool, true, false, cond}
use mathlib.Core.List.{List}
use Prim.Native.Nat.{ℕ, zero, suc, ◌+◌, ◌≤◌, ◌<◌, max}
use native.Mathlib.Omega.{arith}
use lib.ListN.{length, get_or}
use lib.Dec.{leb, ltb, eqb}
use borrow.Author.Tests.{leb-true, ltb-true, eq-eqb}
use Rattle.std.specs.Bool.{MatchBool}
use Rattle.std.specs.List.{AllWithin, HoldsAt as OneAt, range_with_len}
use Rattle.std.proofs.lemmas.List.FromFn.{length-range_with_len, get_or-range_with_len}
use Rattle.lists.specs.Tests.{Decides}
use Rattle.lists.specs.Lists.{All, Mem, count}
use Rattle.lists.proofs.Numbers.{confirm, refute, lt_or_le, eq_or_ne, and_left, and_right}
use Rattle.lists.proofs.Lists.{all_map, all_mem, all_of_at}
use Rattle.lists.proofs.Counting.{mem_count, count_mem}
use Rattle.history.specs.Words.{Block, line_of, live, only_kind}
use Rattle.history.specs.Tree.{Tree, tree_at, no_block, block_at, key_in}
use Rattle.history.specs.Find.{path}
use Rattle.history.proofs.Within.{within_in}
use Rattle.history.proofs.RulesLaws.{Rule23, rule23_decides, numbered_decides}
use Rattle.history.proofs.FindMet.{path-met}
use Rattle.history.proofs.TreePath.{live-none}
use Rattle.history.proofs.ByKind.{line_next}
use Rattle.tables.specs.Columns.{nodes_count}
use Rattle.block_table.specs.Blocks.{owner_at}
use Rattle.ordering.specs.Apart.{HoldsAt, Clash, Unshared}
use Rattle.segment_table.specs.Closed.{Tables, first_cell_in}
use Rattle.segment_test.specs.Test.{lent, created_in, destroyed_in, owner_in, BlockRows, ClosedTrees}
use Rattle.segment_test.specs.Parts.{own_created, own_destroyed, OwnRows}
use Rattle.segment_test.proofs.Owning.{own-rows}
use Rattle.segment_walk.specs.Walking.{Rooted}
use Rattle.segment_walk.proofs.Agreeing.{sorted_agree}
use Rattle.segment_clear.specs.Clear.{end_in, Reached, Clears}
use Rattle.segment_test.specs.Parts.{Heads, Frame, AllRows, TreeTables}
use Rattle.segment_test.proofs.Testing.{tree_frame, tree_rest}
use Rattle.segment_handed.specs.Handed.{SoundRows, KindUnshared, Seen}
use Rattle.segment_handed.proofs.Halves.{lives-own}
use Rattle.segment_apart.specs.Birth.{BirthClear}
use Rattle.segment_apart.specs.Apart.{AllBounded, ClosedApart}
use Rattle.segment_apart.proofs.Creation.{Alive, Born, born_apart}

-- the first k blocks are clear of those live when they are created
pub record Passed (t nodes entries : List ℕ) (end k : ℕ) : Type 0 where
  pub each : (j : ℕ) → j < k → BirthClear t nodes entries end j true

-- ── the blocks of a kind ──

module _ (t : Tables) (e n : ℕ) (bs : List Block) (rows : BlockRows t.blocks n bs) (index : ClosedTrees t e bs)
    (bounded : AllBounded t.blocks e n) (kind : ℕ) (low : kind < nodes_count) where
  abbrev first : ℕ → ℕ
  first = first_cell_in t.blocks

  abbrev end : ℕ → ℕ
  end = end_in t.blocks

  -- blocks of other kinds have no life
  abbrev born : ℕ → ℕ
  born = own_created t.blocks kind

  abbrev dies : ℕ → ℕ
  dies = own_destroyed t.blocks kind

  abbrev tree : Tree
  tree = tree_at index.trees kind

  abbrev own : List Block
  own = only_kind kind bs

  said : OwnRows t.blocks kind n own
  said = own-rows t.blocks kind n bs rows

  -- the lives of a block of the kind
  own_born : (k : ℕ) → owner_in t.blocks k ≡ kind → born k ≡ created_in t.blocks k
  own_born k is = rw (eq-eqb (owner_in t.blocks k) kind is)

  own_dies : (k : ℕ) → owner_in t.blocks k ≡ kind → dies k ≡ destroyed_in t.blocks k
  own_dies k is = rw (eq-eqb (owner_in t.blocks k) kind is)

  by_end_at : (k : ℕ) → k < n → dies k ≤ e
  by_end_at k h = go (eqb (owner_in t.blocks k) kind)
    where
      go : (u : Bool) → cond u (destroyed_in t.blocks k) 0 ≤ e
      go true = (bounded.rows (suc k) (omega arith) (omega arith)).by_end
      go false = omega arith

  rule : Rule23 e own tree
  rule = (rule23_decides e own tree).yes (index.each kind low).rule_23

  by_end : All (λ (b : Block). b.destroyed ≤ e) own
  by_end = all_of_at no_block own (λ i h. let below : i < n = omega (arith, said.many) in omega (arith, said.destroyed i below, by_end_at i below))

  rooted : 0 < e → Rooted t.blocks t.nodes t.entries kind e tree
  rooted some = record {
    stood = index.closed.stands kind low;
    ascend = sorted_agree (key_in own) first tree
        (all_map (λ j h. said.first j (omega (arith, said.many))) ((numbered_decides (length own) tree).yes rule.numbers)) rule.order;
    wide = λ _. some;
  }

  -- those on the way down to a tick are those live then
  meets : (tick k : ℕ) → tick < e → count k (path tick 0 e tree) ≡ cond (live tick (block_at own k)) 1 0
  meets tick k h = path-met e own tree (index.each kind low).rule_21 (index.each kind low).rule_23 by_end tick k h

  alive_listed : (tick k : ℕ) → tick < e → Alive first end born dies n tick k → Mem k (path tick 0 e tree)
  alive_listed tick k h a =
      let is : live tick (block_at own k) ≡ true =
      within_in (block_at own k).created (block_at own k).destroyed tick (omega (arith, said.created k a.known, a.from)) (omega (arith, said.destroyed k a.known, a.to)) in
      count_mem k (path tick 0 e tree) (let one : count k (path tick 0 e tree) ≡ 1 = meets tick k h ∙ rw is in omega arith)

  listed_alive : (tick k : ℕ) → tick < e → Mem k (path tick 0 e tree) → Alive first end born dies n tick k
  listed_alive tick k h m = go (live tick (block_at own k)) refl (meets tick k h)
    where
      known : live tick (block_at own k) ≡ true → k < n
      known is =
          ⊎_elim (λ (a : k < n). a)
          (λ (a : n ≤ k). let no : ◌≡◌ {A = ℕ} (cond true 1 0) (cond false 1 0) = ap (λ (b : Bool). cond b 1 0) (sym is ∙ live-none tick k own (omega (arith, said.many))) in absurd (omega arith))
          (lt_or_le k n)

      go : (b : Bool) → live tick (block_at own k) ≡ b → count k (path tick 0 e tree) ≡ cond b 1 0 → Alive first end born dies n tick k
      go false is none = absurd (omega (arith, mem_count m))
      go true is one =
          let b = block_at own k in
          record {
            known = known is;
            from = omega (arith, said.created k (known is), leb-true b.created tick (and_left (leb b.created tick) (ltb tick b.destroyed) is));
            to = omega (arith, said.destroyed k (known is), ltb-true tick b.destroyed (and_right (leb b.created tick) (ltb tick b.destroyed) is));
          }

  -- what is alive is of the kind
  alive_own : (tick k : ℕ) → Alive first end born dies n tick k → owner_in t.blocks k ≡ kind
  alive_own tick k a = (lives-own t.blocks kind k (omega (arith, a.to))).0

  -- what is said of a block of the kind with a life
  clears : (k : ℕ) → k < n → owner_in t.blocks k ≡ kind → born k < dies k → {r : Bool} → BirthClear t.blocks t.nodes t.entries e k r
      → Clears t.blocks (path (born k) 0 e tree) k r
  clears k h is l b =
      let row = bounded.rows (suc k) (omega arith) (omega arith) in
      rw (own_born k is)
      (b.lived tree (omega (arith, own_born k is, own_dies k is)) row.no_wrap (rw is (rooted (omega (arith, by_end_at k h)))))

  -- ── no ──

  shared : (k : ℕ) → k < n → owner_in t.blocks k ≡ kind → BirthClear t.blocks t.nodes t.entries e k false → Unshared t.blocks n → ⊥
  shared k h is b u =
      ⊎_elim (λ (l : born k < dies k). clash l ((clears k h is l b).reached refl))
      (λ (l : dies k ≤ born k).
      let no : ◌≡◌ {A = ℕ} (cond false 1 0) (cond true 1 0) = ap (λ (x : Bool). cond x 1 0) (b.unlived (omega (arith, own_born k is, own_dies k is))) in omega arith)
      (lt_or_le (born k) (dies k))
    where
      clash : born k < dies k → Reached t.blocks (path (born k) 0 e tree) k → ⊥
      clash l p =
          let row = bounded.rows (suc k) (omega arith) (omega arith) in
          let a = listed_alive (born k) p.by (omega (arith, by_end_at k h)) p.listed in
          let below : p.by < n = a.known in
          let same : owner_in t.blocks p.by ≡ kind = alive_own (born k) p.by a in
          let full : first p.by < end p.by = omega (arith, (bounded.rows (suc p.by) (omega arith) (omega arith)).some_cell) in
          let line = ap line_of is in
          let other_line = ap line_of same in
          u.apart (suc p.by) (suc k) (omega arith) (omega arith) (omega arith) (omega arith) (λ q. p.other (omega arith))
          (record {
            cell = line_of kind + max (first p.by) (first k);
            tick = born k;
            one = record { from = omega arith; below = omega (arith, p.ends); born = omega (arith, a.from, own_born p.by same); alive = omega (arith, a.to, own_dies p.by same) };
            other = record { from = omega arith; below = omega (arith, p.starts, row.some_cell); born = omega (arith, own_born k is); alive = omega (arith, own_dies k is) };
          })

  -- ── yes ──

  all_born : Passed t.blocks t.nodes t.entries e n → Born first end born dies n
  all_born pass = record {
    filled = λ k h. omega (arith, (bounded.rows (suc k) (omega arith) (omega arith)).some_cell);
    parted = λ tick k j now lk lj ne h.
        let below : tick < e = omega (arith, by_end_at k lk.known, lk.to) in
        let is = alive_own tick k lk in
        let c : Clears t.blocks (path tick 0 e tree) k true = rw now at (clears k lk.known is (omega (arith, lk.to)) (pass.each k lk.known)) in
        let p = all_mem (c.clear refl) (alive_listed tick j below lj) ne h in
        record { by = p.by; live = listed_alive tick p.by below p.listed; from = p.from; ends = p.ends };
  }

  kind_unshared : Passed t.blocks t.nodes t.entries e n → KindUnshared t.blocks kind n
  kind_unshared pass = record { apart = pair }
    where
      alive : (k tick p : ℕ) → k < n → owner_in t.blocks k ≡ kind → HoldsAt t.blocks tick p (suc k) → Alive first end born dies n tick k
      alive k tick p h is x = record { known = h; from = omega (arith, own_born k is, x.born); to = omega (arith, own_dies k is, x.alive) }

      pair : (j k : ℕ) → 0 < j → j ≤ n → 0 < k → k ≤ n → (j ≡ k → ⊥) → owner_at t.blocks j ≡ kind → owner_at t.blocks k ≡ kind → Clash t.blocks j k → ⊥
      pair zero k a b c d ne x y clash = omega arith
      pair (suc j) zero a b c d ne x y clash = omega arith
      pair (suc j) (suc k) a b c d ne x y clash =
          let line = ap line_of x in
          let other_line = ap line_of y in
          born_apart first end born dies n (all_born pass) clash.tick j k
          (alive j clash.tick clash.cell (omega arith) x clash.one) (alive k clash.tick clash.cell (omega arith) y clash.other) (λ q. ne (ap suc q))
          (record { one = omega (arith, clash.one.from, clash.other.below); other = omega (arith, clash.other.from, clash.one.below) })

-- ── all kinds ──

module _ (t : Tables) (e n : ℕ) (bs : List Block) (rows : BlockRows t.blocks n bs) (bounded : AllBounded t.blocks e n) where
  -- blocks of two kinds share no cell: where those of each kind share none, none do
  all_unshared : ((kind : ℕ) → kind < nodes_count → KindUnshared t.blocks kind n) → Unshared t.blocks n
  all_unshared each = record { apart = pair }
    where
      -- a place of a block is one of its kind
      apart_lines : (j k : ℕ) → j < n → k < n → owner_in t.blocks j < owner_in t.blocks k → (tick p : ℕ) → HoldsAt t.blocks tick p (suc j) → HoldsAt t.blocks tick p (suc k) → ⊥
      apart_lines j k a b h tick p x y =
          omega (arith, line_next (owner_in t.blocks j) (owner_in t.blocks k) h, (bounded.rows (suc j) (omega arith) (omega arith)).no_wrap, x.below, y.from)

      pair : (j k : ℕ) → 0 < j → j ≤ n → 0 < k → k ≤ n → (j ≡ k → ⊥) → Clash t.blocks j k → ⊥
      pair zero k a b c d ne clash = omega arith
      pair (suc j) zero a b c d ne clash = omega arith
      pair (suc j) (suc k) a b c d ne clash =
          elim (eq_or_ne (owner_in t.blocks k) (owner_in t.blocks j)) [
            | inl q ↦ (each (owner_in t.blocks j) (rows.known j (omega arith))).apart (suc j) (suc k) a b c d ne refl q clash
            | inr q ↦ elim (lt_or_le (owner_in t.blocks j) (owner_in t.blocks k)) [
              | inl h ↦ apart_lines j k (omega arith) (omega arith) h clash.tick clash.cell clash.one clash.other
              | inr h ↦ apart_lines k j (omega arith) (omega arith) (omega arith) clash.tick clash.cell clash.other clash.one
            ]
          ]

-- ── what `all_clear` says ──

range_at : (n k : ℕ) → k < n → get_or (range_with_len 0 n) k 0 ≡ k
range_at n k h = omega (arith, get_or-range_with_len 0 n k 0 h)

-- of block k r is said
abbrev pub Told : (blocks nodes entries : List ℕ) (end : ℕ) → Bool → ℕ → Type 0
Told blocks nodes entries end r k = BirthClear blocks nodes entries end k r

pub clear_told : {blocks nodes entries : List ℕ} {e n : ℕ} {r : Bool}
    → MatchBool r (AllWithin (Told blocks nodes entries e true) (range_with_len 0 n) 0 (length (range_with_len 0 n)))
    ((k : ℕ) × (k < length (range_with_len 0 n)) × OneAt (Told blocks nodes entries e false) (range_with_len 0 n) k)
    → ClosedApart (lent blocks nodes entries) e n r
clear_told {blocks} {nodes} {entries} {e} {n} {r = true} all = record {
  decides = λ bs rows index bounded.
      confirm (all_unshared (lent blocks nodes entries) e n bs rows bounded (λ kind low. kind_unshared (lent blocks nodes entries) e n bs rows index bounded kind low
      (record { each = λ k h. rw (range_at n k h) at (all k 0 (omega arith) (omega (arith, length-range_with_len 0 n))) })));
}
clear_told {blocks} {nodes} {entries} {e} {n} {r = false} (k, h, one) = record {
  decides = λ bs rows index bounded.
      let low : k < n = omega (arith, length-range_with_len 0 n) in
      refute (shared (lent blocks nodes entries) e n bs rows index bounded (owner_in blocks k) (rows.known k low) k low refl (rw (range_at n k low) at (one 0)));
}

-- ── the returns of `test` ──

module _ {blocks nodes entries : List ℕ} {e n : ℕ} where
  -- nothing is claimed of other tables
  pub apart_wrong : ((bs : List Block) → BlockRows blocks n bs → Decides false (ClosedTrees (lent blocks nodes entries) e bs)) → ClosedApart (lent blocks nodes entries) e n false
  apart_wrong d = record { decides = λ bs rows index bounded. absurd ((d bs rows).not refl index) }

  -- what is handed on
  pub apart_handed : {r : Bool} → Seen (lent blocks nodes entries) n e r → r ≡ true → ClosedApart (lent blocks nodes entries) e n true
  apart_handed seen y = record {
    decides = λ bs rows index bounded.
        confirm (all_unshared (lent blocks nodes entries) e n bs rows bounded (λ kind low. (seen.handed y kind low).shown n bs rows index low (sound bounded)));
  }
    where
      sound : AllBounded blocks e n → SoundRows blocks e n
      sound bounded = record {
        filled = record { filled = λ link p q. (bounded.rows link p q).some_cell; no_wrap = λ link p q. omega (arith, (bounded.rows link p q).no_wrap) };
        fits = record { each = λ k h. (bounded.rows (suc k) (omega arith) (omega arith)).no_wrap };
        by_end = λ k h. (bounded.rows (suc k) (omega arith) (omega arith)).by_end;
      }

  module _ {a b : Bool} (heads : Decides a (Heads (lent blocks nodes entries) n)) (y : a ≡ true) (frame : Decides b (Frame (lent blocks nodes entries) n)) where
    pub trees_unframed : b ≡ false → Decides false (TreeTables (lent blocks nodes entries) n e)
    trees_unframed z = let said : Decides b (TreeTables (lent blocks nodes entries) n e) = tree_frame frame z in rw z at said

    module _ (z : b ≡ true) where
      pub trees_seen : {r : Bool} → Seen (lent blocks nodes entries) n e r → r ≡ true → Decides true (TreeTables (lent blocks nodes entries) n e)
      trees_seen seen q = tree_rest heads y frame z (confirm (seen.rows q))

      pub trees_told : {r u : Bool} → Decides r (AllRows (lent blocks nodes entries) n e) → r ≡ u → Decides u (TreeTables (lent blocks nodes entries) n e)
      trees_told rows q = tree_rest heads y frame z (rw q at rows)
