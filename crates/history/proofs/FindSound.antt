-- Find over any sound closed index, finished or loaded: rules 21 to 23 of the kind's tree are enough. One proof for every kind: to its tree the
-- blocks of another kind have no life. Assumes nothing.
use mathlib.Core.Path.{◌≡◌, sym, ◌∙◌, ap, refl, subst}
use mathlib.Core.Bool.{Bool, true, false, cond, ◌&&◌, false≢true}
use mathlib.Core.Option.{Option, none, some}
use mathlib.Core.List.{List, [], ◌∷◌, map, map-map, flatten}
use Prim.Native.Nat.{ℕ, zero, suc, ◌≤◌}
use native.Mathlib.Omega.{arith}
use lib.ListN.{length, get_or}
use lib.Dec.{eqb}
use borrow.Author.Tests.{eqb-true}
use Rattle.lists.specs.Lists.{All, all_nil, count, sum_of}
use Rattle.lists.proofs.Numbers.{and_left}
use Rattle.lists.proofs.Lists.{all_map, all_both, all_of_map, all_any, all_of_mem, all_left, all_right}
use Rattle.lists.proofs.Maps.{length_of_map, map_all}
use Rattle.history.specs.Words.{Block, within, live, live_of, of_kind, first_cell, own_life, only_kind}
use Rattle.history.specs.Tree.{Tree, no_block, block_at, key_in}
use Rattle.history.specs.Find.{window, find, way_to, covers_at}
use Rattle.history.specs.Ledger.{Ledger, is_some}
use Rattle.history.specs.Reads.{trees_or_none, tree_in, find_by}
use Rattle.history.specs.Sound.{SoundClosed, SoundTree, SoundTrees}
use Rattle.history.specs.Law.{starts, LawOfFind}
use Rattle.history.proofs.Within.{within_high}
use Rattle.history.proofs.Counted.{counted_holds}
use Rattle.history.proofs.ByKind.{kind_known, own_same, own-live, own_kind, own_stretch, own-ends, only_at, only_length, only_key}
use Rattle.history.proofs.TreePath.{visited_bound}
use Rattle.history.proofs.FindLaws.{find-count, find_numbers, find-length}
use Rattle.history.proofs.FindOrder.{nodes_to, visited_nodes, found_at, find_nodes, find-covered, find-not-above, find_ascending}

-- the trees of a finished ledger are sound
pub closed_trees : (l : Ledger) (t : Option (List Tree)) → is_some t ≡ true → SoundTrees l t → SoundClosed l (trees_or_none t)
closed_trees l none e s = absurd (false≢true e)
closed_trees l (some trees) e s = s

-- for the kind's tree a block starts in the window if it is of the kind, live and starts there
own-starts : (kind t s n : ℕ) (b : Block) → (live t (own_life kind b) && within s n (first_cell (own_life kind b))) ≡ starts kind t s n b
own-starts kind t s n b = rw (own-live kind t b, own_stretch kind b, own_kind kind b) refl

starts_kind : (kind t s n : ℕ) (b : Block) → starts kind t s n b ≡ true → b.kind ≡ kind
starts_kind kind t s n b h = eqb-true b.kind kind (and_left (of_kind kind b) (live t b) (and_left (live_of kind t b) (within s n (first_cell b)) h))

starts_none : (kind t s n : ℕ) → starts kind t s n no_block ≡ false
starts_none kind t s n = go (eqb 0 kind)
  where
    go : (u : Bool) → ((u && within 0 0 t) && within s n (first_cell no_block)) ≡ false
    go true = rw (within_high 0 0 t (omega arith))
    go false = refl

only_ends : (e kind : ℕ) (bs : List Block) → All (λ (b : Block). b.destroyed ≤ e) bs → All (λ (b : Block). b.destroyed ≤ e) (only_kind kind bs)
unfolding only_kind
only_ends e kind bs h = all_of_map (own_life kind) (all_map (λ b p. omega (arith, own-ends kind b)) h)

-- find reads keys alone, which stay
find_only : (e kind : ℕ) (bs : List Block) (tree : Tree) (t s n : ℕ) → find e (only_kind kind bs) tree t s n ≡ find e bs tree t s n
unfolding find
find_only e kind bs tree t s n = rw (only_key kind bs)

sum_only : (kind t s n : ℕ) (bs : List Block)
    → sum_of (map (λ b. cond (live t b && within s n (first_cell b)) 1 0) (only_kind kind bs)) ≡ sum_of (map (λ b. cond (starts kind t s n b) 1 0) bs)
unfolding only_kind
sum_only kind t s n bs =
    ap sum_of (map-map (λ b. cond (live t b && within s n (first_cell b)) 1 0) (own_life kind) bs
    ∙ map_all (λ b. cond (live t (own_life kind b) && within s n (first_cell (own_life kind b))) 1 0) (λ b. cond (starts kind t s n b) 1 0)
    (all_any bs (λ b. ap (λ (u : Bool). cond u 1 0) (own-starts kind t s n b))))

-- a list of lists, and one of them
all_within : {P : ℕ → Type 0} (xss : List (List ℕ)) → All P (flatten xss) → (depth : ℕ) → All P (get_or xss depth [])
unfolding flatten
all_within [] h depth = all_nil
all_within (xs ∷ xss) h zero = all_left xs (flatten xss) h
all_within (xs ∷ xss) h (suc depth) = all_within xss (all_right xs (flatten xss) h) depth

-- what is said of the blocks listed, as the kind sees them, is said of the blocks
own_lists : (kind e : ℕ) (bs : List Block) (tree : Tree) (t s n : ℕ) → All (λ k. (block_at bs k).kind ≡ kind) (find e bs tree t s n) → (P : Block → Type 0) (depth : ℕ)
    → All (λ k. P (block_at (only_kind kind bs) k)) (get_or (found_at e bs tree t s n) depth []) → All (λ k. P (block_at bs k)) (get_or (found_at e bs tree t s n) depth [])
own_lists kind e bs tree t s n mine P depth h =
    all_both (λ k own p. subst P (only_at kind bs k ∙ own_same kind (block_at bs k) own) p)
    (all_within (found_at e bs tree t s n) (subst (All (λ k. (block_at bs k).kind ≡ kind)) (find_nodes e bs tree t s n) mine) depth) h

pub find_sound : LawOfFind
unfolding find_by
find_sound l sound done kind opened t s n h =
    let e = l.opening.end in
    let bs = l.now.blocks in
    let own = only_kind kind bs in
    let tree = tree_in l kind in
    let b = sound.board in
    let ends = only_ends e kind bs (all_map (λ x g. g.by_end) b.blocks) in
    let c : SoundTree e bs kind tree = (closed_trees l l.trees done sound.closed).each kind (kind_known l.opening.kinds kind b.known_kinds opened) in
    let same = find_only e kind bs tree t s n in
    let once : (k : ℕ) → count k (find e bs tree t s n) ≡ cond (starts kind t s n (block_at bs k)) 1 0 =
    λ k. ap (count k) (sym same) ∙ find-count e own tree c.rule_21 c.rule_23 ends t h s n k ∙ rw (only_at kind bs k, own-starts kind t s n (block_at bs k)) in
    let mine : All (λ k. (block_at bs k).kind ≡ kind) (find e bs tree t s n) =
    all_of_mem (find e bs tree t s n) (λ k m. starts_kind kind t s n (block_at bs k) (counted_holds bs (starts kind t s n) (starts_none kind t s n) (find e bs tree t s n) once k m)) in
    record {
      once = once;
      numbers = rw (same, only_length kind bs) at (find_numbers e own tree c.rule_21 c.rule_23 ends t h s n);
      how_many = ap length (sym same) ∙ find-length e own tree c.rule_21 c.rule_23 ends t h s n ∙ sum_only kind t s n bs;
      by_node = found_at e bs tree t s n;
      joined = find_nodes e bs tree t s n;
      as_many = visited_nodes t 0 e tree ∙ sym (length_of_map (window (key_in bs) s n) (nodes_to t 0 e tree));
      at_most = visited_bound t e tree b.end_most;
      covered = λ depth. own_lists kind e bs tree t s n mine (λ b. covers_at (way_to t 0 e depth) b ≡ true) depth (rw (only_key kind bs) at (find-covered e own tree t s n c.rule_23 depth));
      not-above = λ depth. own_lists kind e bs tree t s n mine (λ b. covers_at (way_to t 0 e depth) b ≡ false) (suc depth) (rw (only_key kind bs) at (find-not-above e own tree t s n c.rule_23 depth));
      ascending = rw (only_key kind bs) at (find_ascending e own tree t s n c.rule_23);
    }
