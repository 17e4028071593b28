-- Steps of `close::write_blocks`: what the blocks still to come give from here on, all give from the start. Assumes nothing.
use mathlib.Core.Path.{◌≡◌, refl, sym, ◌∙◌}
use mathlib.Core.Logic.{◌⊎◌, inl, inr}
use mathlib.Core.Bool.{Bool, true, false, cond, ◌&&◌}
use mathlib.Core.List.{List, ◌∷◌}
use Prim.Native.Nat.{ℕ, zero, suc, ◌+◌, ◌-◌, ◌^◌, ◌≤◌, ◌<◌}
use native.Mathlib.Omega.{arith}
use lib.ListN.{length, set, length-set}
use lib.Dec.{ltb}
use Rattle.lists.specs.Lists.{All, all_nil, all_cons, count_from}
use Rattle.lists.proofs.Numbers.{bool_cases, eq_or_ne}
use Rattle.lists.proofs.Lists.{all_map}
use Rattle.history.specs.Tree.{Tree, hole, node, mid, halves, covers, insert, add_location, tree_at}
use Rattle.history.proofs.TreeInserting.{insert-length}
use Rattle.history.proofs.TreeAdding.{add_here, add_last, add_below}
use Rattle.tables.specs.Columns.{column, block_column, block_first, nodes_count}
use Rattle.segment_table.specs.Closed.{left_at, right_at, first_cell_in}
use Rattle.segment_tree.specs.Count.{spot, Outside, other_kind}
use Rattle.segment_tree.specs.Lives.{Owned, block_life}
use Rattle.segment_tree.specs.Fill.{Fillable, FillAt, Roomy, FindsNodes, Filled, Written, AllFilling, AllRoomy, row_life, append_block, append_each, Placeable, AllFilled, WrittenAll}
use Rattle.segment_tree.proofs.ByKind.{tree_same, tree_other}
use Rattle.segment_tree.proofs.Presence.{none_new, new_none-count, new_keep}
use Rattle.segment_tree.proofs.Writing.{fill_kept, beyond_all, like_self, like_trans, fillable_like}

-- ── a tree with room for more has room ──

roomy_cond : (s : List ℕ) (link : ℕ) (u : Bool) (X Y : Tree) → (Roomy s link X → Roomy s link Y) → Roomy s link (cond u X Y) → Roomy s link Y
roomy_cond s link true X Y f h = f h
roomy_cond s link false X Y f h = h

roomy_add : (s : List ℕ) (b c d n link lo hi : ℕ) (T : Tree) → Roomy s link (add_location (λ _. 0) n b c d lo hi T) → Roomy s link T
unfolding Roomy
roomy_add s b c d n link lo hi hole h = tt
roomy_add s b c d zero link lo hi (node xs l r) h =
    elim (bool_cases (covers c d lo hi)) [
      | inl e ↦ (let z : Roomy s link (node (insert (λ _. 0) b xs) l r) = rw (add_here (λ _. 0) b c d lo hi (node xs l r) 0 e) at h in
          (omega (arith, insert-length (λ _. 0) b xs, z.0), z.1, z.2))
      | inr e ↦ rw (add_last (λ _. 0) b c d lo hi (node xs l r) e) at h
    ]
roomy_add s b c d (suc n) link lo hi (node xs l r) h =
    elim (bool_cases (covers c d lo hi)) [
      | inl e ↦ (let z : Roomy s link (node (insert (λ _. 0) b xs) l r) = rw (add_here (λ _. 0) b c d lo hi (node xs l r) (suc n) e) at h in
          (omega (arith, insert-length (λ _. 0) b xs, z.0), z.1, z.2))
      | inr e ↦ (let z = rw (add_below (λ _. 0) b c d lo hi (node xs l r) n e) at h in (
        z.0,
        roomy_cond s (left_at s link) (halves lo hi && ltb c (mid lo hi)) _ l (roomy_add s b c d n (left_at s link) lo (mid lo hi) l) z.1,
        roomy_cond s (right_at s link) (halves lo hi && ltb (mid lo hi) d) _ r (roomy_add s b c d n (right_at s link) (mid lo hi) hi r) z.2,
      ))
    ]

-- so has each of the trees
roomy_set : (s : List ℕ) (trees : List Tree) (k b c d n lo hi : ℕ) → k < length trees
    → AllRoomy s (set trees k (add_location (λ _. 0) n b c d lo hi (tree_at trees k))) → AllRoomy s trees
roomy_set s trees k b c d n lo hi h r = record { each = λ kind low. go kind (eq_or_ne kind k) (r.each kind low) }
  where
    X : Tree
    X = add_location (λ _. 0) n b c d lo hi (tree_at trees k)

    go : (kind : ℕ) → (kind ≡ k) ⊎ (kind ≡ k → ⊥) → Roomy s (column s 0 kind) (tree_at (set trees k X) kind) → Roomy s (column s 0 kind) (tree_at trees kind)
    go kind (inl q) g = rw q (roomy_add s b c d n (column s 0 k) lo hi (tree_at trees k) (rw (tree_same trees k k X refl h) at (rw q at g)))
    go kind (inr n) g = rw (tree_other trees k kind X n) at g

roomy_each : (blocks s : List ℕ) (e : ℕ) {ks : List ℕ} (trees : List Tree) → length trees ≡ nodes_count → All (λ k. (row_life blocks k).kind < nodes_count) ks
    → AllRoomy s (append_each blocks e ks trees) → AllRoomy s trees
unfolding append_each
roomy_each blocks s e trees five all_nil h = h
roomy_each blocks s e trees five (all_cons {x = k} low lows) h =
    let o : Owned = row_life blocks k in
    roomy_set s trees o.kind k o.life.created o.life.destroyed 63 0 e (omega (arith, low))
    (roomy_each blocks s e (append_block blocks e k trees) (length-set trees o.kind _ ∙ five) lows h)

-- ── one block ──

module _ (blocks s t es t₁ es₁ : List ℕ) (e kind : ℕ) (trees : List Tree) (T : Tree) (f : AllFilling blocks s t es e trees) (low : kind < nodes_count)
    (g : Filled blocks s t es t₁ es₁ kind (column s 0 kind) 0 e (tree_at trees kind) T) where
  -- the tree of its kind takes it, and those of the others keep what they list
  all_filled : AllFilling blocks s t₁ es₁ e (set trees kind T)
  all_filled = record { five = length-set trees kind T ∙ f.five; each = λ k h. go k h (eq_or_ne k kind) }
    where
      go : (k : ℕ) → k < nodes_count → (k ≡ kind) ⊎ (k ≡ kind → ⊥) → FillAt blocks s t₁ es₁ k (column s 0 k) 0 e (tree_at (set trees kind T) k)
      go k h (inl q) = rw (tree_same trees kind k T (sym q) (omega (arith, f.five)), q) g.here
      go k h (inr n) =
          rw (tree_other trees kind k T n)
          (fill_kept blocks s t es t₁ es₁ k (Outside s (spot kind 0 0 0 e)) g.rest (column s 0 k) 0 e (tree_at trees k)
          (λ i own a b c. other_kind (λ q. n (sym own ∙ q))) (f.each k h))

module _ {blocks t es : List ℕ} {e first : ℕ} where
  written_none : WrittenAll blocks t es t es e first 0
  unfolding append_each count_from
  written_none = record {
    like = like_self t;
    nodes_long = refl;
    entries_long = refl;
    done = λ s trees w f g there room. record { here = g; beyond = beyond_all s t es };
  }

  module _ {t₁ es₁ t₂ es₂ : List ℕ} {cell root less : ℕ} {row : Owned} (is : row ≡ block_life blocks (suc first)) (rooted : root ≡ column t 0 row.kind)
      (cells : cell ≡ first_cell_in blocks first) (a : Written t es t₁ es₁ root 0 e row.life first cell) (b : WrittenAll blocks t₁ es₁ t₂ es₂ e (suc first) less) where
    abbrev this : Owned
    this = row_life blocks first

    wrote : Written t es t₁ es₁ (column t 0 this.kind) 0 e this.life first (first_cell_in blocks first)
    wrote = rw (rooted, is, cells) at a

    written_more : WrittenAll blocks t es t₂ es₂ e first (suc less)
    unfolding append_each count_from
    written_more = record {
      like = like_trans t t₁ t₂ a.like b.like;
      nodes_long = b.nodes_long ∙ a.nodes_long;
      entries_long = b.entries_long ∙ a.entries_long;
      done = λ s trees w f g there room. go s trees w f g there room;
    }
      where
        -- what one block found is there for it after another
        still : (x : ℕ) (trees : List Tree) → length trees ≡ nodes_count → this.kind < nodes_count → Placeable blocks e trees x → Placeable blocks e (append_block blocks e first trees) x
        still x trees five low p = record { known = p.known; finds = kept (eq_or_ne o.kind this.kind) }
          where
            o : Owned
            o = row_life blocks x

            X : Tree
            X = add_location (λ _. 0) 63 first this.life.created this.life.destroyed 0 e (tree_at trees this.kind)

            kept : (o.kind ≡ this.kind) ⊎ (o.kind ≡ this.kind → ⊥) → FindsNodes 63 x o.life 0 e (tree_at (append_block blocks e first trees) o.kind)
            kept (inl q) =
                rw (tree_same trees this.kind o.kind X (sym q) (omega (arith, p.known)))
                (new_none-count x 63 o.life.created o.life.destroyed 0 e _
                (new_keep (λ _. 0) first 63 o.life.created o.life.destroyed this.life.created this.life.destroyed 0 e (tree_at trees this.kind)
                (none_new x 63 o.life.created o.life.destroyed 0 e (tree_at trees this.kind) (rw q at p.finds))))
            kept (inr n) = rw (tree_other trees this.kind o.kind X n) p.finds

        go : (s : List ℕ) (trees : List Tree) → e ≤ 2 ^ 63 → Fillable s t es → AllFilling blocks s t es e trees
            → All (Placeable blocks e trees) (first ∷ count_from (suc first) less)
            → AllRoomy s (append_each blocks e (count_from (suc first) less) (append_block blocks e first trees))
            → AllFilled blocks s t es t₂ es₂ e (append_each blocks e (count_from (suc first) less) (append_block blocks e first trees))
        go s trees w f g (all_cons h hs) room =
            let kind : ℕ = this.kind in
            let T : Tree = tree_at trees kind in
            let X : Tree = add_location (λ _. 0) 63 first this.life.created this.life.destroyed 0 e T in
            let five₁ : length (append_block blocks e first trees) ≡ nodes_count = length-set trees kind X ∙ g.five in
            let others : All (Placeable blocks e (append_block blocks e first trees)) (count_from (suc first) less) = all_map (λ x y. still x trees g.five h.known y) hs in
            let roomy : AllRoomy s (append_block blocks e first trees) = roomy_each blocks s e (append_block blocks e first trees) five₁ (all_map (λ x y. y.known) hs) room in
            let own : Roomy s (column s 0 kind) X = rw (tree_same trees kind kind X refl (omega (arith, g.five, h.known))) at (roomy.each kind h.known) in
            let root_same : column t 0 kind ≡ column s 0 kind = f.like.same 0 kind (omega (arith, h.known)) (inl refl) in
            let one : Filled blocks s t es t₁ es₁ kind (column s 0 kind) 0 e T X =
            (rw root_same at wrote).done blocks s kind 63 T (omega arith) f refl (g.each kind h.known) h.finds own in
            let f₁ : Fillable s t₁ es₁ = fillable_like s t es t₁ es₁ f a.like a.nodes_long a.entries_long in
            let rest : AllFilled blocks s t₁ es₁ t₂ es₂ e _ =
            b.done s (append_block blocks e first trees) w f₁ (all_filled blocks s t es t₁ es₁ e kind trees X g h.known one) others room in
            record {
              here = rest.here;
              beyond = record {
                next = λ k q. rest.beyond.next k q ∙ one.beyond.next k q;
                outside = λ i q. rest.beyond.outside i q ∙ one.beyond.outside i q;
              };
            }

-- ── the loop ──

-- j of n blocks are written: what the rest gives from here, all give from the start
pub record OnwardFrom (blocks start first-entries t es : List ℕ) (e n j : ℕ) : Type 0 where
  pub rest : (t' es' : List ℕ) → WrittenAll blocks t es t' es' e j (n - j) → WrittenAll blocks start first-entries t' es' e 0 n

module _ {blocks start entries : List ℕ} {e n : ℕ} where
  module _ {t es : List ℕ} {j : ℕ} (o : OnwardFrom blocks start entries t es e n j) where
    pub onward_spent : n ≤ j → WrittenAll blocks start entries t es e 0 n
    onward_spent h = o.rest t es (let z : n - j ≡ 0 = omega arith in rw z written_none)

    pub onward_more : {t₁ es₁ : List ℕ} {cell root : ℕ} {row : Owned} → j < n → row ≡ block_life blocks (j + 1) → cell ≡ block_column blocks (j + 1) block_first
        → root ≡ column t 0 row.kind → Written t es t₁ es₁ root 0 e row.life j cell → OnwardFrom blocks start entries t₁ es₁ e n (j + 1)
    onward_more h is cells rooted a = record {
      rest = λ t' es' b.
          let i : j + 1 ≡ suc j = omega arith in
          let left : n - j ≡ suc (n - suc j) = omega arith in
          o.rest t' es' (rw left (written_more (rw i at is) rooted (rw i at cells) a (rw i at b)));
    }

pub ruleset onward = (onward_spent, onward_more)
