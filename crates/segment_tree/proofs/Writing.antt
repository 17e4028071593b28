-- Steps of `close::write_location`: an entry goes to the next free place of its node's run, and the rows and runs of all other nodes stay. A row's
-- kind and interval say whose it is, and runs share no place. Assumes nothing.
use mathlib.Core.Path.{◌≡◌, refl, ap, sym, ◌∙◌}
use mathlib.Core.Logic.{inl, inr}
use mathlib.Core.List.{List, [], ◌∷◌, ◌++◌}
use Prim.Native.Nat.{ℕ, zero, suc, ◌+◌, ◌-◌, ◌*◌, ◌≤◌, ◌<◌}
use native.Mathlib.Omega.{arith}
use lib.ListN.{length, set, length-set, length-append}
use lib.Seq.{get_or-set_same, get_or-set_other}
use Rattle.lists.proofs.Numbers.{eq_or_ne, le_or_lt, lt_or_le}
use Rattle.history.specs.Lent.{entry_width, entry_head}
use Rattle.history.specs.Tree.{Tree, hole, node, mid, insert}
use Rattle.tables.specs.Columns.{entry_column, node_first, entry_block, entry_key}
use Rattle.tables.specs.Sums.{plus_up_to}
use Rattle.segment_table.specs.Closed.{nodes_used, left_at, right_at, first_at, count_at, first_cell_in, block_in, run}
use Rattle.segment_table.proofs.Closed.{run-append}
use Rattle.segment_tree.specs.Count.{min_at, max_at, kind_at, entries_to, all_entries, CountRow, Spot, spot, Outside, starts_before, ends-after}
use Rattle.segment_tree.specs.Runs.{LikeButRuns}
use Rattle.segment_tree.specs.Fill.{start_at, Fillable, FillRow, FillAt, Untouched, Beyond, Filled, WroteEntry}
use Rattle.segment_tree.proofs.NodeRows.{column_same, column_other, row_inside, entries_more, entries_most}
use Rattle.segment_tree.proofs.Growing.{outside_part, not_outside}
use Rattle.segment_tree.proofs.Sorted.{insert_last}

-- ── runs ──

module _ (s : List ℕ) where
  -- a run ends where the next begins
  pub run_ends : (k : ℕ) → 0 < k → start_at s k + count_at s k ≡ entries_to s k
  run_ends k some = let e : k ≡ k - 1 + 1 = omega arith in sym (ap (entries_to s) e ∙ entries_more s (k - 1) ∙ rw (← e))

  runs_apart : (j k : ℕ) → 0 < j → j < k → start_at s j + count_at s j ≤ start_at s k
  runs_apart j k some h = omega (arith, run_ends j some, entries_most s j (k - 1) (omega arith))

  pub run_fits : (k : ℕ) → 0 < k → k ≤ nodes_used s → start_at s k + count_at s k ≤ all_entries s
  run_fits k some used = omega (arith, run_ends k some, entries_most s k (nodes_used s) used)

-- ── entry rows ──

module _ (es : List ℕ) (row c v : ℕ) (small : c < entry_width) where
  entry_same : entry_head + (entry_width * row + c) < length es → entry_column (set es (entry_head + (entry_width * row + c)) v) row c ≡ v
  entry_same h = get_or-set_same es (entry_head + (entry_width * row + c)) v 0 h

  entry_other : (row' c' : ℕ) → c' < entry_width → (row' ≡ row → c' ≡ c → ⊥) → entry_column (set es (entry_head + (entry_width * row + c)) v) row' c' ≡ entry_column es row' c'
  entry_other row' c' h apart = get_or-set_other es (entry_head + (entry_width * row + c)) (entry_head + (entry_width * row' + c')) v 0 (λ e. apart (omega arith) (omega arith))

pub run_same : (es es' : List ℕ) (row n : ℕ) → ((i : ℕ) → row ≤ i → i < row + n → block_in es' i ≡ block_in es i) → run es' row n ≡ run es row n
unfolding run
run_same es es' row zero h = refl
run_same es es' row (suc n) h =
    rw (h row (omega arith) (omega arith)) (ap (λ (l : List ℕ). block_in es row ∷ l) (run_same es es' (suc row) n (λ i a z. h i (omega arith) (omega arith))))

-- ── what stays ──

module _ (blocks s t es t' es' : List ℕ) (kind : ℕ) (out : ℕ → Type 0) (u : Untouched s t es t' es' out) where
  row_kept : (link lo hi : ℕ) (xs : List ℕ) → out link → FillRow blocks s t es kind link lo hi xs → FillRow blocks s t' es' kind link lo hi xs
  row_kept link lo hi xs o r =
      let same : (i c : ℕ) → start_at s link ≤ i → i < start_at s link + length xs → c < entry_width → entry_column es' i c ≡ entry_column es i c =
      λ i c a z h. u.runs link i c r.row.some r.row.used o a (omega (arith, r.fits)) h in
      record {
        row = r.row;
        fits = r.fits;
        next = u.next link r.row.some r.row.used o ∙ r.next;
        listed = run_same es es' (start_at s link) (length xs) (λ i a z. same i entry_block a z (omega arith)) ∙ r.listed;
        keyed = record {
          key = λ j h.
              same (start_at s link + j) entry_key (omega arith) (omega arith) (omega arith)
              ∙ r.keyed.key j h
              ∙ ap (first_cell_in blocks) (sym (same (start_at s link + j) entry_block (omega arith) (omega arith) (omega arith)));
        };
      }

  -- a tree all of whose rows stay is filled as it was
  pub fill_kept : (link lo hi : ℕ) (T : Tree) → ((k : ℕ) → kind_at s k ≡ kind → lo ≤ min_at s k → min_at s k < max_at s k → max_at s k ≤ hi → out k)
      → FillAt blocks s t es kind link lo hi T → FillAt blocks s t' es' kind link lo hi T
  unfolding FillAt
  fill_kept link lo hi hole inside g = g
  fill_kept link lo hi (node xs l r) inside g =
      let row : CountRow s kind link lo hi (count_at s link) = g.0.row in
      let wide : lo < hi = row.wide in
      let mine : out link = inside link row.own_kind (omega (arith, row.low)) (omega (arith, row.low, row.high)) (omega (arith, row.high)) in (
        row_kept link lo hi xs mine g.0,
        fill_kept (left_at s link) lo (mid lo hi) l (λ k z a b c. inside k z a b (omega arith)) g.1,
        fill_kept (right_at s link) (mid lo hi) hi r (λ k z a b c. inside k z (omega arith) b c) g.2,
      )

hole_kept : (blocks s t es t' es' : List ℕ) (kind link lo hi : ℕ) (T : Tree) → link ≡ 0 → FillAt blocks s t es kind link lo hi T → FillAt blocks s t' es' kind link lo hi T
unfolding FillAt
hole_kept blocks s t es t' es' kind link lo hi hole z g = g
hole_kept blocks s t es t' es' kind link lo hi (node xs l r) z g = absurd (omega (arith, g.0.row.some))

pub untouched_all : (s t es : List ℕ) (out : ℕ → Type 0) → Untouched s t es t es out
untouched_all s t es out = record { next = λ k a b o. refl; runs = λ k i c a b o y z h. refl }

pub beyond_all : (s t es : List ℕ) → Beyond s t es t es
beyond_all s t es = record { next = λ k a. refl; outside = λ i o. refl }

pub like_self : (t : List ℕ) → LikeButRuns t t
like_self t = record { same = λ k j h o. refl }

pub like_trans : (t t₁ t₂ : List ℕ) → LikeButRuns t t₁ → LikeButRuns t₁ t₂ → LikeButRuns t t₂
like_trans t t₁ t₂ a b = record { same = λ k j h o. b.same k j h o ∙ a.same k j h o }

pub fillable_like : (s t es t' es' : List ℕ) → Fillable s t es → LikeButRuns t t' → length t' ≡ length t → length es' ≡ length es → Fillable s t' es'
fillable_like s t es t' es' f like a b = record {
  like = like_trans s t t' f.like like;
  long = a ∙ f.long;
  inside = f.inside;
  space = rw b f.space;
  few = f.few;
}

-- ── one entry ──

module _ (t es t' es' : List ℕ) (link b cell : ℕ) (some : link ≡ 0 → ⊥) (w : WroteEntry t es t' es' link b cell) where
  pub wrote_like : LikeButRuns t t'
  wrote_like = record {
    same = λ k j h o. rw w.nodes_are (column_other t link node_first (plus_up_to (first_at t link) 1) (omega arith) k j h (λ e q. elim o [ inl z ↦ some (sym e ∙ z) | inr z ↦ z q ]));
  }

  pub wrote_long : (length t' ≡ length t) × (length es' ≡ length es)
  wrote_long = (rw w.nodes_are (simp length-set), rw w.entries_are (simp length-set))

  module _ (blocks s : List ℕ) (kind lo hi : ℕ) (xs : List ℕ) (l r : Tree) (f : Fillable s t es) (g : FillAt blocks s t es kind link lo hi (node xs l r))
      (more : suc (length xs) ≤ count_at s link) (is : first_cell_in blocks b ≡ cell) where
    this : FillRow blocks s t es kind link lo hi xs
    unfolding FillAt
    this = g.0

    abbrev at : ℕ
    at = first_at t link

    place : at ≡ start_at s link + length xs
    place = this.next

    inside_entries : entry_head + entry_width * (at + 1) ≤ length es
    inside_entries = omega (arith, place, run_fits s link this.row.some this.row.used, f.space)

    next_place : first_at t' link ≡ at + 1
    next_place =
        let sum : plus_up_to at 1 ≡ at + 1 = omega (arith, place, run_fits s link this.row.some this.row.used, f.few) in
        rw w.nodes_are
        (column_same t link node_first (plus_up_to at 1) (omega arith) (row_inside t link node_first this.row.some (omega (arith, this.row.used, f.inside, f.long)) (omega arith)) ∙ sum)

    next_other : (k : ℕ) → (k ≡ link → ⊥) → first_at t' k ≡ first_at t k
    next_other k apart = rw w.nodes_are (column_other t link node_first (plus_up_to at 1) (omega arith) k node_first (omega arith) (λ e _. apart e))

    entry_elsewhere : (i c : ℕ) → c < entry_width → (i ≡ at → ⊥) → entry_column es' i c ≡ entry_column es i c
    entry_elsewhere i c h apart =
        rw w.entries_are
        (entry_other (set es (entry_head + (entry_width * at + entry_block)) b) at entry_key cell (omega arith) i c h (λ e _. apart e)
        ∙ entry_other es at entry_block b (omega arith) i c h (λ e _. apart e))

    entry_block_lem : block_in es' at ≡ b
    entry_block_lem =
        rw w.entries_are
        (entry_other (set es (entry_head + (entry_width * at + entry_block)) b) at entry_key cell (omega arith) at entry_block (omega arith) (λ _ e. omega arith)
        ∙ entry_same es at entry_block b (omega arith) (omega (arith, inside_entries)))

    entry_cell : entry_column es' at entry_key ≡ cell
    entry_cell =
        rw w.entries_are
        (entry_same (set es (entry_head + (entry_width * at + entry_block)) b) at entry_key cell (omega arith) (rw (length-set es (entry_head + (entry_width * at + entry_block)) b) (omega (arith, inside_entries))))

    -- no other row, and no other run
    others : Untouched s t es t' es' (λ k. k ≡ link → ⊥)
    others = record {
      next = λ k a z o. next_other k o;
      runs = λ k i c a z o y h small. entry_elsewhere i c small (λ q. elim (lt_or_le k link) [
        | inl x ↦ omega (arith, place, more, runs_apart s k link a x)
        | inr x ↦ omega (arith, place, more, runs_apart s link k this.row.some (strict k o x))
      ]);
    }
      where
        strict : (k : ℕ) → (k ≡ link → ⊥) → link ≤ k → link < k
        strict k o x = elim (lt_or_le link k) [ inl y ↦ y | inr y ↦ absurd (o (omega arith)) ]

    row_more : FillRow blocks s t' es' kind link lo hi (xs ++ b ∷ [])
    unfolding run
    row_more =
        let long : length (xs ++ b ∷ []) ≡ length xs + 1 = length-append xs (b ∷ []) in
        let old : (i c : ℕ) → start_at s link ≤ i → i < start_at s link + length xs → c < entry_width → entry_column es' i c ≡ entry_column es i c =
        λ i c a z h. entry_elsewhere i c h (omega (arith, place)) in
        let new : block_in es' (start_at s link + length xs) ≡ b = rw (← place) entry_block_lem in
        record {
          row = this.row;
          fits = omega arith;
          next = omega (arith, next_place, place);
          listed = rw (long, run-append es' (start_at s link) (length xs) 1, run_same es es' (start_at s link) (length xs) (λ i a z. old i entry_block a z (omega arith)), this.listed, new);
          keyed = record {
            key = λ j h. elim (eq_or_ne j (length xs)) [
              | inl e ↦ (let q : start_at s link + j ≡ at = omega (arith, place) in rw q (entry_cell ∙ sym is ∙ ap (first_cell_in blocks) (sym entry_block_lem)))
              | inr e ↦
                  old (start_at s link + j) entry_key (omega arith) (omega arith) (omega arith)
                  ∙ this.keyed.key j (omega arith)
                  ∙ ap (first_cell_in blocks) (sym (old (start_at s link + j) entry_block (omega arith) (omega arith) (omega arith)))
            ];
          };
        }

    -- the row is in use, and the place is inside its run
    beyond : Beyond s t es t' es'
    beyond = record {
      next = λ k h. next_other k (λ e. omega (arith, this.row.used));
      outside = λ i o.
          let inside : at < all_entries s = omega (arith, place, more, run_fits s link this.row.some this.row.used) in
          rw w.entries_are
          (get_or-set_other (set es (entry_head + (entry_width * at + entry_block)) b) (entry_head + (entry_width * at + entry_key)) i cell 0 (λ e. elim o [ inl h ↦ omega arith | inr h ↦ omega arith ])
          ∙ get_or-set_other es (entry_head + (entry_width * at + entry_block)) i b 0 (λ e. elim o [ inl h ↦ omega arith | inr h ↦ omega arith ]));
    }

    pub filled_entry : Filled blocks s t es t' es' kind link lo hi (node xs l r) (node (insert (λ _. 0) b xs) l r)
    unfolding FillAt
    filled_entry =
        let row : CountRow s kind link lo hi (count_at s link) = this.row in
        let wide : lo < hi = row.wide in
        let left : FillAt blocks s t' es' kind (left_at s link) lo (mid lo hi) l =
        fill_kept blocks s t es t' es' kind (λ k. k ≡ link → ⊥) others (left_at s link) lo (mid lo hi) l (λ k z x y c e. omega (arith, row.high, ap (max_at s) e)) g.1 in
        let right : FillAt blocks s t' es' kind (right_at s link) (mid lo hi) hi r =
        elim (le_or_lt hi (lo + 1)) [
          | inl n ↦ hole_kept blocks s t es t' es' kind (right_at s link) (mid lo hi) hi r (row.narrow n).1 g.2
          | inr n ↦ fill_kept blocks s t es t' es' kind (λ k. k ≡ link → ⊥) others (right_at s link) (mid lo hi) hi r (λ k z x y c e. omega (arith, row.low, ap (min_at s) e)) g.2
        ] in
        record {
          here = rw (insert_last b xs) (row_more, left, right);
          rest = record {
            next = λ k a z o. others.next k a z (apart k o);
            runs = λ k i c a z o. others.runs k i c a z (apart k o);
          };
          beyond = beyond;
        }
      where
        apart : (k : ℕ) → Outside s (spot kind 0 0 lo hi) k → k ≡ link → ⊥
        apart k o e = not_outside s (spot kind 0 0 lo hi) link (count_at s link) this.row (rw (← e) o)

-- ── a half that is filled ──

module _ (blocks s t es t' es' : List ℕ) (kind link lo hi : ℕ) (xs : List ℕ) (l r : Tree) (wide : lo + 1 < hi) (g : FillAt blocks s t es kind link lo hi (node xs l r)) where
  pub filled_left : (l' : Tree) → Filled blocks s t es t' es' kind (left_at s link) lo (mid lo hi) l l' → Filled blocks s t es t' es' kind link lo hi (node xs l r) (node xs l' r)
  unfolding FillAt
  filled_left l' f =
      let p : Spot = spot kind 0 0 lo (mid lo hi) in
      let row : CountRow s kind link lo hi (count_at s link) = g.0.row in
      record {
        here = (
          row_kept blocks s t es t' es' kind (Outside s p) f.rest link lo hi xs (ends-after (omega (arith, row.high))) g.0,
          f.here,
          fill_kept blocks s t es t' es' kind (Outside s p) f.rest (right_at s link) (mid lo hi) hi r (λ k z a b c. ends-after (omega arith)) g.2,
        );
        rest = record {
          next = λ k a z o. f.rest.next k a z (outside_part s (spot kind 0 0 lo hi) p k refl (omega arith) (omega arith) o);
          runs = λ k i c a z o. f.rest.runs k i c a z (outside_part s (spot kind 0 0 lo hi) p k refl (omega arith) (omega arith) o);
        };
        beyond = f.beyond;
      }

  pub filled_right : (r' : Tree) → Filled blocks s t es t' es' kind (right_at s link) (mid lo hi) hi r r' → Filled blocks s t es t' es' kind link lo hi (node xs l r) (node xs l r')
  unfolding FillAt
  filled_right r' f =
      let p : Spot = spot kind 0 0 (mid lo hi) hi in
      let row : CountRow s kind link lo hi (count_at s link) = g.0.row in
      record {
        here = (
          row_kept blocks s t es t' es' kind (Outside s p) f.rest link lo hi xs (starts_before (omega (arith, row.low))) g.0,
          fill_kept blocks s t es t' es' kind (Outside s p) f.rest (left_at s link) lo (mid lo hi) l (λ k z a b c. starts_before (omega arith)) g.1,
          f.here,
        );
        rest = record {
          next = λ k a z o. f.rest.next k a z (outside_part s (spot kind 0 0 lo hi) p k refl (omega arith) (omega arith) o);
          runs = λ k i c a z o. f.rest.runs k i c a z (outside_part s (spot kind 0 0 lo hi) p k refl (omega arith) (omega arith) o);
        };
        beyond = f.beyond;
      }

pub filled_trans : (blocks s t es t₁ es₁ t₂ es₂ : List ℕ) (kind link lo hi : ℕ) (T X Y : Tree) → Filled blocks s t es t₁ es₁ kind link lo hi T X
    → Filled blocks s t₁ es₁ t₂ es₂ kind link lo hi X Y → Filled blocks s t es t₂ es₂ kind link lo hi T Y
filled_trans blocks s t es t₁ es₁ t₂ es₂ kind link lo hi T X Y f h = record {
  here = h.here;
  rest = record {
    next = λ k a z o. h.rest.next k a z o ∙ f.rest.next k a z o;
    runs = λ k i c a z o y x small. h.rest.runs k i c a z o y x small ∙ f.rest.runs k i c a z o y x small;
  };
  beyond = record { next = λ k a. h.beyond.next k a ∙ f.beyond.next k a; outside = λ i o. h.beyond.outside i o ∙ f.beyond.outside i o };
}
