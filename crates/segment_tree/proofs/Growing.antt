-- What a new node, an entry more and a half that grows leave of the node table: a row's kind and interval say whose it is. Assumes nothing.
use mathlib.Core.Path.{◌≡◌, refl, ap, sym, ◌∙◌}
use mathlib.Core.Logic.{◌⊎◌, inl, inr}
use mathlib.Core.List.{List, []}
use Prim.Native.Nat.{ℕ, suc, ◌+◌, ◌*◌, ◌≤◌, ◌<◌}
use native.Mathlib.Omega.{arith}
use lib.ListN.{length, set, length-set}
use Rattle.lists.proofs.Numbers.{eq_or_ne, le_or_lt}
use Rattle.history.specs.Lent.{row_width}
use Rattle.history.specs.Tree.{Tree, hole, node, mid, node_count, entry_count}
use Rattle.tables.specs.Columns.{column, node_min, node_max, node_left, node_right, node_entries, node_kind, nodes_count}
use Rattle.tables.specs.Sums.{most, plus_up_to}
use Rattle.segment_table.specs.Closed.{nodes_used, left_at, right_at, count_at}
use Rattle.segment_tree.specs.Count.{rows_in, min_at, max_at, kind_at, entries_to, CountRow, CountAt, Spot, spot, link_at, Outside, other_kind, starts_before, ends-after, Standing, Kept, Grown, with_node}
use Rattle.segment_tree.proofs.NodeRows.{column_same, column_other, row_inside, tree_stays, hole_stays, entries_same, entries_more, entries_one}

-- ── rows outside ──

-- by the same three numbers
outside_same : (t t' : List ℕ) (s : Spot) (k : ℕ) → kind_at t' k ≡ kind_at t k → min_at t' k ≡ min_at t k → max_at t' k ≡ max_at t k → Outside t s k → Outside t' s k
outside_same t t' s k a b c (other_kind h) = other_kind (λ e. h (sym a ∙ e))
outside_same t t' s k a b c (starts_before h) = starts_before (omega arith)
outside_same t t' s k a b c (ends-after h) = ends-after (omega arith)

-- outside a part of it
pub outside_part : (t : List ℕ) (s h : Spot) (k : ℕ) → s.kind ≡ h.kind → s.lo ≤ h.lo → h.hi ≤ s.hi → Outside t s k → Outside t h k
outside_part t s h k e a b (other_kind p) = other_kind (λ q. p (q ∙ sym e))
outside_part t s h k e a b (starts_before p) = starts_before (omega arith)
outside_part t s h k e a b (ends-after p) = ends-after (omega arith)

-- a row of the tree is not
pub not_outside : (t : List ℕ) (s : Spot) (k n : ℕ) → CountRow t s.kind k s.lo s.hi n → Outside t s k → ⊥
not_outside t s k n r (other_kind p) = p r.own_kind
not_outside t s k n r (starts_before p) = omega (arith, r.low)
not_outside t s k n r (ends-after p) = omega (arith, r.high)

-- the column of a link is one of a root or of a half
pub link_column : (t : List ℕ) (s : Spot) (T : Tree) → Standing t s T → s.col < nodes_count
link_column t s T stands =
    elim (eq_or_ne s.parent 0) [
      | inl e ↦ stands.at_root e
      | inr e ↦ omega (arith, stands.at_half (omega arith))
    ]

-- ── one step after another ──

module _ (t : List ℕ) (s : Spot) (T : Tree) (stands : Standing t s T) where
  pub grown-none : Grown t t s T T
  grown-none = record {
    long = refl;
    here = stands.here;
    rows = refl;
    more = omega arith;
    entries = refl;
    free = λ k j a h. refl;
    kept = record { rows = λ k j a b c o e. refl; head = λ j a b c. refl };
    clean = stands.clean;
    inside = stands.inside;
  }

  module _ (t₁ : List ℕ) (T₁ : Tree) (g : Grown t t₁ s T T₁) where
    -- a row that was outside is
    outside_still : (k : ℕ) → 0 < k → k ≤ nodes_used t → Outside t s k → Outside t₁ s k
    outside_still k some used out =
        outside_same t t₁ s k (same node_kind (omega arith) (λ e q. omega (arith, stands.at_half (omega arith))))
        (same node_min (omega arith) (λ e q. omega (arith, stands.at_half (omega arith)))) (same node_max (omega arith) (λ e q. omega (arith, stands.at_half (omega arith)))) out
      where
        same : (j : ℕ) → j < row_width → (k ≡ s.parent → j ≡ s.col → ⊥) → column t₁ k j ≡ column t k j
        same j h apart = g.kept.rows k j some used h out apart

    pub standing_grown : Standing t₁ s T₁
    standing_grown = record {
      here = g.here;
      wide = stands.wide;
      parent_used = omega (arith, stands.parent_used, g.more);
      at_root = stands.at_root;
      at_half = stands.at_half;
      outer = λ some. outside_still s.parent some stands.parent_used (stands.outer some);
      clean = g.clean;
      inside = g.inside;
    }

    pub grown_trans : (t₂ : List ℕ) (T₂ : Tree) → Grown t₁ t₂ s T₁ T₂ → Grown t t₂ s T T₂
    grown_trans t₂ T₂ h = record {
      long = h.long ∙ g.long;
      here = h.here;
      rows = omega (arith, g.rows, h.rows);
      more = omega (arith, g.more, h.more);
      entries = omega (arith, g.entries, h.entries);
      free = λ k j a b. h.free k j a b ∙ g.free k j a b;
      kept = record {
        rows = λ k j a b c out apart.
            h.kept.rows k j a (omega (arith, g.more)) c (outside_still k a b out) apart ∙ g.kept.rows k j a b c out apart;
        head = λ j a b c. h.kept.head j a b c ∙ g.kept.head j a b c;
      };
      clean = h.clean;
      inside = h.inside;
    }

-- ── a new node ──

module _ (t : List ℕ) (s : Spot) (stands : Standing t s hole) (room : nodes_used t < rows_in t) where
  abbrev link : ℕ
  link = nodes_used t + 1

  abbrev counted : List ℕ
  counted = set t (row_width * 0 + nodes_count) link

  abbrev linked : List ℕ
  linked = set counted (row_width * s.parent + s.col) link

  abbrev lowered : List ℕ
  lowered = set linked (row_width * link + node_min) s.lo

  abbrev raised : List ℕ
  raised = set lowered (row_width * link + node_max) s.hi

  col_small : s.col < nodes_count
  col_small = link_column t s hole stands

  made-length : length (with_node t s) ≡ length t
  made-length = simp length-set

  -- all but the count, the link and the new row
  made_other : (k j : ℕ) → j < row_width → (k ≡ link → ⊥) → (k ≡ 0 → j ≡ nodes_count → ⊥) → (k ≡ s.parent → j ≡ s.col → ⊥) → column (with_node t s) k j ≡ column t k j
  made_other k j h new count here =
      column_other raised link node_kind s.kind (omega arith) k j h (λ e _. new e)
      ∙ column_other lowered link node_max s.hi (omega arith) k j h (λ e _. new e)
      ∙ column_other linked link node_min s.lo (omega arith) k j h (λ e _. new e)
      ∙ column_other counted s.parent s.col link (omega (arith, col_small)) k j h here
      ∙ column_other t 0 nodes_count link (omega arith) k j h count

  -- no write is to a free column
  made_free : (k j : ℕ) → node_kind < j → j < row_width → column (with_node t s) k j ≡ column t k j
  made_free k j a h =
      column_other raised link node_kind s.kind (omega arith) k j h (λ _ e. omega arith)
      ∙ column_other lowered link node_max s.hi (omega arith) k j h (λ _ e. omega arith)
      ∙ column_other linked link node_min s.lo (omega arith) k j h (λ _ e. omega arith)
      ∙ column_other counted s.parent s.col link (omega (arith, col_small)) k j h (λ _ e. omega (arith, col_small))
      ∙ column_other t 0 nodes_count link (omega arith) k j h (λ _ e. omega arith)

  -- what the three last writes leave of the new row
  made_rest : (j : ℕ) → j < row_width → (j ≡ node_kind → ⊥) → (j ≡ node_max → ⊥) → (j ≡ node_min → ⊥) → column (with_node t s) link j ≡ 0
  made_rest j h a b c =
      column_other raised link node_kind s.kind (omega arith) link j h (λ _ e. a e)
      ∙ column_other lowered link node_max s.hi (omega arith) link j h (λ _ e. b e)
      ∙ column_other linked link node_min s.lo (omega arith) link j h (λ _ e. c e)
      ∙ column_other counted s.parent s.col link (omega (arith, col_small)) link j h (λ e _. omega (arith, stands.parent_used))
      ∙ column_other t 0 nodes_count link (omega arith) link j h (λ e _. omega arith)
      ∙ stands.clean.zeros link j (omega arith) h

  inside_new : (j : ℕ) → j < row_width → row_width * link + j < length t
  inside_new j h = row_inside t link j (omega arith) (omega arith) h

  made_kind : kind_at (with_node t s) link ≡ s.kind
  made_kind = column_same raised link node_kind s.kind (omega arith) (simp length-set (inside_new node_kind (omega arith)))

  made-max : max_at (with_node t s) link ≡ s.hi
  made-max =
      column_other raised link node_kind s.kind (omega arith) link node_max (omega arith) (λ _ e. omega arith)
      ∙ column_same lowered link node_max s.hi (omega arith) (simp length-set (inside_new node_max (omega arith)))

  made-min : min_at (with_node t s) link ≡ s.lo
  made-min =
      column_other raised link node_kind s.kind (omega arith) link node_min (omega arith) (λ _ e. omega arith)
      ∙ column_other lowered link node_max s.hi (omega arith) link node_min (omega arith) (λ _ e. omega arith)
      ∙ column_same linked link node_min s.lo (omega arith) (simp length-set (inside_new node_min (omega arith)))

  pub made_link : link_at (with_node t s) s ≡ link
  made_link =
      column_other raised link node_kind s.kind (omega arith) s.parent s.col (omega (arith, col_small)) (λ e _. omega (arith, stands.parent_used))
      ∙ column_other lowered link node_max s.hi (omega arith) s.parent s.col (omega (arith, col_small)) (λ e _. omega (arith, stands.parent_used))
      ∙ column_other linked link node_min s.lo (omega arith) s.parent s.col (omega (arith, col_small)) (λ e _. omega (arith, stands.parent_used))
      ∙ column_same counted s.parent s.col link (omega (arith, col_small)) (simp length-set (omega (arith, stands.parent_used, col_small)))

  made_used : nodes_used (with_node t s) ≡ link
  made_used =
      column_other raised link node_kind s.kind (omega arith) 0 nodes_count (omega arith) (λ e _. omega arith)
      ∙ column_other lowered link node_max s.hi (omega arith) 0 nodes_count (omega arith) (λ e _. omega arith)
      ∙ column_other linked link node_min s.lo (omega arith) 0 nodes_count (omega arith) (λ e _. omega arith)
      ∙ column_other counted s.parent s.col link (omega (arith, col_small)) 0 nodes_count (omega arith) (λ _ e. omega (arith, col_small))
      ∙ column_same t 0 nodes_count link (omega arith) (omega arith)

  pub grown_new : Grown t (with_node t s) s hole (node [] hole hole)
  unfolding CountAt node_count entry_count
  grown_new = record {
    long = made-length;
    here = rw made_link (
      record {
        some = omega arith;
        used = omega (arith, made_used);
        low = made-min;
        high = made-max;
        own_kind = made_kind;
        wide = stands.wide;
        narrow = λ _. (made_rest node_left (omega arith) (omega arith) (omega arith) (omega arith), made_rest node_right (omega arith) (omega arith) (omega arith) (omega arith));
        counted = made_rest node_entries (omega arith) (omega arith) (omega arith) (omega arith);
      },
      made_rest node_left (omega arith) (omega arith) (omega arith) (omega arith),
      made_rest node_right (omega arith) (omega arith) (omega arith) (omega arith),
    );
    rows = omega (arith, made_used);
    more = omega (arith, made_used);
    entries =
        let before : entries_to (with_node t s) (nodes_used t) ≡ entries_to t (nodes_used t) =
        entries_same t (with_node t s) (nodes_used t) (λ k a b. made_other k node_entries (omega arith) (omega arith) (omega arith) (λ _ e. omega (arith, col_small))) in
        let last : count_at (with_node t s) link ≡ 0 = made_rest node_entries (omega arith) (omega arith) (omega arith) (omega arith) in
        rw made_used (omega (arith, entries_more (with_node t s) (nodes_used t), before, last));
    free = made_free;
    kept = record {
      rows = λ k j a b c out apart. made_other k j c (omega arith) (omega arith) apart;
      head = λ j a b c. made_other 0 j a (omega arith) (λ _. b) c;
    };
    clean = record {
      zeros = λ k j a h.
          made_other k j h (omega (arith, made_used)) (omega (arith, made_used)) (λ e _. omega (arith, made_used, stands.parent_used))
          ∙ stands.clean.zeros k j (omega (arith, made_used)) h;
    };
    inside = omega (arith, made_used, made-length);
  }

-- ── an entry more ──

module _ (t : List ℕ) (s : Spot) (link : ℕ) (xs ys : List ℕ) (L R : Tree) (stands : Standing t s (node xs L R)) (at : link_at t s ≡ link)
    (few : length xs < most) (one : length ys ≡ suc (length xs)) (t' : List ℕ) (is : t' ≡ set t (row_width * link + node_entries) (plus_up_to (count_at t link) 1)) where
  row : CountRow t s.kind link s.lo s.hi (length xs)
  unfolding CountAt
  row = (rw at at stands.here).0

  more_other : (k j : ℕ) → j < row_width → (k ≡ link → j ≡ node_entries → ⊥) → column t' k j ≡ column t k j
  more_other k j h apart = rw is (column_other t link node_entries (plus_up_to (count_at t link) 1) (omega arith) k j h apart)

  more_used : nodes_used t' ≡ nodes_used t
  more_used = more_other 0 nodes_count (omega arith) (λ e _. omega (arith, row.some))

  more_length : length t' ≡ length t
  more_length = rw is (simp length-set)

  more_count : count_at t' link ≡ count_at t link + 1
  more_count =
      let full : plus_up_to (count_at t link) 1 ≡ count_at t link + 1 = omega (arith, row.counted) in
      rw is (column_same t link node_entries (plus_up_to (count_at t link) 1) (omega arith) (row_inside t link node_entries row.some (omega (arith, row.used, stands.inside)) (omega arith)) ∙ full)

  more_same : (k j : ℕ) → 0 < k → k ≤ nodes_used t → j < row_width → (k ≡ link → ⊥) → column t' k j ≡ column t k j
  more_same k j a b h apart = more_other k j h (λ e _. apart e)

  pub grown_entry : Grown t t' s (node xs L R) (node ys L R)
  unfolding CountAt node_count entry_count
  grown_entry =
      let tree : CountAt t s.kind link s.lo s.hi (node xs L R) = rw at at stands.here in
      let wide : s.lo < s.hi = stands.wide in
      let there : link_at t' s ≡ link = more_other s.parent s.col (omega (arith, link_column t s (node xs L R) stands)) (λ _ e. omega (arith, link_column t s (node xs L R) stands)) ∙ at in
      let lefts : left_at t' link ≡ left_at t link = more_other link node_left (omega arith) (λ _ e. omega arith) in
      let rights : right_at t' link ≡ right_at t link = more_other link node_right (omega arith) (λ _ e. omega arith) in
      let left : CountAt t' s.kind (left_at t link) s.lo (mid s.lo s.hi) L =
      tree_stays t t' s.kind (omega (arith, more_used)) (λ k. k ≡ link → ⊥) more_same (left_at t link) s.lo (mid s.lo s.hi) L
      (λ k z a b c e. omega (arith, row.high, ap (max_at t) e)) tree.1 in
      let right : CountAt t' s.kind (right_at t link) (mid s.lo s.hi) s.hi R =
      elim (le_or_lt s.hi (s.lo + 1)) [
        | inl n ↦ hole_stays t t' s.kind (right_at t link) (mid s.lo s.hi) s.hi R (row.narrow n).1 tree.2
        | inr n ↦ tree_stays t t' s.kind (omega (arith, more_used)) (λ k. k ≡ link → ⊥) more_same (right_at t link) (mid s.lo s.hi) s.hi R
            (λ k z a b c e. omega (arith, row.low, ap (min_at t) e)) tree.2
      ] in
      record {
        long = more_length;
        here = rw there (
          record {
            some = row.some;
            used = omega (arith, row.used, more_used);
            low = more_other link node_min (omega arith) (λ _ e. omega arith) ∙ row.low;
            high = more_other link node_max (omega arith) (λ _ e. omega arith) ∙ row.high;
            own_kind = more_other link node_kind (omega arith) (λ _ e. omega arith) ∙ row.own_kind;
            wide = wide;
            narrow = λ n. (lefts ∙ (row.narrow n).0, rights ∙ (row.narrow n).1);
            counted = omega (arith, more_count, row.counted);
          },
          rw lefts left,
          rw rights right,
        );
        rows = omega (arith, more_used);
        more = omega (arith, more_used);
        entries = rw more_used (omega (arith, entries_one t t' link (nodes_used t) row.some row.used more_count (λ k e. more_other k node_entries (omega arith) (λ q _. e q))));
        free = λ k j a h. more_other k j h (λ _ e. omega arith);
        kept = record {
          rows = λ k j a b c out apart. more_other k j c (λ e _. not_outside t s link (length xs) row (rw (← e) out));
          head = λ j a b c. more_other 0 j a (λ e _. omega (arith, row.some));
        };
        clean = record { zeros = λ k j a h. more_other k j h (λ e _. omega (arith, row.used, more_used)) ∙ stands.clean.zeros k j (omega (arith, more_used)) h };
        inside = omega (arith, more_used, more_length, stands.inside);
      }

-- ── a half that grows ──

-- h is a half of the node that hangs at s: a part of its interval, whose link stands in a column of its row
pub record HalfOf (t : List ℕ) (s h : Spot) (link : ℕ) (xs : List ℕ) (L R : Tree) : Type 0 where
  pub stands : Standing t s (node xs L R)
  pub at : link_at t s ≡ link
  pub wide : s.lo + 1 < s.hi
  pub same_kind : s.kind ≡ h.kind
  pub hangs : link ≡ h.parent
  pub low : s.lo ≤ h.lo
  pub high : h.hi ≤ s.hi
  pub less : (s.lo < h.lo) ⊎ (h.hi < s.hi)
  pub left_column : node_left ≤ h.col
  pub right_column : h.col ≤ node_right

module _ (t t' : List ℕ) (s h : Spot) (link : ℕ) (xs : List ℕ) (L R : Tree) (p : HalfOf t s h link xs L R) (kept : Kept t t' h) (more : nodes_used t ≤ nodes_used t') where
  half_tree : CountAt t s.kind link s.lo s.hi (node xs L R)
  half_tree = rw p.at at p.stands.here

  half_row : CountRow t s.kind link s.lo s.hi (length xs)
  unfolding CountAt half_tree
  half_row = half_tree.0

  -- the node itself is outside its half
  node_outside : Outside t h link
  node_outside = elim p.less [ inl q ↦ starts_before (omega (arith, half_row.low)) | inr q ↦ ends-after (omega (arith, half_row.high)) ]

  node_same : (j : ℕ) → j < row_width → (j ≡ h.col → ⊥) → column t' link j ≡ column t link j
  node_same j z apart = kept.rows link j half_row.some half_row.used z node_outside (λ _ e. apart e)

  -- what is outside the node is outside its half, and is not the node
  out_of_half : (k : ℕ) → Outside t s k → Outside t h k
  out_of_half k out = outside_part t s h k p.same_kind p.low p.high out

  not_node : (k : ℕ) → Outside t s k → k ≡ h.parent → ⊥
  not_node k out e = not_outside t s link (length xs) half_row (let q : k ≡ link = e ∙ sym p.hangs in rw (← q) out)

  half_kept : Kept t t' s
  half_kept = record {
    rows = λ k j a b c out apart. kept.rows k j a b c (out_of_half k out) (λ e _. not_node k out e);
    head = λ j a b c. kept.head j a b (λ e _. omega (arith, half_row.some, p.hangs));
  }

  link_same : link_at t' s ≡ link
  link_same =
      elim (eq_or_ne s.parent 0) [
        | inl e ↦
            let c : s.col < nodes_count = p.stands.at_root e in
            let same : column t' 0 s.col ≡ column t 0 s.col = kept.head s.col (omega arith) (omega arith) (λ q _. omega (arith, half_row.some, p.hangs)) in
            rw e (same ∙ (rw e at p.at))
        | inr e ↦
            let some : 0 < s.parent = omega arith in
            let out : Outside t s s.parent = p.stands.outer some in
            kept.rows s.parent s.col some p.stands.parent_used (omega (arith, p.stands.at_half some)) (out_of_half s.parent out) (λ q _. not_node s.parent out q) ∙ p.at
      ]

  row_after : CountRow t' s.kind link s.lo s.hi (length xs)
  row_after =
      let left : node_left ≤ h.col = p.left_column in
      let right : h.col ≤ node_right = p.right_column in
      record {
        some = half_row.some;
        used = omega (arith, half_row.used);
        low = node_same node_min (omega arith) (omega arith) ∙ half_row.low;
        high = node_same node_max (omega arith) (omega arith) ∙ half_row.high;
        own_kind = node_same node_kind (omega arith) (omega arith) ∙ half_row.own_kind;
        wide = half_row.wide;
        narrow = λ n. absurd (omega (arith, p.wide));
        counted = node_same node_entries (omega arith) (omega arith) ∙ half_row.counted;
      }

  -- a tree in the other half stands still
  other_half : (k lo hi : ℕ) (T : Tree) → ((i : ℕ) → lo ≤ min_at t i → min_at t i < max_at t i → max_at t i ≤ hi → Outside t h i)
      → ((i : ℕ) → lo ≤ min_at t i → max_at t i ≤ hi → i ≡ link → ⊥) → CountAt t s.kind k lo hi T → CountAt t' s.kind k lo hi T
  other_half k lo hi T out apart g =
      tree_stays t t' s.kind more (λ i. Outside t h i × (i ≡ link → ⊥)) (λ i j a b z o. kept.rows i j a b z o.0 (λ e _. o.1 (e ∙ sym p.hangs)))
      k lo hi T (λ i z a b c. (out i a b c, apart i a c)) g

module _ (t t' : List ℕ) (s : Spot) (link : ℕ) (xs : List ℕ) (L R : Tree) (stands : Standing t s (node xs L R)) (at : link_at t s ≡ link)
    (wide : s.lo + 1 < s.hi) where
  abbrev left_spot : Spot
  left_spot = spot s.kind link node_left s.lo (mid s.lo s.hi)

  abbrev right_spot : Spot
  right_spot = spot s.kind link node_right (mid s.lo s.hi) s.hi

  left_half_lem : HalfOf t s left_spot link xs L R
  left_half_lem = record {
    stands = stands;
    at = at;
    wide = wide;
    same_kind = refl;
    hangs = refl;
    low = omega arith;
    high = omega arith;
    less = inr (omega arith);
    left_column = omega arith;
    right_column = omega arith;
  }

  right_half_lem : HalfOf t s right_spot link xs L R
  right_half_lem = record {
    stands = stands;
    at = at;
    wide = wide;
    same_kind = refl;
    hangs = refl;
    low = omega arith;
    high = omega arith;
    less = inl (omega arith);
    left_column = omega arith;
    right_column = omega arith;
  }

  pub left_stands : Standing t left_spot L
  unfolding CountAt
  left_stands =
      let tree : CountAt t s.kind link s.lo s.hi (node xs L R) = rw at at stands.here in
      record {
        here = tree.1;
        wide = omega arith;
        parent_used = tree.0.used;
        at_root = λ e. omega arith;
        at_half = λ _. (omega arith, omega arith);
        outer = λ _. ends-after (omega (arith, tree.0.high));
        clean = stands.clean;
        inside = stands.inside;
      }

  pub right_stands : Standing t right_spot R
  unfolding CountAt
  right_stands =
      let tree : CountAt t s.kind link s.lo s.hi (node xs L R) = rw at at stands.here in
      record {
        here = tree.2;
        wide = omega arith;
        parent_used = tree.0.used;
        at_root = λ e. omega arith;
        at_half = λ _. (omega arith, omega arith);
        outer = λ _. starts_before (omega (arith, tree.0.low));
        clean = stands.clean;
        inside = stands.inside;
      }

  pub grown_left : (L' : Tree) → Grown t t' left_spot L L' → (link_at t' s ≡ link) × Grown t t' s (node xs L R) (node xs L' R)
  unfolding CountAt node_count entry_count
  grown_left L' g =
      let tree : CountAt t s.kind link s.lo s.hi (node xs L R) = rw at at stands.here in
      let there : link_at t' s ≡ link = link_same t t' s left_spot link xs L R left_half_lem g.kept g.more in
      let rights : right_at t' link ≡ right_at t link = node_same t t' s left_spot link xs L R left_half_lem g.kept g.more node_right (omega arith) (omega arith) in
      let right : CountAt t' s.kind (right_at t link) (mid s.lo s.hi) s.hi R =
      other_half t t' s left_spot link xs L R left_half_lem g.kept g.more (right_at t link) (mid s.lo s.hi) s.hi R
      (λ i a b c. ends-after (omega arith)) (λ i a b e. omega (arith, tree.0.low, ap (min_at t) e)) tree.2 in (
        there,
        record {
          long = g.long;
          here = rw there (
            row_after t t' s left_spot link xs L R left_half_lem g.kept g.more,
            g.here,
            rw rights right,
          );
          rows = omega (arith, g.rows);
          more = g.more;
          entries = omega (arith, g.entries);
          free = g.free;
          kept = half_kept t t' s left_spot link xs L R left_half_lem g.kept g.more;
          clean = g.clean;
          inside = g.inside;
        },
      )

  pub grown_right : (R' : Tree) → Grown t t' right_spot R R' → (link_at t' s ≡ link) × Grown t t' s (node xs L R) (node xs L R')
  unfolding CountAt node_count entry_count
  grown_right R' g =
      let tree : CountAt t s.kind link s.lo s.hi (node xs L R) = rw at at stands.here in
      let there : link_at t' s ≡ link = link_same t t' s right_spot link xs L R right_half_lem g.kept g.more in
      let lefts : left_at t' link ≡ left_at t link = node_same t t' s right_spot link xs L R right_half_lem g.kept g.more node_left (omega arith) (omega arith) in
      let left : CountAt t' s.kind (left_at t link) s.lo (mid s.lo s.hi) L =
      other_half t t' s right_spot link xs L R right_half_lem g.kept g.more (left_at t link) s.lo (mid s.lo s.hi) L
      (λ i a b c. starts_before (omega arith)) (λ i a b e. omega (arith, tree.0.high, ap (max_at t) e)) tree.1 in (
        there,
        record {
          long = g.long;
          here = rw there (
            row_after t t' s right_spot link xs L R right_half_lem g.kept g.more,
            rw lefts left,
            g.here,
          );
          rows = omega (arith, g.rows);
          more = g.more;
          entries = omega (arith, g.entries);
          free = g.free;
          kept = half_kept t t' s right_spot link xs L R right_half_lem g.kept g.more;
          clean = g.clean;
          inside = g.inside;
        },
      )
