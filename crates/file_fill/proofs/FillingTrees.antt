-- Nodes written by halves: one step for each return of `fill_tree`. Assumes nothing.
use mathlib.Core.Path.{◌≡◌, refl, sym, ◌∙◌, ap, ap₂}
use mathlib.Core.Logic.{⊎_elim}
use mathlib.Core.Bool.{true, false, ◌&&◌, true≢false}
use mathlib.Core.List.{List, [], ◌∷◌, ◌++◌}
use Prim.Native.Nat.{ℕ, suc, ◌+◌, ◌*◌, ◌-◌, ◌≤◌, ◌<◌}
use native.Mathlib.Omega.{arith}
use lib.ListN.{length, length-append}
use lib.Seq.{sets}
use borrow.Author.Tests.{lt-ltb, le-ltb}
use Rattle.lists.proofs.Numbers.{and_left, and_right, and_both, lt_or_le, bool_cases}
use Rattle.lists.proofs.Stores.{sets-append, sets_before}
use Rattle.history.specs.Lent.{row_width, entry_width}
use Rattle.history.specs.Tree.{Tree, hole, node, mid, node_count, entry_count, entries_in}
use Rattle.history.specs.File.{Nodes, absent, present, got, fault, onward, read_root, tree_from}
use Rattle.history.proofs.FileYields.{got_value, got_next, fault_got}
use Rattle.history.proofs.TreeCounts.{entry_count_in}
use Rattle.file_scan.specs.Rows.{row_head, head_absent, head_present, read_head}
use Rattle.fields.proofs.Reading.{Passes}
use Rattle.file_scan.proofs.Readers.{onward_got, numbers_at, many_got}
use Rattle.file_scan.proofs.RowReads.{head_passes}
use Rattle.file_scan.proofs.RowBytes.{head_entries}
use Rattle.file_scan.proofs.Forest.{root_parts}
use Rattle.file_fill.specs.declared.nodes.Half.TheVariants as half
use Rattle.file_fill.specs.declared.nodes.Filled.{Filled}
use Rattle.std.specs.Prelude.{Option, Some, None}
use Rattle.layout.specs.Rows.{entry_numbers, root_link, node_numbers}
use Rattle.file_fill.specs.Fill.{filled, is_place, right_start, fits, half_of, first_cell_of, entry_place, FilledEntries, TreeLeft, FilledTree}
use Rattle.file_fill.proofs.Places.{place_some, half_is_absent, half_is_wrong, half_is_there, There}

-- ── the reading of a tree ──

module _ (file : List ℕ) (at : ℕ) {t : Nodes} {next : ℕ} (read : read_root file at ≡ got t next) where
  -- an absent tree
  pub root_absent : {n : ℕ} → read_head file at ≡ got head_absent n → (t ≡ absent) × (next ≡ n)
  unfolding onward
  root_absent {n} e =
      let r : got absent n ≡ got t next = rw (root_parts file at, e) at read in
      (sym (got_value r), sym (got_next r))

  -- a node and its two subtrees
  pub root_present : {a b c n : ℕ} {es : List ℕ} {G : Type 0} → read_head file at ≡ got (head_present a b c es) n
      → ((l r : Nodes) (p : ℕ) → read_root file n ≡ got l p → read_root file p ≡ got r next → present a b c es l r ≡ t → G) → G
  unfolding onward
  root_present {a} {b} {c} {n} {es} e f =
      let r = rw (root_parts file at, e) at read in
      onward_got _ _ r λ l p e₁ r₁.
      onward_got _ _ r₁ λ m q e₂ r₂.
      f l m p e₁ (e₂ ∙ ap (got m) (got_next r₂)) (got_value r₂)

  pub root_fault : {i : ℕ} → read_head file at ≡ fault i → ⊥
  unfolding onward
  root_fault {i} e =
      let r : fault i ≡ got t next = rw (root_parts file at, e) at read in
      fault_got r

-- ── numbers ──

-- entries behind entries
entry_numbers_append : (key : ℕ → ℕ) (xs ys : List ℕ) → entry_numbers key (xs ++ ys) ≡ entry_numbers key xs ++ entry_numbers key ys
unfolding entry_numbers
entry_numbers_append key [] ys = refl
entry_numbers_append key (x ∷ xs) ys = ap (λ (l : List ℕ). x ∷ key x ∷ l) (entry_numbers_append key xs ys)

pub entry_numbers_length : (key : ℕ → ℕ) (ks : List ℕ) → length (entry_numbers key ks) ≡ entry_width * length ks
unfolding entry_numbers
entry_numbers_length key [] = refl
entry_numbers_length key (k ∷ ks) = omega (arith, entry_numbers_length key ks)

pub node_numbers_length : (kind lo hi rows runs : ℕ) (T : Tree) → length (node_numbers kind lo hi rows runs T) ≡ row_width * node_count T
unfolding node_numbers node_count
node_numbers_length kind lo hi rows runs hole = refl
node_numbers_length kind lo hi rows runs (node es l r) =
    let a = node_numbers kind lo (mid lo hi) (suc rows) (runs + length es) l in
    let b = node_numbers kind (mid lo hi) hi (suc rows + node_count l) (runs + length es + entry_count l) r in
    omega (
      arith,
      length-append a b,
      node_numbers_length kind lo (mid lo hi) (suc rows) (runs + length es) l,
      node_numbers_length kind (mid lo hi) hi (suc rows + node_count l) (runs + length es + entry_count l) r,
    )

-- where a node stands, the right half starts in the middle: a node of width 1 has none
start_there : (lo hi : ℕ) → right_start lo hi < hi → right_start lo hi ≡ mid lo hi
unfolding right_start
start_there lo hi h =
    ⊎_elim (λ w. rw (lt-ltb (lo + 1) hi w) refl) (λ w. absurd (let z : hi < hi = rw (le-ltb (lo + 1) hi w) at h in omega arith)) (lt_or_le (lo + 1) hi)

right_numbers : (kind lo hi rows runs : ℕ) (t : Nodes) → fits (right_start lo hi) hi t ≡ true
    → node_numbers kind (right_start lo hi) hi rows runs (tree_from t) ≡ node_numbers kind (mid lo hi) hi rows runs (tree_from t)
unfolding fits tree_from node_numbers
right_numbers kind lo hi rows runs absent h = refl
right_numbers kind lo hi rows runs (present a b c es l r) h =
    let there = and_left (is_place (right_start lo hi) hi a b c) (fits (right_start lo hi) (mid (right_start lo hi) hi) l && fits (right_start (right_start lo hi) hi) hi r) h in
    ap (λ (m : ℕ). node_numbers kind m hi rows runs (tree_from (present a b c es l r))) (start_there lo hi (place_some (right_start lo hi) hi a b c there))

-- ── numbers one behind the other ──

-- a row in front of two parts
rows_joined : (t : List ℕ) (p q s : ℕ) (row xs ys : List ℕ) {t₁ t₂ t₃ : List ℕ} → t₁ ≡ sets t q xs → t₂ ≡ sets t₁ s ys → t₃ ≡ sets t₂ p row
    → q ≡ p + length row → s ≡ q + length xs → t₃ ≡ sets t p (row ++ (xs ++ ys))
rows_joined t p q s row xs ys a b c d e =
    c
    ∙ ap (λ (u : List ℕ). sets u p row)
    (b ∙ ap₂ (λ (u : List ℕ) (i : ℕ). sets u i ys) a e ∙ sym (sets-append t q xs ys) ∙ ap (λ (i : ℕ). sets t i (xs ++ ys)) d)
    ∙ sets_before t p row (xs ++ ys)

-- three parts
parts_joined : (t : List ℕ) (p q s : ℕ) (xs ys zs : List ℕ) {t₁ t₂ t₃ : List ℕ} → t₁ ≡ sets t p xs → t₂ ≡ sets t₁ q ys → t₃ ≡ sets t₂ s zs
    → q ≡ p + length xs → s ≡ q + length ys → t₃ ≡ sets t p (xs ++ (ys ++ zs))
parts_joined t p q s xs ys zs a b c d e =
    c
    ∙ ap₂ (λ (u : List ℕ) (i : ℕ). sets u i zs) b e
    ∙ sym (sets-append _ q ys zs)
    ∙ ap₂ (λ (u : List ℕ) (i : ℕ). sets u i (ys ++ zs)) a d
    ∙ sym (sets-append t p xs (ys ++ zs))

-- a row with its links and its count
row_same : (t : List ℕ) {p q : ℕ} → p ≡ q → (lo hi runs kind : ℕ) {x x' y y' c c' : ℕ} → x ≡ x' → y ≡ y' → c ≡ c'
    → sets t p (lo ∷ hi ∷ x ∷ y ∷ runs ∷ c ∷ kind ∷ 0 ∷ []) ≡ sets t q (lo ∷ hi ∷ x' ∷ y' ∷ runs ∷ c' ∷ kind ∷ 0 ∷ [])
row_same t e lo hi runs kind a b c = rw (e, a, b, c) refl

-- the entries of a node, then of its halves
entries_joined : (key : ℕ → ℕ) (xs ys zs : List ℕ) → entry_numbers key (xs ++ (ys ++ zs)) ≡ entry_numbers key xs ++ (entry_numbers key ys ++ entry_numbers key zs)
entries_joined key xs ys zs = entry_numbers_append key xs (ys ++ zs) ∙ ap (λ (l : List ℕ). entry_numbers key xs ++ l) (entry_numbers_append key ys zs)

-- ── answers ──

tree_same : {a b c d a' b' c' d' : ℕ} → a ≡ a' → b ≡ b' → c ≡ c' → d ≡ d' → filled a b c d ≡ filled a' b' c' d'
tree_same p q r s = rw (p, q, r, s) refl

pub tree_parts : {f : Filled} {a b c d : ℕ} → Some f ≡ filled a b c d → (f.root ≡ a) × (f.behind.rows ≡ b) × (f.behind.runs ≡ c) × (f.behind.at ≡ d)
tree_parts {f} {a} {b} {c} {d} e =
    let same : f ≡ record { root = a; behind = record { at = d; rows = b; runs = c } } = cc in
    rw same (refl, refl, refl, refl)

pub tree_not_wrong : {f : Filled} → Some f ≡ None → ⊥
tree_not_wrong e = cc

fits_parts : (lo hi a b c : ℕ) (es : List ℕ) (l r : Nodes) → fits lo hi (present a b c es l r) ≡ true
    → (fits lo (mid lo hi) l ≡ true) × (fits (right_start lo hi) hi r ≡ true)
unfolding fits
fits_parts lo hi a b c es l r h =
    let both = and_right (is_place lo hi a b c) (fits lo (mid lo hi) l && fits (right_start lo hi) hi r) h in
    (and_left (fits lo (mid lo hi) l) (fits (right_start lo hi) hi r) both, and_right (fits lo (mid lo hi) l) (fits (right_start lo hi) hi r) both)

fits_not : (lo hi a b c : ℕ) (es : List ℕ) (l r : Nodes) → is_place lo hi a b c ≡ false → fits lo hi (present a b c es l r) ≡ true → ⊥
unfolding fits
fits_not lo hi a b c es l r n h =
    true≢false (sym (and_left (is_place lo hi a b c) (fits lo (mid lo hi) l && fits (right_start lo hi) hi r) h) ∙ n)

-- a node in its place that does not fit has a half that does not
fits_unless : (lo hi a b c : ℕ) (es : List ℕ) (l r : Nodes) → is_place lo hi a b c ≡ true → fits lo hi (present a b c es l r) ≡ false
    → (fits lo (mid lo hi) l ≡ false → ⊥) → (fits lo (mid lo hi) l ≡ true → fits (right_start lo hi) hi r ≡ false → ⊥) → ⊥
unfolding fits
fits_unless lo hi a b c es l r p h f g =
    ⊎_elim
    (λ v. ⊎_elim (λ w. true≢false (sym (and_both (is_place lo hi a b c) _ p (and_both (fits lo (mid lo hi) l) _ v w)) ∙ h)) (λ w. g v w) (bool_cases (fits (right_start lo hi) hi r)))
    f
    (bool_cases (fits lo (mid lo hi) l))

-- ── no node, or not this one ──

module _ (blocks file : List ℕ) (kind lo hi at rows runs : ℕ) {nodes entries : List ℕ} where
  pub tree_wrong : None ≡ half_of lo hi at (read_head file at) → FilledTree blocks file kind lo hi at rows runs nodes entries nodes entries None
  tree_wrong e = record { right = λ x next read f. absurd (never x next read f); wrong = λ x next read f. refl; bound = λ q. absurd (tree_not_wrong (sym q)) }
    where
      never : (x : Nodes) (next : ℕ) → read_root file at ≡ got x next → fits lo hi x ≡ true → ⊥
      never x next read f =
          half_is_wrong lo hi at (read_head file at) e (λ i g. root_fault file at read g)
          (λ a b c es n g p. root_present file at read g (λ l r q a₁ a₂ is. fits_not lo hi a b c es l r p (rw (← is) at f)))

  pub tree_absent : {n : ℕ} → Some (half.Absent n) ≡ half_of lo hi at (read_head file at) → rows ≤ at → runs ≤ at
      → FilledTree blocks file kind lo hi at rows runs nodes entries nodes entries (filled 0 rows runs n)
  unfolding tree_from root_link node_count entry_count node_numbers entries_in entry_numbers fits
  tree_absent {n} e few low =
      record {
        right = λ x next read f.
            let is = root_absent file at read g in
            rw (is.0, is.1)
            (record { answered = tree_same refl (omega arith) (omega arith) refl; node_rows_lem = refl; entry_rows_lem = refl });
        wrong = λ x next read f. absurd (true≢false (rw (root_absent file at read g).0 at f));
        bound = λ q. let s = tree_parts (sym q) in (omega (arith, s.1, s.3, p.place), omega (arith, s.2, s.3, p.place));
      }
    where
      g : read_head file at ≡ got head_absent n
      g = half_is_absent lo hi at (read_head file at) e

      p : Passes file at 1 n
      p = head_passes file at g

-- ── a node ──

module _ (blocks file : List ℕ) (kind lo hi at rows runs : ℕ) {count q n : ℕ}
    (e : Some (half.Present count q n) ≡ half_of lo hi at (read_head file at)) where
  there : There lo hi at (read_head file at) count q n
  there = half_is_there lo hi at (read_head file at) e

  abbrev es : List ℕ
  es = there.entries

  some : lo < hi
  some = place_some lo hi there.low there.high there.middle there.stands

  passed : Passes file at (row_head + 8 * length es) n
  passed = head_passes file at there.read

  pub tree_room : rows ≤ at → runs ≤ at → (rows + 1 ≤ n) × (runs + count ≤ n) × (n ≤ length file) × (runs ≤ q) × (lo < hi)
  tree_room few low =
      let c = there.many in
      let b = there.behind in
      (omega (arith, passed.place), omega (arith, passed.place, c), passed.inside, omega (arith, b), some)

  module _ {m f : ℕ} (mid_is : lo < hi → m ≡ mid lo hi) (start_is : lo < hi → f ≡ right_start lo hi) {nodes entries entries₁ nodes₁ entries₂ : List ℕ}
      (filled-es : FilledEntries blocks file q runs count entries entries₁) {rl : Option Filled}
      (left : FilledTree blocks file kind lo m n (rows + 1) (runs + count) nodes entries₁ nodes₁ entries₂ rl) where
    left_is : FilledTree blocks file kind lo (mid lo hi) n (suc rows) (runs + length es) nodes entries₁ nodes₁ entries₂ rl
    left_is =
        let one : rows + 1 ≡ suc rows = omega arith in
        rw (mid_is some, one, ← there.many) at left

    entries_are : entries₁ ≡ sets entries (entry_place runs) (entry_numbers (first_cell_of blocks) es)
    entries_are =
        let c = there.many in
        let b = there.behind in
        let listed : numbers_at file q count ≡ es = ap₂ (numbers_at file) b (sym c) ∙ sym (head_entries file at there.read) in
        let room : q + 8 * count ≤ length file = omega (arith, passed.place, passed.inside) in
        filled-es.rows es (q + 8 * count) (many_got file q count room ∙ ap (λ (l : List ℕ). got l (q + 8 * count)) listed)

    pub tree_left_wrong : rl ≡ None → FilledTree blocks file kind lo hi at rows runs nodes entries nodes₁ entries₂ None
    tree_left_wrong w = record {
      right = λ x next read fx.
          root_present file at read there.read λ l r p a₁ a₂ is.
          let parts = fits_parts lo hi there.low there.high there.middle es l r (rw (← is) at fx) in
          absurd (tree_not_wrong (sym (left_is.right l p a₁ parts.0).answered ∙ w));
      wrong = λ x next read fx. refl;
      bound = λ z. absurd (tree_not_wrong (sym z));
    }

    module _ {lf : Filled} (tl : rl ≡ Some lf) {nodes₂ entries₃ : List ℕ} {rr : Option Filled}
        (right : FilledTree blocks file kind f hi lf.behind.at lf.behind.rows lf.behind.runs nodes₁ entries₂ nodes₂ entries₃ rr) where
      -- what is known of both where the left half fits
      module _ (l : Nodes) (p₁ : ℕ) (fl : TreeLeft blocks kind lo (mid lo hi) (suc rows) (runs + length es) (tree_from l) p₁ nodes entries₁ nodes₁ entries₂ rl) where
        left_answered : (lf.root ≡ root_link (suc rows) (tree_from l)) × (lf.behind.rows ≡ suc rows + node_count (tree_from l))
            × (lf.behind.runs ≡ runs + length es + entry_count (tree_from l)) × (lf.behind.at ≡ p₁)
        left_answered = tree_parts (sym tl ∙ fl.answered)

        right_is : FilledTree blocks file kind (right_start lo hi) hi p₁ (suc rows + node_count (tree_from l)) (runs + length es + entry_count (tree_from l))
            nodes₁ entries₂ nodes₂ entries₃ rr
        right_is =
            let s = left_answered in
            rw (start_is some, s.1, s.2, s.3) at right

      pub tree_right_wrong : rr ≡ None → FilledTree blocks file kind lo hi at rows runs nodes entries nodes₂ entries₃ None
      tree_right_wrong w = record {
        right = λ y next read fy.
            root_present file at read there.read λ l r p₁ a₁ a₂ is.
            let parts = fits_parts lo hi there.low there.high there.middle es l r (rw (← is) at fy) in
            let fl = left_is.right l p₁ a₁ parts.0 in
            absurd (tree_not_wrong (sym ((right_is l p₁ fl).right r next a₂ parts.1).answered ∙ w));
        wrong = λ y next read fy. refl;
        bound = λ z. absurd (tree_not_wrong (sym z));
      }

      module _ {rf : Filled} (tr : rr ≡ Some rf) {nodes₃ : List ℕ}
          (put : nodes₃ ≡ sets nodes₂ (row_width * (rows + 1) + 0) (lo ∷ hi ∷ lf.root ∷ rf.root ∷ runs ∷ count ∷ kind ∷ 0 ∷ [])) where
        -- both halves fit
        both : (l r : Nodes) (p₁ next : ℕ) → read_root file p₁ ≡ got r next → fits (right_start lo hi) hi r ≡ true
            → TreeLeft blocks kind lo (mid lo hi) (suc rows) (runs + length es) (tree_from l) p₁ nodes entries₁ nodes₁ entries₂ rl
            → TreeLeft blocks kind lo hi rows runs (node es (tree_from l) (tree_from r)) next nodes entries nodes₃ entries₃ (filled (rows + 1) rf.behind.rows rf.behind.runs rf.behind.at)
        unfolding root_link node_count entry_count node_numbers entries_in
        both l r p₁ next read fr fl =
            let L = tree_from l in
            let R = tree_from r in
            let rt = (right_is l p₁ fl).right r next read fr in
            let ls = left_answered l p₁ fl in
            let rs = tree_parts (sym tr ∙ rt.answered) in
            let key = first_cell_of blocks in
            let one : rows + 1 ≡ suc rows = omega arith in
            let a = node_numbers kind lo (mid lo hi) (suc rows) (runs + length es) L in
            let b = node_numbers kind (mid lo hi) hi (suc rows + node_count L) (runs + length es + entry_count L) R in
            let rights : nodes₂ ≡ sets nodes₁ (row_width * suc (suc rows + node_count L)) b =
            rt.node_rows_lem ∙ ap (λ (u : List ℕ). sets nodes₁ (row_width * suc (suc rows + node_count L)) u) (right_numbers kind lo hi (suc rows + node_count L) (runs + length es + entry_count L) r fr) in
            let row : nodes₃ ≡ sets nodes₂ (row_width * suc rows) (lo ∷ hi ∷ root_link (suc rows) L ∷ root_link (suc rows + node_count L) R ∷ runs ∷ length es ∷ kind ∷ 0 ∷ []) =
            put ∙ row_same nodes₂ (omega arith) lo hi runs kind ls.0 rs.0 (sym there.many) in
            let long : length a ≡ row_width * node_count L = node_numbers_length kind lo (mid lo hi) (suc rows) (runs + length es) L in
            let more : length (entry_numbers key es) ≡ entry_width * length es = entry_numbers_length key es in
            let mores : length (entry_numbers key (entries_in L)) ≡ entry_width * length (entries_in L) = entry_numbers_length key (entries_in L) in
            let listed : length (entries_in L) ≡ entry_count L = sym (entry_count_in L) in
            let all : entries₃ ≡ sets entries (entry_place runs) (entry_numbers key es ++ (entry_numbers key (entries_in L) ++ entry_numbers key (entries_in R))) =
            parts_joined entries (entry_place runs) (entry_place (runs + length es)) (entry_place (runs + length es + entry_count L)) (entry_numbers key es)
            (entry_numbers key (entries_in L)) (entry_numbers key (entries_in R)) entries_are fl.entry_rows_lem rt.entry_rows_lem (omega arith) (omega arith) in
            record {
              answered = tree_same one (omega (arith, rs.1)) (omega (arith, rs.2)) rs.3;
              node_rows_lem =
                  rows_joined nodes (row_width * suc rows) (row_width * suc (suc rows)) (row_width * suc (suc rows + node_count L))
                  (lo ∷ hi ∷ root_link (suc rows) L ∷ root_link (suc rows + node_count L) R ∷ runs ∷ length es ∷ kind ∷ 0 ∷ []) a b fl.node_rows_lem rights row
                  (omega arith) (omega arith);
              entry_rows_lem = all ∙ ap (λ (u : List ℕ). sets entries (entry_place runs) u) (sym (entries_joined key es (entries_in L) (entries_in R)));
            }

        pub tree_both : FilledTree blocks file kind lo hi at rows runs nodes entries nodes₃ entries₃ (filled (rows + 1) rf.behind.rows rf.behind.runs rf.behind.at)
        unfolding tree_from
        tree_both = record {
          right = λ z next read fz.
              root_present file at read there.read λ l r p₁ a₁ a₂ is.
              let parts = fits_parts lo hi there.low there.high there.middle es l r (rw (← is) at fz) in
              rw (← is) (both l r p₁ next a₂ parts.1 (left_is.right l p₁ a₁ parts.0));
          wrong = λ z next read fz. absurd (never z next read fz);
          bound = λ w.
              let s = tree_parts (sym w) in
              let b = right.bound tr in
              (omega (arith, s.1, s.3, b.0), omega (arith, s.2, s.3, b.1));
        }
          where
            never : (z : Nodes) (next : ℕ) → read_root file at ≡ got z next → fits lo hi z ≡ false → ⊥
            never z next read fz =
                root_present file at read there.read λ l r p₁ a₁ a₂ is.
                fits_unless lo hi there.low there.high there.middle es l r there.stands (rw (← is) at fz)
                (λ w. tree_not_wrong (sym tl ∙ left_is.wrong l p₁ a₁ w))
                (λ v w. tree_not_wrong (sym tr ∙ (right_is l p₁ (left_is.right l p₁ a₁ v)).wrong r next a₂ w))

-- both halves of an interval are narrower
pub half_narrower : (lo hi : ℕ) → lo < hi → (mid lo hi - lo < hi - lo) × (hi - right_start lo hi < hi - lo)
unfolding right_start
half_narrower lo hi h = (
  omega arith,
  ⊎_elim (λ w. rw (lt-ltb (lo + 1) hi w) (omega arith)) (λ w. rw (le-ltb (lo + 1) hi w) (omega arith)) (lt_or_le (lo + 1) hi),
)
