-- The tests of rules 22 to 24: one step for each turn and each return. Assumes nothing.
use mathlib.Core.Path.{◌≡◌, refl, sym, ◌∙◌, ap}
use mathlib.Core.Logic.{inl, inr, ⊎_elim}
use mathlib.Core.Bool.{Bool, true, false, ◌&&◌, true≢false}
use mathlib.Core.List.{List, []}
use Prim.Native.Nat.{ℕ, zero, suc, ◌+◌, ◌-◌, ◌*◌, ◌≤◌, ◌<◌}
use native.Mathlib.Omega.{arith}
use lib.Dec.{ltb}
use lib.ListN.{length, get_or}
use borrow.Author.Tests.{lt-ltb, le-ltb}
use Rattle.lists.specs.Tests.{Decides}
use Rattle.lists.specs.Lists.{All}
use Rattle.lists.proofs.Lists.{all_of_map, all_of_at, all_at}
use Rattle.lists.proofs.Numbers.{bool_cases, lt_or_le, and_right, and_both, decided, decides_iff, decides_same}
use Rattle.lists.proofs.Counting.{all_count_from}
use Rattle.history.specs.Lent.{row_width, block_head, entry_head}
use Rattle.history.specs.Refusals.{accepted, refused}
use Rattle.history.specs.Words.{Block, line_of, cell_place, size}
use Rattle.history.specs.Tree.{Tree, no_block, block_at}
use Rattle.history.specs.Rules.{every, filled, lived, rule23, apart}
use Rattle.history.specs.File.{rule22, trees_with}
use Rattle.history.proofs.RulesLaws.{every_decides, apart_decides}
use Rattle.history.proofs.FileRules.{rule22_decides, LivingBlock}
use Rattle.block_table.specs.Blocks.{owner_at, first_cell_at, length_at, block_of_row, blocks_of, Stored}
use Rattle.block_table.proofs.Blocks.{blocks_length, blocks_at, blocks_key, bytes_length}
use Rattle.segment_table.specs.Closed as closed
use Rattle.segment_test.specs.Test.{BlockRows, ClosedTrees}
use Rattle.segment_test.proofs.ClosedTrees.{tested_rule_23}
use Rattle.segment_apart.specs.Apart.{Bounded, AllBounded, ClosedApart}
use Rattle.segment_apart.proofs.Agreeing.{closed_decides}
use Rattle.file_load.specs.Load.{lives_at, TestedLives, judgement, Ready, Judged}
use Rattle.file_load.proofs.OneKind.{roots_one, rules_one, one_rules}

-- ── rule 22 over rows ──

abbrev test : (end : ℕ) → Block → Bool
test end b = filled b && lived end b

module _ (store blocks : List ℕ) (n end : ℕ) (stored : Stored (length store) blocks n) where
  -- a row's test is its block's
  row_test : (link : ℕ) → 0 < link → link ≤ n → test end (block_of_row store blocks link) ≡ lives_at blocks link end
  unfolding lives_at block_of_row filled lived
  row_test link p q =
      let cell : cell_place (owner_at blocks link) (first_cell_at blocks link) - line_of (owner_at blocks link) ≡ first_cell_at blocks link = omega arith in
      rw (cell, bytes_length store blocks link (stored.inside link p q)) refl

  itself : (b : Block) → Decides (test end b) (test end b ≡ true)
  itself b = record { yes = λ e. e; not = λ e h. true≢false (sym h ∙ e) }

  all_tested : ((j : ℕ) → 0 < j → j ≤ n → lives_at blocks j end ≡ true) → every (test end) (blocks_of store blocks n) ≡ true
  unfolding blocks_of
  all_tested f =
      decided (every (test end) (blocks_of store blocks n)) (every_decides (test end) itself (blocks_of store blocks n))
      (all_of_map (block_of_row store blocks) (all_count_from 1 n (λ k a b. row_test k (omega arith) (omega arith) ∙ f k (omega arith) (omega arith))))

  one_tested : every (test end) (blocks_of store blocks n) ≡ true → (k : ℕ) → k < n → lives_at blocks (suc k) end ≡ true
  one_tested e k h =
      let all = (every_decides (test end) itself (blocks_of store blocks n)).yes e in
      let at : test end (get_or (blocks_of store blocks n) k no_block) ≡ true = all_at no_block all k (rw (blocks_length store blocks n) h) in
      sym (row_test (suc k) (omega arith) (omega arith)) ∙ ap (test end) (sym (blocks_at store blocks n k no_block h)) ∙ at

  rule_all : 0 < n → ((j : ℕ) → 0 < j → j ≤ n → lives_at blocks j end ≡ true) → true ≡ rule22 end (blocks_of store blocks n)
  unfolding rule22
  rule_all some f =
      sym
      (and_both (ltb 0 (length (blocks_of store blocks n))) (every (test end) (blocks_of store blocks n))
      (lt-ltb 0 (length (blocks_of store blocks n)) (rw (blocks_length store blocks n) some)) (all_tested f))

  rule_none : n ≡ 0 → false ≡ rule22 end (blocks_of store blocks n)
  unfolding rule22
  rule_none z = rw (le-ltb 0 (length (blocks_of store blocks n)) (rw (blocks_length store blocks n) (omega arith))) refl

  rule_not : (k : ℕ) → k < n → lives_at blocks (suc k) end ≡ false → false ≡ rule22 end (blocks_of store blocks n)
  unfolding rule22
  rule_not k h e =
      ⊎_elim
      (λ y.
      absurd
      (true≢false
      (sym (one_tested (and_right (ltb 0 (length (blocks_of store blocks n))) (every (test end) (blocks_of store blocks n)) y) k h) ∙ e)))
      (λ y. sym y) (bool_cases (rule22 end (blocks_of store blocks n)))

-- the blocks of links up to k live
pub record SoFar (blocks : List ℕ) (end k : ℕ) : Type 0 where
  pub live : (j : ℕ) → 0 < j → j ≤ k → lives_at blocks j end ≡ true

module _ (blocks : List ℕ) (n end : ℕ) where
  pub live_start : SoFar blocks end 0
  live_start = record { live = λ j a b. absurd (omega arith) }

  module _ {k : ℕ} (s : SoFar blocks end k) where
    pub live-not : false ≡ lives_at blocks (k + 1) end → k < n → TestedLives blocks n end false
    live-not t h =
        let one : k + 1 ≡ suc k = omega arith in
        record { is = λ store q. rule_not store blocks n end q k h (ap (λ (x : ℕ). lives_at blocks x end) (sym one) ∙ sym t) }

    pub live_turn : true ≡ lives_at blocks (k + 1) end → SoFar blocks end (k + 1)
    live_turn t = record {
      live = λ j a b.
          ⊎_elim (λ h. s.live j a (omega arith))
          (λ h. let z : j ≡ k + 1 = omega arith in ap (λ (x : ℕ). lives_at blocks x end) z ∙ sym t) (lt_or_le j (k + 1));
    }

    pub live_all : n ≤ k → TestedLives blocks n end (ltb 0 n)
    live_all h = elim (lt_or_le 0 n) [
      | inl some ↦ rw (lt-ltb 0 n some) (record { is = λ store q. rule_all store blocks n end q some (λ j a b. s.live j a (omega arith)) })
      | inr none ↦ rw (le-ltb 0 n none) (record { is = λ store q. rule_none store blocks n end q (omega arith) })
    ]

pub ruleset lasting = (live_start, live-not, live_turn, live_all)

-- ── the returns of `judge` ──

module _ (t : closed.Tables) (end n : ℕ) {live : Bool} (lives : TestedLives t.blocks n end live) where
  abbrev bs : List ℕ → List Block
  bs store = blocks_of store t.blocks n

  pub judge_blocks : live ≡ false → Judged t end n (refused 22)
  unfolding judgement
  judge_blocks e = record { is = λ kind store tree q. rw (← (lives.is store q.stored), e) refl; none = λ z. refl }

  module _ (all : live ≡ true) {stands : Bool}
      (tested : (bs : List Block) → BlockRows t.blocks n bs → Decides stands (ClosedTrees t end bs)) where
    rule : (store : List ℕ) → Stored (length store) t.blocks n → rule22 end (bs store) ≡ true
    rule store q = sym (lives.is store q) ∙ all

    -- there is some
    never_none : n ≡ 0 → ⊥
    never_none z =
        let q : Stored 0 t.blocks n = record { inside = λ link a b. absurd (omega arith) } in
        let some = ((rule22_decides end (bs [])).yes (rule [] q)).some_block in
        omega (arith, blocks_length [] t.blocks n)

    module _ (kind : ℕ) (store : List ℕ) (tree : Tree) (q : Ready t kind end n store tree) where
      row_at_lem : (k : ℕ) → k < n → block_at (bs store) k ≡ block_of_row store t.blocks (suc k)
      row_at_lem k h = blocks_at store t.blocks n k no_block h

      rows : BlockRows t.blocks n (bs store)
      unfolding block_of_row
      rows = record {
        many = blocks_length store t.blocks n;
        kinds = λ k h. ap (λ (b : Block). b.kind) (row_at_lem k h);
        known = λ k h. omega (arith, q.owners (suc k) (omega arith) h, q.known_kind);
        first = λ k h. blocks_key store t.blocks n k h;
        created = λ k h. ap (λ (b : Block). b.created) (row_at_lem k h);
        destroyed = λ k h. ap (λ (b : Block). b.destroyed) (row_at_lem k h);
      }

      one_kind : All (λ (b : Block). b.kind ≡ kind) (bs store)
      unfolding block_of_row
      one_kind =
          all_of_at no_block (bs store)
          (λ i h. let below : i < n = rw (blocks_length store t.blocks n) at h in ap (λ (b : Block). b.kind) (row_at_lem i below) ∙ q.owners (suc i) (omega arith) below)

      some : 0 < length (bs store)
      some = ((rule22_decides end (bs store)).yes (rule store q.stored)).some_block

      -- the test of the trees is rule 23
      rule_23 : rule23 end (bs store) tree ≡ stands
      rule_23 = elim (lt_or_le (length t.entries) entry_head) [
        | inl short ↦
            q.headless short (rule store q.stored)
            ∙ sym (never stands (λ y. omega (arith, ((tested (bs store) rows).yes y).entry_room)))
        | inr long ↦
            let room : block_head + row_width * length (bs store) ≤ length t.blocks = rw (blocks_length store t.blocks n) q.room in
            let trial = tested_rule_23 t end (bs store) (trees_with kind tree) room (q.inside long) (q.holds long)
            (λ k low. roots_one kind end tree one_kind q.known_kind some q.rooted k (omega arith)) (tested (bs store) rows) in
            same (rule23 end (bs store) tree) stands
            (decides_iff stands (λ each. one_rules kind end tree one_kind q.known_kind (λ k low. each k (omega arith)))
            (λ own k low. rules_one kind end tree one_kind q.known_kind own k (omega arith)) trial)
      ]
        where
          never : (x : Bool) → (x ≡ true → ⊥) → x ≡ false
          never true f = absurd (f refl)
          never false f = refl

          same : (x y : Bool) → Decides y (x ≡ true) → x ≡ y
          same true true d = refl
          same true false d = absurd (d.not refl refl)
          same false true d = d.yes refl
          same false false d = refl

      -- no row is empty, wraps or lives past the end
      bounded : AllBounded t.blocks end n
      unfolding block_of_row
      bounded = record { rows = one }
        where
          one : (link : ℕ) → 0 < link → link ≤ n → Bounded t.blocks end link
          one zero a b = absurd (omega arith)
          one (suc k) a b =
              let row : Block = block_of_row store t.blocks (suc k) in
              let living : LivingBlock end row =
              rw (row_at_lem k b) at (all_at no_block ((rule22_decides end (bs store)).yes (rule store q.stored)).blocks k (rw (blocks_length store t.blocks n) b)) in
              let long : size row.stretch ≡ length_at t.blocks (suc k) = bytes_length store t.blocks (suc k) (q.stored.inside (suc k) a b) in
              record { some_cell = omega (arith, living.some_cell); no_wrap = omega (arith, living.no_wrap); by_end = living.by_end }

      rule_24 : stands ≡ true → {clear : Bool} → ClosedApart t end n clear → apart (bs store) ≡ clear
      rule_24 whole {clear} apart-is =
          decides_same (apart (bs store)) clear (apart_decides (bs store))
          (closed_decides t end n store apart-is rows ((tested (bs store) rows).yes whole) bounded q.stored)

    pub judge_entries : stands ≡ false → Judged t end n (refused 23)
    unfolding judgement
    judge_entries e = record {
      is = λ kind store tree q. rw (rule store q.stored, rule_23 kind store tree q, e) refl;
      none = λ z. absurd (never_none z);
    }

    module _ (whole : stands ≡ true) {clear : Bool} (apart-is : ClosedApart t end n clear) where
      pub judge_shared : clear ≡ false → Judged t end n (refused 24)
      unfolding judgement
      judge_shared e = record {
        is = λ kind store tree q.
            rw (rule store q.stored, rule_23 kind store tree q, whole, rule_24 kind store tree q whole apart-is, e) refl;
        none = λ z. absurd (never_none z);
      }

      pub judge_none : clear ≡ true → Judged t end n (accepted tt)
      unfolding judgement
      judge_none e = record {
        is = λ kind store tree q.
            rw (rule store q.stored, rule_23 kind store tree q, whole, rule_24 kind store tree q whole apart-is, e) refl;
        none = λ z. absurd (never_none z);
      }

pub ruleset judging = (judge_blocks, judge_entries, judge_shared, judge_none)
