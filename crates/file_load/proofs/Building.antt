-- The second pass and the tests behind it: one step for each return of `put_head` and `build`. Assumes nothing.
use mathlib.Core.Path.{◌≡◌, refl, sym, ap, ◌∙◌}
use mathlib.Core.Logic.{inl, inr, ⊎_elim}
use mathlib.Core.Bool.{Bool, true, false, cond}
use mathlib.Core.List.{List, [], ◌∷◌, ◌++◌}
use Prim.Native.Nat.{ℕ, ◌+◌, ◌*◌, ◌%◌, ◌≤◌, ◌<◌}
use native.Mathlib.Omega.{arith}
use lib.ListN.{length, replicate, length-replicate}
use lib.Seq.{sets}
use Rattle.lists.specs.Lists.{all_nil, all_cons}
use Rattle.std.specs.Prelude.{Option, Some, None, Err, ok_or}
use Rattle.refusals.specs.declared.Refusal.{Refusal}
use Rattle.refusals.specs.declared.Refusal.TheVariants.{FileTree}
use Rattle.refusals.specs.Numbers.{number_of}
use Rattle.lists.proofs.Stores.{sets-append}
use Rattle.lists.proofs.Numbers.{bool_cases, lt_or_le}
use Rattle.history.specs.Lent.{row_width}
use Rattle.history.specs.Refusals.{Answer, accepted, refused}
use Rattle.history.specs.Words.{Block}
use Rattle.history.specs.Tree.{Tree}
use Rattle.history.specs.Rules.{rule23, apart}
use Rattle.history.specs.File.{File, tree_from, end_of, rule20, rule21, rule22}
use Rattle.history.proofs.FileRules.{Rule20, rule20_decides, rule21_decides, rule22_decides}
use Rattle.tables.specs.Columns.{block_base}
use Rattle.segment_test.specs.Test.{lent}
use Rattle.file_fill.specs.Fill.{ZerosFirst, FilledBlocks, FilledNodes}
use Rattle.layout.specs.Tables.{tables, lengths_of}
use Rattle.layout.specs.Encodes.{closed_state}
use Rattle.layout.specs.Rows.{head_numbers}
use Rattle.layout.specs.Files.{loaded_head}
use Rattle.file_load.specs.Load.{judgement, Judged, HeadPut, verdict, PartsAt, Built}
use Rattle.kind_mask.specs.Masks.{mask_of, MaskGiven}
use Rattle.file_load.proofs.OneKind.{blocks_read}
use Rattle.file_load.proofs.Standing.{Filled, judged_is, loaded}

-- ── the head ──

-- zeros from the start on, and a list behind them, are one list
zeros_before : (n : ℕ) (l xs : List ℕ) → sets (sets l 0 (replicate n 0)) n xs ≡ sets l 0 (replicate n 0 ++ xs)
zeros_before n l xs = sym (sets-append l 0 (replicate n 0) xs ∙ ap (λ (k : ℕ). sets (sets l 0 (replicate n 0)) k xs) (let z = length-replicate {A = ℕ} n 0 in omega arith))

-- the mask of one kind, as a byte
one_mask : {kind mask : ℕ} → kind ≤ 4 → MaskGiven (kind % 256 ∷ []) mask → mask ≡ mask_of (kind ∷ [])
one_mask {kind} {mask} low given =
    let byte : kind % 256 ≡ kind = omega arith in
    let m : MaskGiven (kind ∷ []) mask = rw byte at given in
    (m.some (λ z. m.none z (record { some_kind = omega arith; known = all_cons low all_nil }))).1

pub head_put : {blocks b₁ b₂ : List ℕ} {e kind mask n used : ℕ} → ZerosFirst blocks b₁ block_base → MaskGiven (kind % 256 ∷ []) mask
    → b₂ ≡ sets b₁ (row_width * 0 + block_base) (head_numbers closed_state e mask n used 0) → HeadPut blocks b₂ e kind n used
unfolding loaded_head
head_put {blocks} {b₁} {b₂} {e} {kind} {mask} {n} {used} cleared is wrote = record {
  is = λ low.
      let row : List ℕ = head_numbers closed_state e (mask_of (kind ∷ [])) n used 0 in
      (rw (one_mask low is) at wrote) ∙ ap (λ (l : List ℕ). sets l block_base row) cleared.is ∙ zeros_before block_base blocks row;
}

-- ── the verdict ──

-- the first broken rule of four, by their outcomes
abbrev first_broken : (a b c d : Bool) → Answer (Unit {0})
first_broken a b c d = cond a (cond b (cond c (cond d (accepted tt) (refused 24)) (refused 23)) (refused 22)) (refused 21)

none_broken : (a b c d : Bool) → first_broken a b c d ≡ accepted tt → (a ≡ true) × (b ≡ true) × (c ≡ true) × (d ≡ true)
none_broken true true true true e = (refl, refl, refl, refl)
none_broken true true true false e = absurd (cc)
none_broken true true false d e = absurd (cc)
none_broken true false c d e = absurd (cc)
none_broken false b c d e = absurd (cc)

module _ (f : File) where
  abbrev E : ℕ
  E = end_of f.nodes

  abbrev T : Tree
  T = tree_from f.nodes

  pub verdict-none : verdict f ≡ accepted tt
      → (rule21 f.nodes ≡ true) × (rule22 E f.blocks ≡ true) × (rule23 E f.blocks T ≡ true) × (apart f.blocks ≡ true)
  unfolding verdict judgement
  verdict-none e = none_broken (rule21 f.nodes) (rule22 E f.blocks) (rule23 E f.blocks T) (apart f.blocks) e

  -- by the outcomes
  pub verdict_by : {a b c d : Bool} → rule21 f.nodes ≡ a → rule22 E f.blocks ≡ b → rule23 E f.blocks T ≡ c → apart f.blocks ≡ d
      → verdict f ≡ first_broken a b c d
  unfolding verdict judgement
  verdict_by p q r s = λ i. first_broken (p i) (q i) (r i) (s i)

  verdict_21 : rule21 f.nodes ≡ false → verdict f ≡ refused 21
  unfolding verdict
  verdict_21 e = rw e refl

  verdict_rest : rule21 f.nodes ≡ true → verdict f ≡ judgement E f.blocks T
  unfolding verdict
  verdict_rest e = rw e refl

no_block_lem : (e : ℕ) (bs : List Block) (T : Tree) → length bs ≡ 0 → judgement e bs T ≡ refused 22
unfolding judgement rule22
no_block_lem e [] T h = refl
no_block_lem e (b ∷ bs) T h = absurd (omega arith)

-- ── the returns of `build` ──

halves_is : (o : Option ℕ) {f : Refusal} → Err f ≡ ok_or o FileTree → (o ≡ None) × (f ≡ FileTree)
halves_is None e = (refl, cc)
halves_is (Some x) e = absurd (cc)

module _ (file : List ℕ) (kind n used start root : ℕ) {blocks store nodes entries b₁ store' nodes' entries' : List ℕ} (o : Option ℕ)
    (filled_blocks : FilledBlocks file kind n start blocks store b₁ store')
    (filled-nodes : FilledNodes b₁ file kind root nodes entries nodes' entries' o) where
  -- 21
  pub build_halves : {i : Refusal} → Err i ≡ ok_or o FileTree → Built file kind n used start root blocks store nodes entries b₁ store' nodes' entries' (refused (number_of i))
  build_halves z =
      let (none, broken) = halves_is o z in
      rw broken
      (record {
        answered = λ f pieces r room. sym (is none f r);
        stands = λ f pieces r room v. absurd (let w = sym (is none f r) ∙ v in cc);
      })
    where
      is : o ≡ None → (f : File) → PartsAt file kind n used start root f → verdict f ≡ refused 21
      is none f r =
          ⊎_elim
          (λ y. let ends = sym none ∙ (filled-nodes.right f.nodes r.nodes_end r.nodes y).ends in absurd (cc))
          (λ y. verdict_21 f y) (bool_cases (rule21 f.nodes))

  module _ {e : ℕ} (some_end : o ≡ Some e) {b₂ : List ℕ}
      (head : HeadPut b₁ b₂ e kind n used)
      {r : Answer (Unit {0})} (judged : Judged (lent b₂ nodes' entries') e n r) where
    keeps_21 : (f : File) → PartsAt file kind n used start root f → rule21 f.nodes ≡ true
    keeps_21 f q =
        ⊎_elim (λ y. y) (λ y. let ends = sym some_end ∙ filled-nodes.wrong f.nodes q.nodes_end q.nodes y in absurd (cc)) (bool_cases (rule21 f.nodes))

    filled : (f : File) (pieces : List ℕ) → PartsAt file kind n used start root f → rule20 (lengths_of (tables pieces blocks store nodes entries)) f ≡ true
        → Filled f kind n used e blocks store nodes entries b₁ b₂ store' nodes' entries'
    filled f pieces q room =
        let r20 : Rule20 (lengths_of (tables pieces blocks store nodes entries)) f = (rule20_decides (lengths_of (tables pieces blocks store nodes entries)) f).yes room in
        record {
          rows_are = filled_blocks.rows f.blocks root q.blocks;
          bytes_are = filled_blocks.bytes f.blocks root q.blocks;
          tree_is = rw some_end at (filled-nodes.right f.nodes q.nodes_end q.nodes (keeps_21 f q));
          head_is = head.is q.known_kind;
          count = q.count;
          bytes = q.bytes;
          own_kind = q.own_kind;
          known_kind = q.known_kind;
          block_room = r20.blocks;
          node_room = r20.nodes;
          entry_room = r20.entries;
          byte_room = r20.bytes;
          rule_21 = (rule21_decides f.nodes).yes (keeps_21 f q);
          read_as = rw q.own_kind at (blocks_read kind n file start q.blocks);
        }

    -- 22 to 24, or none
    pub build_judged : Built file kind n used start root blocks store nodes entries b₂ store' nodes' entries' r
    build_judged = record {
      answered = λ f pieces q room. elim (lt_or_le 0 n) [
        | inl some ↦ judged_is (filled f pieces q room) some judged ∙ sym (verdict_rest f (keeps_21 f q))
        | inr none ↦
            judged.none (omega arith)
            ∙ sym (verdict_rest f (keeps_21 f q) ∙ no_block_lem (end_of f.nodes) f.blocks (tree_from f.nodes) (omega (arith, q.count)))
      ];
      stands = λ f pieces q room v.
          let held = verdict-none f v in
          let some : 0 < n = omega (arith, ((rule22_decides (end_of f.nodes) f.blocks).yes held.1).some_block, q.count) in
          loaded (filled f pieces q room) some pieces held.1 held.2;
    }
