-- The whole tree with the heads: one step for each return of `fill_nodes`. Assumes nothing.
use mathlib.Core.Path.{◌≡◌, refl, sym, ◌∙◌, ap, ap₂}
use mathlib.Core.Logic.{⊎_elim}
use mathlib.Core.Bool.{true, cond, ◌&&◌}
use mathlib.Core.List.{List, [], ◌∷◌, ◌++◌}
use Prim.Native.Nat.{ℕ, ◌+◌, ◌*◌, ◌^◌, ◌≤◌, ◌<◌}
use native.Mathlib.Omega.{arith}
use lib.Dec.{leb, ltb}
use lib.Seq.{sets}
use borrow.Author.Tests.{le-leb, lt-ltb, ltb-true, leb-true}
use Rattle.lists.proofs.Stores.{sets_before}
use Rattle.lists.proofs.Numbers.{and_left, and_right, bool_cases}
use Rattle.history.specs.Lent.{row_width}
use Rattle.history.specs.Tree.{node_count, entry_count, entries_in}
use Rattle.history.specs.File.{Nodes, Read, got, fault, read_root, tree_from, end_of, rule21}
use Rattle.history.proofs.FileRules.{Rule21, rule21_decides}
use Rattle.file_scan.specs.Rows.{Head, head_absent, head_present, read_head}
use Rattle.file_fill.specs.declared.nodes.Filled.{Filled}
use Rattle.std.specs.Prelude.{Option, Some, None}
use Rattle.layout.specs.Rows.{entry_numbers, node_numbers, node_head_numbers, entry_head_numbers}
use Rattle.file_fill.specs.Fill.{fits, root_end, first_cell_of, TreeLeft, FilledTree, NodesLeft, FilledNodes}
use Rattle.file_fill.proofs.Ruling.{rule21-fits}
use Rattle.file_fill.proofs.FillingTrees.{root_absent, root_present, root_fault, tree_parts, tree_not_wrong}

-- ── the end ──

-- the root's max, if it is in range
end_read : (file : List ℕ) (at : ℕ) {t : Nodes} {next : ℕ} → read_root file at ≡ got t next
    → (o : Read Head) → read_head file at ≡ o → root_end o ≡ cond (ltb 0 (end_of t) && leb (end_of t) (2 ^ 63)) (Some (end_of t)) None
unfolding root_end
end_read file at read (got head_absent n) is = rw (root_absent file at read is).0 refl
end_read file at read (got (head_present a b c es) n) is = root_present file at read is λ l r p e₁ e₂ same. rw (← same) refl
end_read file at read (fault i) is = absurd (root_fault file at read is)

pub record InRange (e : ℕ) (t : Nodes) : Type 0 where
  pub is : end_of t ≡ e
  pub some : 0 < end_of t
  pub most : end_of t ≤ 2 ^ 63

module _ (file : List ℕ) (at : ℕ) {t : Nodes} {next : ℕ} (read : read_root file at ≡ got t next) where
  end_out : None ≡ root_end (read_head file at) → rule21 t ≡ true → ⊥
  end_out ends h =
      let r : Rule21 t = (rule21_decides t).yes h in
      let is : None ≡ Some (end_of t) =
      ends ∙ end_read file at read (read_head file at) refl ∙ rw (lt-ltb 0 (end_of t) r.some_tick, le-leb (end_of t) (2 ^ 63) r.end_most) refl in
      cc

  module _ {e : ℕ} (ends : Some e ≡ root_end (read_head file at)) where
    end_in_lem : InRange e t
    end_in_lem =
        let z = ends ∙ end_read file at read (read_head file at) refl in
        ⊎_elim
        (λ p.
        let w = rw p at z in
        record {
          is = cc;
          some = ltb-true 0 (end_of t) (and_left (ltb 0 (end_of t)) (leb (end_of t) (2 ^ 63)) p);
          most = leb-true (end_of t) (2 ^ 63) (and_right (ltb 0 (end_of t)) (leb (end_of t) (2 ^ 63)) p);
        })
        (λ p. absurd (let w = rw p at z in cc))
        (bool_cases (ltb 0 (end_of t) && leb (end_of t) (2 ^ 63)))

    -- rule 21 is what is tested on the way down
    end_fits : rule21 t ≡ fits 0 e t
    end_fits =
        let i = end_in_lem in
        rule21-fits t i.some i.most ∙ ap (λ (x : ℕ). fits 0 x t) i.is

-- ── the returns of `fill_nodes` ──

module _ (blocks file : List ℕ) (kind at : ℕ) {nodes entries : List ℕ} where
  pub nodes_no_end : None ≡ root_end (read_head file at) → FilledNodes blocks file kind at nodes entries nodes entries None
  nodes_no_end ends = record { right = λ t next read h. absurd (end_out file at read ends h); wrong = λ t next read h. refl }

  module _ {e : ℕ} (ends : Some e ≡ root_end (read_head file at)) {nodes₁ entries₁ : List ℕ} {r : Option Filled} (tree : FilledTree blocks file kind 0 e at 0 0 nodes entries nodes₁ entries₁ r) where
    pub nodes_wrong : r ≡ None → FilledNodes blocks file kind at nodes entries nodes₁ entries₁ None
    nodes_wrong w = record {
      right = λ t next read h.
          absurd (tree_not_wrong (sym (tree.right t next read (sym (end_fits file at read ends) ∙ h)).answered ∙ w));
      wrong = λ t next read h. refl;
    }

    module _ {f : Filled} (is : r ≡ Some f) {nodes₂ entries₂ : List ℕ}
        (node_head_lem : nodes₂ ≡ sets nodes₁ 0 (node_head_numbers kind f.behind.rows))
        (entry_head_lem : entries₂ ≡ sets entries₁ (row_width * 0 + 0) (f.behind.runs ∷ 0 ∷ 0 ∷ 0 ∷ 0 ∷ 0 ∷ 0 ∷ 0 ∷ [])) where
      left : (t : Nodes) (next : ℕ) → InRange e t → TreeLeft blocks kind 0 e 0 0 (tree_from t) next nodes entries nodes₁ entries₁ r
          → NodesLeft blocks kind t nodes entries nodes₂ entries₂ (Some e)
      left t next i l =
          let T = tree_from t in
          let s = tree_parts (sym is ∙ l.answered) in
          let many : f.behind.rows ≡ node_count T = omega (arith, s.1) in
          let all : f.behind.runs ≡ entry_count T = omega (arith, s.2) in
          record {
            ends = ap Some (sym i.is);
            node_rows_lem =
                node_head_lem
                ∙ ap₂ (λ (u : List ℕ) (n : ℕ). sets u 0 (node_head_numbers kind n)) l.node_rows_lem many
                ∙ sets_before nodes 0 (node_head_numbers kind (node_count T)) (node_numbers kind 0 e 0 0 T)
                ∙ ap (λ (x : ℕ). sets nodes 0 (node_head_numbers kind (node_count T) ++ node_numbers kind 0 x 0 0 T)) (sym i.is);
            entry_rows_lem =
                entry_head_lem
                ∙ ap₂ (λ (u : List ℕ) (n : ℕ). sets u 0 (entry_head_numbers n)) l.entry_rows_lem all
                ∙ sets_before entries 0 (entry_head_numbers (entry_count T)) (entry_numbers (first_cell_of blocks) (entries_in T));
          }

      pub nodes_right : FilledNodes blocks file kind at nodes entries nodes₂ entries₂ (Some e)
      nodes_right = record {
        right = λ t next read h. left t next (end_in_lem file at read ends) (tree.right t next read (sym (end_fits file at read ends) ∙ h));
        wrong = λ t next read h.
            absurd (tree_not_wrong (sym is ∙ tree.wrong t next read (sym (end_fits file at read ends) ∙ h)));
      }
