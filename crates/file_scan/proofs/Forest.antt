-- Nodes without recursion: a tree is read as its root and then its two subtrees, whatever fuel is left, so that a forest is read root by root.
-- Assumes nothing.
use mathlib.Core.Path.{◌≡◌, refl, sym, ◌∙◌}
use mathlib.Core.Bool.{Bool, true, false, cond}
use mathlib.Core.List.{List}
use Prim.Native.Nat.{ℕ, zero, suc, ◌+◌, ◌≤◌}
use native.Mathlib.Omega.{arith}
use lib.ListN.{length}
use lib.Dec.{eqb, leb}
use Rattle.history.specs.File.{Nodes, absent, present, Read, got, fault, onward, ◌>>=◌, give, refuse◌unless◌, number, many, read_nodes, read_root}
use Rattle.history.proofs.FileYields.{got_next, fault_got}
use Rattle.fields.proofs.Reading.{number_end}
use Rattle.file_scan.specs.Rows.{Head, head_absent, head_present, read_present, read_head}
use Rattle.fields.proofs.Reading.{Passes}
use Rattle.file_scan.proofs.Readers.{onward_through, onward_same, onward_gives, onward_got}
use Rattle.file_scan.proofs.RowReads.{head_size, head_passes}

-- ── a node, and then its children ──

-- the children of a node, each read by `tree` from a position on
abbrev pub children_by : (tree : ℕ → Read Nodes) → Head → ℕ → Read Nodes
children_by tree head_absent at = got absent at
children_by tree (head_present min max middle es) at =
    onward (tree at) (λ left p. onward (tree p) (λ right q. got (present min max middle es left right) q))

nodes_parts : (fuel : ℕ) (file : List ℕ) (at : ℕ) → read_nodes (suc fuel) file at ≡ onward (read_head file at) (children_by (read_nodes fuel file))
unfolding read_nodes read_head read_present ◌>>=◌ give
nodes_parts fuel file at =
    onward_through (number 1 file at) _ _ λ presence p.
    onward_through ((refuse 19 unless (leb presence 1)) file p) _ _ λ t p₁.
    chosen p₁ (eqb presence 0)
  where
    chosen : (p : ℕ) (t : Bool)
        → cond t (give absent)
        (number 8 >>= λ min. number 8 >>= λ max. number 8 >>= λ middle. number 8 >>= λ count. many (number 8) count >>= λ es.
        read_nodes fuel >>= λ l. read_nodes fuel >>= λ r. give (present min max middle es l r)) file p
        ≡ onward (cond t (give head_absent) read_present file p) (children_by (read_nodes fuel file))
    chosen p true = onward_gives _ _ (children_by (read_nodes fuel file))
    chosen p false =
        onward_through (number 8 file p) _ _ λ a p₂.
        onward_through (number 8 file p₂) _ _ λ b p₃.
        onward_through (number 8 file p₃) _ _ λ c p₄.
        onward_through (number 8 file p₄) _ _ λ d p₅.
        onward_through (many (number 8) d file p₅) _ _ λ es p₆.
        onward_gives _ _ (children_by (read_nodes fuel file))

-- ── any fuel that lasts ──

nodes_none : (file : List ℕ) (at : ℕ) → read_nodes zero file at ≡ fault 17
unfolding read_nodes
nodes_none file at = refl

-- reading goes on: what is read ends behind where it began
nodes_on : (fuel : ℕ) (file : List ℕ) (at : ℕ) {t : Nodes} {n : ℕ} → read_nodes fuel file at ≡ got t n → at ≤ n
nodes_on zero file at e = absurd (fault_got (sym (nodes_none file at) ∙ e))
nodes_on (suc fuel) file at {t} {n} e =
    onward_got _ _ (sym (nodes_parts fuel file at) ∙ e) λ h p e₁ r. children h (head_passes file at e₁) r (λ m u k g. nodes_on fuel file m g)
  where
    children : (h : Head) {p : ℕ} → Passes file at (head_size h) p → children_by (read_nodes fuel file) h p ≡ got t n
        → ((m : ℕ) (u : Nodes) (k : ℕ) → read_nodes fuel file m ≡ got u k → m ≤ k) → at ≤ n
    children head_absent s r on = omega (arith, got_next r)
    children (head_present a b c es) {p} s r on =
        onward_got _ _ r λ l p₁ e₁ r₁.
        onward_got _ _ r₁ λ m p₂ e₂ r₂.
        omega (arith, got_next r₂, on p l p₁ e₁, on p₁ m p₂ e₂)

-- at the end of the file nothing can be read
head_end_lem : (file : List ℕ) (at : ℕ) → length file ≤ at → read_head file at ≡ fault 17
unfolding read_head ◌>>=◌ onward
head_end_lem file at h = rw (number_end file at 1 (omega arith)) refl

nodes_end : (fuel : ℕ) (file : List ℕ) (at : ℕ) → length file ≤ at → read_nodes fuel file at ≡ fault 17
unfolding onward
nodes_end zero file at h = nodes_none file at
nodes_end (suc fuel) file at h = rw (nodes_parts fuel file at, head_end_lem file at h) refl

-- each node takes a byte, so with as much fuel as bytes are left it does not matter how much that is
nodes_fuel : (f g : ℕ) (file : List ℕ) (at : ℕ) → length file ≤ at + f → length file ≤ at + g → read_nodes f file at ≡ read_nodes g file at
nodes_fuel zero g file at h k = nodes_none file at ∙ sym (nodes_end g file at (omega arith))
nodes_fuel (suc f) zero file at h k = nodes_end (suc f) file at (omega arith) ∙ sym (nodes_none file at)
nodes_fuel (suc f) (suc g) file at h k =
    nodes_parts f file at
    ∙ onward_same (read_head file at) (λ x p e. children x (head_passes file at e) (λ m a b. nodes_fuel f g file m a b))
    ∙ sym (nodes_parts g file at)
  where
    children : (x : Head) {p : ℕ} → Passes file at (head_size x) p
        → ((m : ℕ) → length file ≤ m + f → length file ≤ m + g → read_nodes f file m ≡ read_nodes g file m)
        → children_by (read_nodes f file) x p ≡ children_by (read_nodes g file) x p
    children head_absent s same = refl
    children (head_present a b c es) {p} s same =
        rw (same p (omega arith) (omega arith))
        (onward_same (read_nodes g file p) λ l p₁ e₁. let on = nodes_on g file p e₁ in rw (same p₁ (omega arith) (omega arith)) refl)

-- the fuel that `read_root` takes lasts everywhere: the tree at a position is a node and then the trees behind it
pub root_parts : (file : List ℕ) (at : ℕ) → read_root file at ≡ onward (read_head file at) (children_by (read_root file))
unfolding read_root
root_parts file at =
    nodes_fuel (length file) (suc (length file)) file at (omega arith) (omega arith) ∙ nodes_parts (length file) file at
