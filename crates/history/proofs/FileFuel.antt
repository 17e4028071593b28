-- Reading nodes does not depend on the fuel, as long as there is as much as bytes are left: so the reader of the root is a node whose children are
-- read by it. Assumes nothing.
use mathlib.Core.Path.{◌≡◌, refl, sym, ◌∙◌}
use mathlib.Core.Logic.{inl, inr}
use mathlib.Core.Bool.{Bool, true, false, cond}
use mathlib.Core.List.{List}
use Prim.Native.Nat.{ℕ, ◌<◌, ◌≤◌, ◌+◌, zero, suc}
use native.Mathlib.Omega.{arith}
use lib.ListN.{length}
use lib.Dec.{eqb, leb}
use Rattle.lists.proofs.Numbers.{lt_or_le}
use Rattle.history.specs.File.{node_bytes, got, ◌>>=◌, onward, give, refuse◌unless◌, number, many, read_nodes, read_root, Nodes, absent, Read, fault, Reader, read_node, ◌>>◌}
use Rattle.history.proofs.FileNumbers.{bytes_of-length, Bytes}
use Rattle.history.proofs.FileReads.{number_cut}
use Rattle.history.proofs.FileYields.{spans_fits, gives_many, gives_number, Gives, Yielded}
use Rattle.history.proofs.FileRoundTrip.{gives_nodes, gives_root, NodesFit}

-- ── two readings that agree ──

module _ {A B : Type 0} where
  -- first readers that agree, and what follows where they succeed
  bind_agree : (k k' : A → Reader B) (r r' : Reader A) (file : List ℕ) (at : ℕ) → r file at ≡ r' file at
      → ((x : A) (m : ℕ) → r' file at ≡ got x m → k x file m ≡ k' x file m) → (r >>= k) file at ≡ (r' >>= k') file at
  unfolding ◌>>=◌ onward
  bind_agree k k' r r' file at e f = rw e (go (r' file at) f)
    where
      go : (o : Read A) → ((x : A) (m : ℕ) → o ≡ got x m → k x file m ≡ k' x file m) → onward o (λ x m. k x file m) ≡ onward o (λ x m. k' x file m)
      go (got x m) f = f x m refl
      go (fault i) f = refl

module _ {A : Type 0} where
  check_agree : (i : ℕ) (t : Bool) (s s' : Reader A) (file : List ℕ) (at : ℕ) → s file at ≡ s' file at
      → (refuse i unless t >> s) file at ≡ (refuse i unless t >> s') file at
  unfolding ◌>>=◌ onward refuse◌unless◌
  check_agree i true s s' file at e = e
  check_agree i false s s' file at e = refl

  cond_agree : (t : Bool) (r s s' : Reader A) (file : List ℕ) (at : ℕ) → s file at ≡ s' file at → cond t r s file at ≡ cond t r s' file at
  cond_agree true r s s' file at e = refl
  cond_agree false r s s' file at e = e

-- ── positions ──

-- past the end there is no node
pub node_past : (c : Reader Nodes) (file : List ℕ) (at : ℕ) → length file ≤ at → read_node c file at ≡ fault 17
unfolding ◌>>=◌ onward
node_past c file at h = rw (number_cut 1 file at (omega arith)) refl

nodes_past : (file : List ℕ) (fuel at : ℕ) → length file ≤ at → read_nodes fuel file at ≡ fault 17
unfolding read_nodes
nodes_past file zero at h = refl
nodes_past file (suc fuel) at h = node_past _ file at h

module _ (file : List ℕ) (bytes : Bytes file) where
  -- a reading goes forward, and stays inside the file
  forward : {A : Type 0} {r : Reader A} {write : A → List ℕ} {P : A → Type 0} → Gives file r write P → (at : ℕ) (x : A) (m : ℕ)
      → at ≤ length file → r file at ≡ got x m → (m ≡ at + length (write x)) × (m ≤ length file)
  forward {A} {r} {write} {P} g at x m h e =
      let y : Yielded file (λ x w. P x × (w ≡ write x)) at x m = g.yields at x m h e in
      (rw y.says.1 at y.spans.next, spans_fits y.spans)

  -- a node depends on how its children are read behind it alone
  node_agree : (c c' : Reader Nodes) (at : ℕ) → at < length file → Gives file c' node_bytes NodesFit
      → ((m : ℕ) → at < m → m ≤ length file → c file m ≡ c' file m) → read_node c file at ≡ read_node c' file at
  node_agree c c' at h g f =
      bind_agree _ _ (number 1) (number 1) file at refl λ presence m₁ e₁.
      let p₁ = forward (gives_number file bytes 1) at presence m₁ (omega arith) e₁ in
      let behind : at < m₁ = omega (arith, bytes_of-length 1 presence, p₁) in
      check_agree 19 (leb presence 1) _ _ file m₁ (cond_agree (eqb presence 0) (give absent) _ _ file m₁
      (bind_agree _ _ (number 8) (number 8) file m₁ refl λ low m₂ e₂.
      let p₂ = forward (gives_number file bytes 8) m₁ low m₂ p₁.1 e₂ in
      bind_agree _ _ (number 8) (number 8) file m₂ refl λ high m₃ e₃.
      let p₃ = forward (gives_number file bytes 8) m₂ high m₃ p₂.1 e₃ in
      bind_agree _ _ (number 8) (number 8) file m₃ refl λ middle m₄ e₄.
      let p₄ = forward (gives_number file bytes 8) m₃ middle m₄ p₃.1 e₄ in
      bind_agree _ _ (number 8) (number 8) file m₄ refl λ n m₅ e₅.
      let p₅ = forward (gives_number file bytes 8) m₄ n m₅ p₄.1 e₅ in
      bind_agree _ _ (many (number 8) n) (many (number 8) n) file m₅ refl λ es m₆ e₆.
      let p₆ = forward (gives_many file (number 8) (gives_number file bytes 8) n) m₅ es m₆ p₅.1 e₆ in
      bind_agree _ _ c c' file m₆ (f m₆ (omega (arith, p₁, p₂, p₃, p₄, p₅, p₆)) p₆.1) λ left m₇ e₇.
      let p₇ = forward g m₆ left m₇ p₆.1 e₇ in
      bind_agree _ _ c c' file m₇ (f m₇ (omega (arith, p₁, p₂, p₃, p₄, p₅, p₆, p₇)) p₇.1) λ right m₈ e₈. refl))

  -- ── fuel ──

  -- as much as bytes are left is enough
  pub nodes_fuel : (a b at : ℕ) → length file ≤ at + a → length file ≤ at + b → read_nodes a file at ≡ read_nodes b file at
  unfolding read_nodes
  nodes_fuel zero b at h z = sym (nodes_past file b at (omega arith))
  nodes_fuel (suc a) zero at h z = nodes_past file (suc a) at (omega arith)
  nodes_fuel (suc a) (suc b) at h z =
      elim (lt_or_le at (length file)) [
        | inl low ↦ node_agree _ _ at low (record { yields = (gives_nodes file bytes b).yields }) (λ m p q. nodes_fuel a b m (omega arith) (omega arith))
        | inr past ↦ nodes_past file (suc a) at past ∙ sym (nodes_past file (suc b) at past)
      ]

  -- the root is a node whose children are read as it is
  pub read_root_node : (at : ℕ) → read_root file at ≡ read_node read_root file at
  unfolding read_root read_nodes
  read_root_node at =
      nodes_fuel (length file) (suc (length file)) at (omega arith) (omega arith)
      ∙ elim (lt_or_le at (length file)) [
        | inl low ↦ node_agree _ read_root at low (gives_root file bytes) (λ m p q. refl)
        | inr past ↦ node_past _ file at past ∙ sym (node_past read_root file at past)
      ]
