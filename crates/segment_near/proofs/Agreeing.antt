-- For callers: what the contracts say of a closed index whose blocks are known, by the keys of the model; and that a neighbour is the only one.
-- Assumes nothing.
use Rattle.std.specs.Prelude.{Option, Some, None}
use mathlib.Core.Path.{◌≡◌, refl, sym, ◌∙◌, ap, ap₂}
use mathlib.Core.Bool.{true}
use mathlib.Core.List.{List}
use Prim.Native.Nat.{ℕ, ◌<◌}
use native.Mathlib.Omega.{arith}
use Rattle.lists.specs.Lists.{All, Mem}
use Rattle.lists.proofs.Lists.{all_map, all_both, all_mem}
use Rattle.history.specs.Words as words
use Rattle.history.specs.Tree.{Tree, key_in, entries_in}
use Rattle.history.specs.Find.{path}
use Rattle.history.specs.Rules.{sorted}
use Rattle.history.proofs.FileAlike.{path_all}
use Rattle.tables.specs.Columns.{column}
use Rattle.segment_table.specs.Closed.{Tables, TreeAt, first_cell_in}
use Rattle.segment_walk.proofs.Agreeing.{tree_rooted}
use Rattle.segment_near.specs.declared.Side.{Side}
use Rattle.segment_near.specs.declared.Side.TheVariants.{From, Before}
use Rattle.segment_near.specs.declared.Neighbour.{Neighbour}
use Rattle.segment_near.specs.Neighbours.{Beside, AsNear, Neighbours, NearestLive}

-- ── two keys that agree on the entries ──

module _ (key key' : ℕ → ℕ) where
  beside_agree : (side : Side) (place j : ℕ) → key j ≡ key' j → Beside side key place j → Beside side key' place j
  beside_agree From place j e h = omega arith
  beside_agree Before place j e h = omega arith

  beside_back : (side : Side) (place j : ℕ) → key j ≡ key' j → Beside side key' place j → Beside side key place j
  beside_back From place j e h = omega arith
  beside_back Before place j e h = omega arith

  near_agree : (side : Side) (k j : ℕ) → key k ≡ key' k → key j ≡ key' j → AsNear side key k j → AsNear side key' k j
  near_agree From k j e f h = omega arith
  near_agree Before k j e f h = omega arith

  pub neighbours_agree : (side : Side) (place : ℕ) {list : List ℕ} {r : Option Neighbour} → All (λ k. key k ≡ key' k) list → Neighbours side key place list r
      → Neighbours side key' place list r
  neighbours_agree side place same n =
      record {
        block = λ b e.
            let m = n.block b e in
            let here : key b.number ≡ key' b.number = all_mem same m.listed in
            record {
              listed = m.listed;
              starts = m.starts ∙ here;
              beside = beside_agree side place b.number here m.beside;
              nearest = all_both (λ j there near beside. near_agree side b.number j here there (near (beside_back side place j there beside))) same m.nearest;
            };
        nothing = λ e. all_both (λ j there none beside. none (beside_back side place j there beside)) same (n.nothing e);
      }

-- ── a closed index whose blocks are known ──

module _ (t : Tables) (kind e : ℕ) (bs : List words.Block) (tree : Tree) (stood : TreeAt t kind (column t.nodes 0 kind) 0 e tree) (some : 0 < e)
    (order : sorted (key_in bs) tree ≡ true) (keys : All (λ k. key_in bs k ≡ first_cell_in t.blocks k) (entries_in tree)) where
  back : {xs : List ℕ} → All (λ k. key_in bs k ≡ first_cell_in t.blocks k) xs → All (λ k. first_cell_in t.blocks k ≡ key_in bs k) xs
  back h = all_map (λ k p. sym p) h

  -- the neighbour is that of the blocks on the model's way down
  pub nearest_model : (tick : ℕ) (side : Side) (place : ℕ) {r : Option Neighbour} → NearestLive t.nodes t.entries kind e tick side place r
      → Neighbours side (key_in bs) place (path tick 0 e tree) r
  nearest_model tick side place n =
      neighbours_agree (first_cell_in t.blocks) (key_in bs) side place (back (path_all tick 0 e tree keys)) (n.of_tree t.blocks tree (tree_rooted t kind e bs tree stood some order keys))

-- ── one neighbour ──

as_near_both : (side : Side) (key : ℕ → ℕ) (j k : ℕ) → AsNear side key j k → AsNear side key k j → key j ≡ key k
as_near_both From key j k p q = omega arith
as_near_both Before key j k p q = omega arith

-- where no two blocks of the list start at one place, as live blocks of sound tables do not, the answer is the only one
pub neighbours_one : (side : Side) (key : ℕ → ℕ) (place : ℕ) (list : List ℕ) (r r' : Option Neighbour)
    → ((j k : ℕ) → Mem j list → Mem k list → key j ≡ key k → j ≡ k) → Neighbours side key place list r → Neighbours side key place list r' → r ≡ r'
neighbours_one side key place list None None apart a b = refl
neighbours_one side key place list None (Some n) apart a b =
    let m = b.block n refl in
    absurd (all_mem (a.nothing refl) m.listed m.beside)
neighbours_one side key place list (Some n) None apart a b =
    let m = a.block n refl in
    absurd (all_mem (b.nothing refl) m.listed m.beside)
neighbours_one side key place list (Some x) (Some y) apart a b =
    let n = a.block x refl in
    let m = b.block y refl in
    let same : x.number ≡ y.number =
    apart x.number y.number n.listed m.listed
    (as_near_both side key x.number y.number (all_mem n.nearest m.listed m.beside) (all_mem m.nearest n.listed n.beside)) in
    let first : x.first ≡ y.first = n.starts ∙ ap key same ∙ sym m.starts in
    ap₂ (λ (j p : ℕ). Some (record { number = j; first = p })) same first
