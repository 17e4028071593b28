-- The walks over the trees of all kinds: the return of `hold_kind`, and a step for each turn and return of `seen`. Assumes nothing.
use mathlib.Core.Path.{◌≡◌, refl}
use mathlib.Core.List.{List}
use Prim.Native.Nat.{ℕ, ◌+◌, ◌≤◌, ◌<◌}
use native.Mathlib.Omega.{arith}
use lib.Dec.{eqb}
use borrow.Author.Count.{below_more}
use Rattle.std.specs.Prelude.{Option, Some}
use Rattle.tables.specs.Columns.{column, nodes_count}
use Rattle.slots.specs.declared.Slots.{Slots}
use Rattle.segment_table.specs.Closed.{Tables}
use Rattle.segment_walk.specs.declared.walk.Node.{Node}
use Rattle.segment_walk.specs.Walking.{root_at}
use Rattle.segment_test.specs.Test.{lent}
use Rattle.segment_test.specs.Parts.{Stood}
use Rattle.segment_test.proofs.Walking.{WalkedTo, walks_none, walks_more, nodes_rest}
use Rattle.segment_handed.specs.Tree.{TreeStood, TreeHeld}
use Rattle.segment_handed.specs.Handed.{HandedOn, KindSeen, Seen}
use Rattle.segment_handed.proofs.Showing.{handed_told}

-- ── a kind ──

pub kind_seen : {blocks nodes entries : List ℕ} {n kind e rows : ℕ} {root : Node} {born slots : Slots} {left : Option ℕ} → root ≡ root_at nodes kind e
    → TreeStood blocks nodes entries n (record { kind = kind; root = root; top = root; parent = record { link = 0; min = 0; max = 0 } }) root rows left
    → TreeHeld blocks nodes entries root root root born born slots left → KindSeen (lent blocks nodes entries) n kind e rows left
kind_seen {blocks} {nodes} {entries} {n} {kind} {e} {rows} is stood held = record {
  stood = λ rest z. let there : Stood (lent blocks nodes entries) n kind (column nodes 0 kind) 0 e 0 0 rows rest = rw is at (stood.shown rest z) in there;
  handed = λ rest z. handed_told is held z;
}

-- ── all kinds ──

-- the first k kinds are seen so
pub record SeenTo (t : Tables) (n e budget k rest : ℕ) : Type 0 where
  pub walked : WalkedTo t n e budget k rest
  pub handed : (kind : ℕ) → kind < k → HandedOn t kind e

pub seen_none : {t : Tables} {n e budget : ℕ} → SeenTo t n e budget 0 budget
seen_none = record { walked = walks_none; handed = λ kind h. absurd (omega arith) }

pub seen_more : {t : Tables} {n e budget k rest left : ℕ} {out : Option ℕ} → SeenTo t n e budget k rest → KindSeen t n k e rest out → out ≡ Some left
    → SeenTo t n e budget (k + 1) left
seen_more {t} {e = e} {k = k} {left = left} s own is = record {
  walked = walks_more s.walked refl (own.stood left is);
  handed = below_more (λ (kind : ℕ). HandedOn t kind e) k s.handed (own.handed left is);
}

pub seen_all : {blocks nodes entries : List ℕ} {n e used k rest : ℕ} → used ≡ column nodes 0 nodes_count → k ≤ nodes_count → (k < nodes_count → ⊥)
    → SeenTo (lent blocks nodes entries) n e used k rest → Seen (lent blocks nodes entries) n e (eqb rest 0)
seen_all count most over s = record { rows = (nodes_rest count most over s.walked).yes; handed = λ z kind low. s.handed kind (omega arith) }
