-- What a row says of the reading: a node's row comes of a node that was read, an absent child of an absent child, and a fault of a fault. Assumes nothing.
use mathlib.Core.Path.{◌≡◌}
use mathlib.Core.List.{List}
use Prim.Native.Nat.{ℕ, ◌+◌}
use lib.ListN.{length}
use Rattle.history.specs.File.{Read, got, fault}
use Rattle.file_scan.specs.declared.rows.NodeRow.TheVariants as node
use Rattle.file_scan.specs.Rows.{row_head, Head, head_absent, head_present, node_row}

pub row_present : (at : ℕ) {a b c d q n : ℕ} {G : Type 0} (o : Read Head) → got (node.Present a b c d q) n ≡ node_row at o
    → ((es : List ℕ) → o ≡ got (head_present a b c es) n → length es ≡ d → q ≡ at + row_head → G) → G
unfolding node_row
row_present at (got head_absent m) e f = absurd (cc)
row_present at (got (head_present x y z es) m) e f = f es (cc) (cc) (cc)
row_present at (fault i) e f = absurd (cc)

pub row_absent : (at : ℕ) {n : ℕ} (o : Read Head) → got node.Absent n ≡ node_row at o → o ≡ got head_absent n
unfolding node_row
row_absent at (got head_absent m) e = cc
row_absent at (got (head_present x y z es) m) e = absurd (cc)
row_absent at (fault i) e = absurd (cc)

pub row_fault : (at : ℕ) {i : ℕ} (o : Read Head) → fault i ≡ node_row at o → o ≡ fault i
unfolding node_row
row_fault at (got head_absent m) e = absurd (cc)
row_fault at (got (head_present x y z es) m) e = absurd (cc)
row_fault at (fault j) e = cc
