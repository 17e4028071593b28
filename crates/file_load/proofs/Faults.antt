-- The reader of a file gives no fault but 17, 18 and 19: all are below 20. Assumes nothing.
use mathlib.Core.Path.{◌≡◌, refl}
use mathlib.Core.Bool.{Bool, true, false, cond}
use mathlib.Core.List.{List, []}
use Prim.Native.Nat.{ℕ, zero, suc, ◌+◌, ◌<◌}
use native.Mathlib.Omega.{arith}
use lib.Dec.{leb, eqb}
use lib.ListN.{length}
use Rattle.history.specs.File.{Read, got, fault, Reader, onward, ◌>>=◌, give, refuse◌unless◌, field, number, many, read_block, Nodes, read_node, read_nodes, read_root, read_file}

-- every fault of the reader has a low number
pub record Low {A : Type 0} (r : Reader A) : Type 0 where
  pub low : (file : List ℕ) (at i : ℕ) → r file at ≡ fault i → i < 20

low_give : {A : Type 0} (x : A) → Low (give x)
unfolding give
low_give x = record { low = λ file at i e. absurd (let z : ◌≡◌ {A = ℕ} 0 1 = cc in omega arith) }

low_then : {A B : Type 0} {r : Reader A} {k : A → Reader B} → Low r → ((x : A) → Low (k x)) → Low (r >>= k)
unfolding ◌>>=◌ onward
low_then {A} {B} {r} {k} a b = record { low = λ file at i e. go (r file at) file i (λ j z. a.low file at j z) e }
  where
    go : (o : Read A) (file : List ℕ) (i : ℕ) → ((j : ℕ) → o ≡ fault j → j < 20) → onward o (λ x next. k x file next) ≡ fault i → i < 20
    go (got x n) file i f e = (b x).low file n i e
    go (fault j) file i f e = let z : j ≡ i = cc in omega (arith, f j refl)

low_refuse : (n : ℕ) (t : Bool) → n < 20 → Low (refuse n unless t)
unfolding refuse◌unless◌
low_refuse n true h = record { low = λ file at i e. absurd (let z : ◌≡◌ {A = ℕ} 0 1 = cc in omega arith) }
low_refuse n false h = record { low = λ file at i e. let z : n ≡ i = cc in omega arith }

low_cond : {A : Type 0} (t : Bool) {r s : Reader A} → Low r → Low s → Low (cond t r s)
low_cond true a b = a
low_cond false a b = b

low_field : (width : ℕ) → Low (field width)
unfolding field
low_field width = record { low = λ file at i e. go (leb (at + width) (length file)) _ _ e }
  where
    go : (t : Bool) (x : List ℕ) (n : ℕ) {i : ℕ} → cond t (got x n) (fault 17) ≡ fault i → i < 20
    go true x n e = absurd (let z : ◌≡◌ {A = ℕ} 0 1 = cc in omega arith)
    go false x n {i} e = let z : 17 ≡ i = cc in omega arith

low_number : (width : ℕ) → Low (number width)
unfolding number
low_number width = low_then (low_field width) (λ bytes. low_give _)

low_many : {A : Type 0} {r : Reader A} → Low r → (n : ℕ) → Low (many r n)
unfolding many
low_many a zero = low_give []
low_many a (suc n) = low_then a (λ x. low_then (low_many a n) (λ xs. low_give _))

low_block : (kind : ℕ) → Low (read_block kind)
unfolding read_block
low_block kind =
    low_then (low_number 1) λ own. low_then (low_refuse 18 (eqb own kind) (omega arith)) λ _.
    low_then (low_number 8) λ a. low_then (low_number 8) λ b. low_then (low_number 8) λ c. low_then (low_number 8) λ d.
    low_then (low_field b) λ bytes. low_give _

low_node : {child : Reader Nodes} → Low child → Low (read_node child)
low_node h =
    low_then (low_number 1) λ presence. low_then (low_refuse 19 (leb presence 1) (omega arith)) λ _.
    low_cond (eqb presence 0) (low_give _)
    (low_then (low_number 8) λ a. low_then (low_number 8) λ b. low_then (low_number 8) λ c. low_then (low_number 8) λ n.
    low_then (low_many (low_number 8) n) λ es. low_then h λ l. low_then h λ r. low_give _)

low_nodes : (fuel : ℕ) → Low (read_nodes fuel)
unfolding read_nodes
low_nodes zero = record { low = λ file at i e. let z : 17 ≡ i = cc in omega arith }
low_nodes (suc fuel) = low_node (record { low = (low_nodes fuel).low })

low_root : Low read_root
unfolding read_root
low_root = record { low = λ file at i e. (low_nodes (length file)).low file at i e }

pub low_file : Low read_file
unfolding read_file
low_file =
    low_then (low_number 1) λ kind. low_then (low_refuse 18 (leb kind 4) (omega arith)) λ _. low_then (low_number 8) λ count.
    low_then (low_many (low_block kind) count) λ bs. low_then low_root λ ns. low_give _
