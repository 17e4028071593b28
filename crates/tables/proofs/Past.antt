-- Past its end a table reads as 0; bytes are copied as far as a store goes. Assumes nothing.
use mathlib.Core.Path.{◌≡◌, sym, ◌∙◌, ap}
use mathlib.Core.List.{List, [], ◌∷◌, ◌++◌}
use Prim.Native.Nat.{ℕ, ◌+◌, ◌-◌, ◌≤◌, ◌<◌, min}
use native.Mathlib.Omega.{arith}
use native.Mathlib.Numerals.{add-one}
use lib.ListN.{length, get_or, set, take, drop, get_or-eq_default, take-append-drop}
use lib.Seq.{sets, length-sets, take-suc, take_all, length-take-le}
use mathlib.Core.Logic.{⊎_elim}
use Rattle.lists.proofs.Numbers.{lt_or_le}
use Rattle.lists.proofs.Stores.{sets-append, sets-past}

pub read_past : (l : List ℕ) (n : ℕ) → length l ≤ n → 0 ≡ get_or l n 0
read_past l n h = sym (get_or-eq_default l 0 {n = n} h)

-- what is written behind the end is as if it were not written
pub sets_front : (l xs ys : List ℕ) (at : ℕ) → length l ≤ at + length xs → sets l at (xs ++ ys) ≡ sets l at xs
sets_front l xs ys at h = sets-append l at xs ys ∙ sets-past ys (sets l at xs) (at + length xs) (rw (length-sets l at xs) h)

-- the first i bytes written, up to the end of the table, are all that are
sets-cut : (l vs : List ℕ) (at i : ℕ) → i ≤ length vs → length l ≤ at + i → sets l at (take i vs) ≡ sets l at vs
sets-cut l vs at i h k =
    let e : take i vs ++ drop i vs ≡ vs = take-append-drop i vs in
    let n : length (take i vs) ≡ i = length-take-le i vs h in
    sym (sets_front l (take i vs) (drop i vs) at (omega arith)) ∙ ap (λ (r : List ℕ). sets l at r) e

-- all of them
sets_all : (l vs : List ℕ) (at i : ℕ) → length vs ≤ i → sets l at (take i vs) ≡ sets l at vs
sets_all l vs at i h = rw (take_all i vs h)

-- one byte more
pub sets_more : (l vs : List ℕ) (at i : ℕ) → i < length vs → set (sets l at (take i vs)) (at + i) (get_or vs i 0) ≡ sets l at (take (i + 1) vs)
sets_more l vs at i h =
    let n : length (take i vs) ≡ i = length-take-le i vs (omega arith) in
    sym (rw (add-one, take-suc vs i 0 h, sets-append l at (take i vs) (get_or vs i 0 ∷ []), n))

-- as many bytes as there is room for
pub copied : (store bytes : List ℕ) (at many : ℕ) → many ≡ min (length bytes) (length store - at) → sets store at (take many bytes) ≡ sets store at bytes
copied store bytes at many m =
    ⊎_elim (λ l. sets_all store bytes at many (omega arith)) (λ l. sets-cut store bytes at many (omega arith) (omega arith))
    (lt_or_le (length bytes) (length store - at))
