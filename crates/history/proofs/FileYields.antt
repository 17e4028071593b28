-- Read and written: which bytes stand where a reader, or one after the other, has succeeded. Assumes nothing.
use mathlib.Core.Path.{◌≡◌, refl, sym, ◌∙◌, ap}
use mathlib.Core.Bool.{Bool, true, false, cond}
use mathlib.Core.List.{List, [], ◌∷◌, flat_map, ◌++◌, append-nil}
use Prim.Native.Nat.{ℕ, ◌<◌, ◌≤◌, ◌^◌, ◌+◌, zero, suc, ◌-◌}
use native.Mathlib.Omega.{arith}
use lib.ListN.{length, take, drop, length-append, length-drop, take-append-drop}
use lib.Dec.{leb}
use lib.Seq.{length-take-le}
use borrow.Author.Tests.{leb-true}
use Rattle.lists.specs.Lists.{All, all_nil, all_cons}
use Rattle.history.specs.File.{bytes_of, number_of, got, ◌>>=◌, onward, give, refuse◌unless◌, field, number, many, Read, fault, Reader, ◌>>◌}
use Rattle.history.proofs.FileNumbers.{number_of-below, bytes_of-number_of, Bytes}
use Rattle.history.proofs.FileReads.{stands_fits, stands_taken, stands_bytes, stands_append, Stands}

-- ── which bytes stand where a reader has succeeded ──

-- the bytes stand from a position up to the next one
pub record Spans (file : List ℕ) (at to : ℕ) (bytes : List ℕ) : Type 0 where
  pub stands : Stands file at bytes
  pub next : to ≡ at + length bytes

module _ {file : List ℕ} where
  -- one part after the other
  pub spans_append : (u v : List ℕ) {at m n : ℕ} → Spans file at m u → Spans file m n v → Spans file at n (u ++ v)
  spans_append u v {at} {m} {n} p q =
      record {
        stands = stands_append u v p.stands (rw p.next at q.stands);
        next = rw (length-append u v) (omega (arith, p.next, q.next));
      }

  -- nothing, inside the file
  pub spans_nil : (at : ℕ) → at ≤ length file → Spans file at at []
  spans_nil at h =
      record {
        stands = record { before = take at file; behind = drop at file; place = length-take-le at file h; whole = sym (take-append-drop at file) };
        next = omega arith;
      }

  -- the next position is inside the file
  pub spans_fits : {w : List ℕ} {at n : ℕ} → Spans file at n w → n ≤ length file
  spans_fits p = omega (arith, stands_fits p.stands, p.next)

  -- they are what lies between the two positions
  pub spans_taken : {w : List ℕ} {at n : ℕ} → Spans file at n w → take (n - at) (drop at file) ≡ w
  spans_taken {w} {at} {n} p =
      let e : n - at ≡ length w = omega (arith, p.next) in
      rw e (stands_taken p.stands)

module _ {A : Type 0} where
  -- a success has one value and one next position
  pub got_value : {x y : A} {m n : ℕ} → got x m ≡ got y n → x ≡ y
  got_value e = cc

  pub got_next : {x y : A} {m n : ℕ} → got x m ≡ got y n → m ≡ n
  got_next e = cc

  -- a fault is no success
  pub fault_got : {i : ℕ} {y : A} {n : ℕ} → ◌≡◌ {A = Read A} (fault i) (got y n) → ⊥
  fault_got e = let z : ◌≡◌ {A = ℕ} 0 1 = cc in omega arith

module _ (file : List ℕ) where
  -- the reader has given x, and Q holds of x and of the bytes between the two positions
  pub record Yielded {A : Type 0} (Q : A → List ℕ → Type 0) (at : ℕ) (x : A) (n : ℕ) : Type 0 where
    pub bytes : List ℕ
    pub says : Q x bytes
    pub spans : Spans file at n bytes

  -- so it does wherever it succeeds
  pub record Yields {A : Type 0} (r : Reader A) (Q : A → List ℕ → Type 0) : Type 0 where
    pub yields : (at : ℕ) (x : A) (n : ℕ) → at ≤ length file → r file at ≡ got x n → Yielded Q at x n

  -- the bytes are those that x is written with, and P holds of x
  abbrev pub Gives : {A : Type 0} → Reader A → (A → List ℕ) → (A → Type 0) → Type 0
  Gives r write P = Yields r (λ x w. P x × (w ≡ write x))

  module _ {A : Type 0} where
    -- a value takes no bytes
    pub yields_give : {Q : A → List ℕ → Type 0} (x : A) → Q x [] → Yields (give x) Q
    unfolding give
    yields_give x q =
        record { yields = λ at y n h e. rw (← (got_value e), ← (got_next e)) (record { bytes = []; says = q; spans = spans_nil at h }) }

    -- the test held
    pub yields_check : {Q : A → List ℕ → Type 0} (i : ℕ) (t : Bool) {s : Reader A} → (t ≡ true → Yields s Q) → Yields (refuse i unless t >> s) Q
    unfolding ◌>>=◌ onward refuse◌unless◌
    yields_check i true f = record { yields = λ at y n h e. (f refl).yields at y n h e }
    yields_check i false f = record { yields = λ at y n h e. absurd (fault_got e) }

    -- a choice
    pub yields_cond : {Q : A → List ℕ → Type 0} (t : Bool) {a b : Reader A} → (t ≡ true → Yields a Q) → (t ≡ false → Yields b Q) → Yields (cond t a b) Q
    yields_cond true f g = f refl
    yields_cond false f g = g refl

  module _ {A B : Type 0} where
    -- one after the other
    pub yields_bind : {Q : B → List ℕ → Type 0} {P : A → Type 0} {write : A → List ℕ} (k : A → Reader B) {r : Reader A} → Gives r write P
        → ((x : A) → P x → Yields (k x) (λ y v. Q y (write x ++ v))) → Yields (r >>= k) Q
    unfolding ◌>>=◌ onward
    yields_bind {Q} {P} {write} k {r} g f = record { yields = λ at y n h e. go at y n h (r file at) refl e }
      where
        go : (at : ℕ) (y : B) (n : ℕ) → at ≤ length file → (o : Read A) → r file at ≡ o → onward o (λ x m. k x file m) ≡ got y n → Yielded Q at y n
        go at y n h (got x m) p e =
            let a : Yielded (λ x w. P x × (w ≡ write x)) at x m = g.yields at x m h p in
            let first : Spans file at m (write x) = rw a.says.1 at a.spans in
            let b : Yielded (λ y v. Q y (write x ++ v)) m y n = (f x a.says.0).yields m y n (spans_fits first) e in
            record { bytes = write x ++ b.bytes; says = b.says; spans = spans_append (write x) b.bytes first b.spans }
        go at y n h (fault i) p e = absurd (fault_got e)

  -- a reader whose value is taken further
  module _ {A B : Type 0} where
    pub gives_map : {P : A → Type 0} {R : B → Type 0} {write : A → List ℕ} {write' : B → List ℕ} (f : A → B) {r : Reader A} → Gives r write P
        → ((x : A) → P x → R (f x) × (write x ≡ write' (f x))) → Gives (r >>= (λ x. give (f x))) write' R
    gives_map {P} {R} {write} {write'} f g h = yields_bind _ g (λ x p. yields_give (f x) ((h x p).0, append-nil (write x) ∙ (h x p).1))

  -- a field
  pub gives_field : (width : ℕ) → Gives (field width) (λ w. w) (λ w. length w ≡ width)
  unfolding field
  gives_field width = record { yields = λ at x n h e. go at x n (leb (at + width) (length file)) refl e }
    where
      go : (at : ℕ) (w : List ℕ) (n : ℕ) (t : Bool) → leb (at + width) (length file) ≡ t
          → cond t (got (take width (drop at file)) (at + width)) (fault 17) ≡ got w n → Yielded (λ x v. (length x ≡ width) × (v ≡ x)) at w n
      go at w n true h e =
          let room : at + width ≤ length file = leb-true (at + width) (length file) h in
          let size : length (take width (drop at file)) ≡ width = length-take-le width (drop at file) (rw (length-drop at file) (omega arith)) in
          let span : Spans file at (at + width) (take width (drop at file)) =
          record {
            stands = record {
              before = take at file;
              behind = drop width (drop at file);
              place = length-take-le at file (omega arith);
              whole = sym (ap (λ (r : List ℕ). take at file ++ r) (take-append-drop width (drop at file)) ∙ take-append-drop at file);
            };
            next = ap (λ (k : ℕ). at + k) (sym size);
          } in
          rw (← (got_value e), ← (got_next e)) (record { bytes = take width (drop at file); says = (size, refl); spans = span })
      go at w n false h e = absurd (fault_got e)

  module _ {A : Type 0} where
    -- a list
    pub gives_many : (r : Reader A) {P : A → Type 0} {write : A → List ℕ} → Gives r write P
        → (count : ℕ) → Gives (many r count) (flat_map write) (λ xs. (length xs ≡ count) × All P xs)
    unfolding many flat_map
    gives_many r g zero = yields_give [] ((refl, all_nil), refl)
    gives_many r {P} {write} g (suc c) =
        yields_bind _ g
        (λ x p.
        yields_bind _ (gives_many r g c)
        (λ xs q. yields_give (x ∷ xs) ((ap suc q.0, all_cons p q.1), ap (λ (v : List ℕ). write x ++ v) (append-nil (flat_map write xs)))))

-- ── what is read of a file of bytes ──

module _ (file : List ℕ) (bytes : Bytes file) where
  gives_bytes : {A : Type 0} {r : Reader A} {P : A → Type 0} {write : A → List ℕ} → Gives file r write P → Gives file r write (λ x. P x × Bytes (write x))
  gives_bytes {A} {r} {P} {write} g =
      record {
        yields = λ at x n h e.
            let y : Yielded file (λ x w. P x × (w ≡ write x)) at x n = g.yields at x n h e in
            let small : Bytes (write x) = rw y.says.1 at (stands_bytes y.spans.stands bytes) in
            record { bytes = y.bytes; says = ((y.says.0, small), y.says.1); spans = y.spans };
      }

  -- a number, which fits
  pub gives_number : (width : ℕ) → Gives file (number width) (bytes_of width) (λ n. n < 256 ^ width)
  unfolding number
  gives_number width =
      gives_map file number_of (gives_bytes (gives_field file width))
      (λ w p. (rw p.0 at (number_of-below w p.1), sym (rw p.0 at (bytes_of-number_of w p.1))))
