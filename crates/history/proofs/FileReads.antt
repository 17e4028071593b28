-- Written and read: bytes that stand in a file, and what readers, one after the other, give of them. Assumes nothing.
use mathlib.Core.Path.{◌≡◌, refl, sym, ◌∙◌, ap}
use mathlib.Core.Bool.{Bool, true}
use mathlib.Core.List.{List, [], ◌∷◌, flat_map, ◌++◌, append_assoc}
use Prim.Native.Nat.{ℕ, ◌<◌, ◌≤◌, ◌^◌, ◌+◌}
use native.Mathlib.Omega.{arith}
use lib.ListN.{length, get_or, take, drop, length-append}
use lib.Seq.{take_at, drop_at, drop-cons}
use borrow.Author.Tests.{lt-leb, le-leb}
use Rattle.lists.specs.Lists.{All, all_nil, all_cons}
use Rattle.lists.proofs.Lists.{all_left, all_right}
use Rattle.history.specs.File.{bytes_of, number_of, got, ◌>>=◌, onward, give, refuse◌unless◌, field, number, many, fault, Reader, ◌>>◌}
use Rattle.history.proofs.FileNumbers.{bytes_of-length, number_of-bytes_of, Bytes}

-- ── a field at a position ──

module _ (width : ℕ) (file : List ℕ) (at : ℕ) where
  -- all of it
  pub field_read : at + width ≤ length file → field width file at ≡ got (take width (drop at file)) (at + width)
  unfolding field
  field_read h = rw (le-leb (at + width) (length file) h) refl

  -- 17: bytes end inside it
  pub field_cut : length file < at + width → field width file at ≡ fault 17
  unfolding field
  field_cut h = rw (lt-leb (at + width) (length file) h) refl

  pub number_read : at + width ≤ length file → number width file at ≡ got (number_of (take width (drop at file))) (at + width)
  unfolding number ◌>>=◌ onward give
  number_read h = rw (field_read h) refl

  pub number_cut : length file < at + width → number width file at ≡ fault 17
  unfolding number ◌>>=◌ onward
  number_cut h = rw (field_cut h) refl

-- a byte
pub byte_read : (file : List ℕ) (at : ℕ) → at < length file → number 1 file at ≡ got (get_or file at 0) (at + 1)
unfolding number_of
byte_read file at h = number_read 1 file at (omega arith) ∙ rw (drop-cons file at 0 h) (ap (λ (b : ℕ). got b (at + 1)) (omega arith))

-- ── bytes in a file ──

-- the bytes stand in the file at a position
pub record Stands (file : List ℕ) (at : ℕ) (bytes : List ℕ) : Type 0 where
  pub before : List ℕ
  pub behind : List ℕ
  pub place : length before ≡ at
  pub whole : file ≡ before ++ (bytes ++ behind)

module _ {file : List ℕ} {at : ℕ} where
  -- the first of two parts
  pub stands_left : (u v : List ℕ) → Stands file at (u ++ v) → Stands file at u
  stands_left u v s =
      record { before = s.before; behind = v ++ s.behind; place = s.place; whole = s.whole ∙ ap (λ (r : List ℕ). s.before ++ r) (append_assoc u v s.behind) }

  -- and the second, behind it
  pub stands_right : (u v : List ℕ) → Stands file at (u ++ v) → Stands file (at + length u) v
  stands_right u v s =
      record {
        before = s.before ++ u;
        behind = s.behind;
        place = length-append s.before u ∙ ap (λ (n : ℕ). n + length u) s.place;
        whole = s.whole ∙ ap (λ (r : List ℕ). s.before ++ r) (append_assoc u v s.behind) ∙ sym (append_assoc s.before u (v ++ s.behind));
      }

  -- the end of the bytes is inside the file
  pub stands_fits : {w : List ℕ} → Stands file at w → at + length w ≤ length file
  stands_fits {w} s =
      rw (s.whole, ← s.place) (simp length-append (omega arith))

  -- they are what lies there
  pub stands_taken : {w : List ℕ} → Stands file at w → take (length w) (drop at file) ≡ w
  stands_taken {w} s = rw (s.whole, drop_at s.before (w ++ s.behind) at s.place) (take_at w s.behind (length w) refl)

  -- in a file of bytes they are bytes
  pub stands_bytes : {w : List ℕ} → Stands file at w → Bytes file → Bytes w
  stands_bytes {w} s h =
      let all : Bytes (s.before ++ (w ++ s.behind)) = rw s.whole at h in
      all_left w s.behind (all_right s.before (w ++ s.behind) all)

  -- bytes that follow one another stand together
  pub stands_append : (u v : List ℕ) → Stands file at u → Stands file (at + length u) v → Stands file at (u ++ v)
  stands_append u v s z =
      let place : length (s.before ++ u) ≡ at + length u = length-append s.before u ∙ ap (λ (n : ℕ). n + length u) s.place in
      let rest : s.behind ≡ v ++ z.behind =
      sym (drop_at (s.before ++ u) s.behind (at + length u) place)
      ∙ ap (drop (at + length u)) (append_assoc s.before u s.behind ∙ sym s.whole ∙ z.whole)
      ∙ drop_at z.before (v ++ z.behind) (at + length u) z.place in
      record {
        before = s.before;
        behind = z.behind;
        place = s.place;
        whole = s.whole ∙ ap (λ (r : List ℕ). s.before ++ (u ++ r)) rest ∙ ap (λ (r : List ℕ). s.before ++ r) (sym (append_assoc u v z.behind));
      }

-- ── what a reader gives of written bytes ──

-- the reader gives x of these bytes, wherever they stand, and goes on behind them
pub record Reads {A : Type 0} (r : Reader A) (bytes : List ℕ) (x : A) : Type 0 where
  pub gives : (file : List ℕ) (at : ℕ) → Stands file at bytes → r file at ≡ got x (at + length bytes)

module _ {A : Type 0} where
  -- a value without bytes
  pub reads_give : (x : A) → Reads (give x) [] x
  unfolding give
  reads_give x = record { gives = λ file at s. ap (got x) (omega arith) }

module _ {A B : Type 0} where
  -- one after the other
  pub reads_bind : (k : A → Reader B) {r : Reader A} {u v : List ℕ} {x : A} {y : B} → Reads r u x → Reads (k x) v y → Reads (r >>= k) (u ++ v) y
  unfolding ◌>>=◌ onward
  reads_bind k {r} {u} {v} {x} {y} p q =
      record {
        gives = λ file at s.
            rw (p.gives file at (stands_left u v s)) (q.gives file (at + length u) (stands_right u v s) ∙ ap (got y) (rw (length-append u v) (omega arith)));
      }

module _ {A : Type 0} where
  -- a test that holds takes no bytes
  pub reads_check : (number : ℕ) (t : Bool) {s : Reader A} {v : List ℕ} {y : A} → t ≡ true → Reads s v y → Reads (refuse number unless t >> s) v y
  unfolding ◌>>=◌ onward refuse◌unless◌
  reads_check i t e q = record { gives = λ file at z. rw e (q.gives file at z) }

module _ {A B : Type 0} where
  -- a reader whose value is taken further
  pub reads_map : (f : A → B) {r : Reader A} {u : List ℕ} {x : A} → Reads r u x → Reads (r >>= (λ a. give (f a))) u (f x)
  unfolding ◌>>=◌ onward give
  reads_map f p = record { gives = λ file at s. rw (p.gives file at s) refl }

-- a field
pub reads_field : (width : ℕ) (bytes : List ℕ) → length bytes ≡ width → Reads (field width) bytes bytes
reads_field width w e =
    rw (← e) (record { gives = λ file at s. rw (field_read (length w) file at (stands_fits s), stands_taken s) refl })

-- a number that fits
pub reads_number : (width n : ℕ) → n < 256 ^ width → Reads (number width) (bytes_of width n) n
unfolding number
reads_number width n h = rw (number_of-bytes_of width n h) at (reads_map number_of (reads_field width (bytes_of width n) (bytes_of-length width n)))

module _ {A : Type 0} where
  -- a list
  pub reads_many : (r : Reader A) (bytes : A → List ℕ) {xs : List A} → All (λ x. Reads r (bytes x) x) xs → Reads (many r (length xs)) (flat_map bytes xs) xs
  unfolding many flat_map
  reads_many r bytes all_nil = reads_give []
  reads_many r bytes (all_cons {x} p ps) = reads_bind _ p (reads_map (λ (ys : List A). x ∷ ys) (reads_many r bytes ps))
