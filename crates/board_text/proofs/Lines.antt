-- Texts of numbers and bytes, and lines in parts. Assumes nothing.
use mathlib.Core.Path.{◌≡◌, refl, ◌∙◌, ap}
use mathlib.Core.List.{List, [], ◌∷◌, ◌++◌}
use Prim.Native.Nat.{ℕ, ◌+◌, ◌*◌, ◌/◌, ◌%◌, ◌≤◌, ◌<◌}
use native.Mathlib.Numerals.{add-one}
use native.Mathlib.Omega.{arith}
use lib.ListN.{length, get_or, take}
use lib.Seq.{take-suc, take_all}
use Rattle.history.specs.Days.{days_of}
use Rattle.history.specs.Reads.{clock_label}
use Rattle.history.specs.Printed.{digit, decimal, four_digits, hex_digit, hex_bytes, block_line, refused_line, refused_text, space, newline}
use Rattle.history.specs.Words.{Block, first_cell}
use Rattle.board_text.specs.declared.Output.{Output}
use Rattle.board_text.specs.Wrote.{Wrote}
use Rattle.board_text.specs.Line.{block_front, block_line_of, front_most, LawOfLines}
use Rattle.board_text.proofs.Digits.{digits_front, digits-length}
use Rattle.lists.proofs.Puts.{put_none, put_append, put_shown}

-- ── parts ──

pub wrote_none : (out : Output) → Wrote out [] out
wrote_none out = record { same_loan = refl; put = put_none out.buffer.now out.at }

-- one part behind another
pub wrote_append : {out mid after : Output} {xs ys : List ℕ} → Wrote out xs mid → Wrote mid ys after → Wrote out (xs ++ ys) after
wrote_append a b = record { same_loan = b.same_loan ∙ a.same_loan; put = put_append a.put b.put }

-- ── bytes in hexadecimal ──

pub hex_text : (bytes text : List ℕ) → hex_bytes bytes text ≡ hex_bytes bytes [] ++ text
unfolding hex_bytes
hex_text [] text = refl
hex_text (b ∷ bs) text = ap (λ (t : List ℕ). hex_digit (b / 16) ∷ hex_digit (b % 16) ∷ t) (hex_text bs text)

pub hex_append : (xs ys : List ℕ) → hex_bytes (xs ++ ys) [] ≡ hex_bytes xs [] ++ hex_bytes ys []
unfolding hex_bytes
hex_append [] ys = refl
hex_append (b ∷ bs) ys = ap (λ (t : List ℕ). hex_digit (b / 16) ∷ hex_digit (b % 16) ∷ t) (hex_append bs ys)

pub hex_byte : {out mid after : Output} {high low : ℕ} (byte : ℕ) → high ≡ hex_digit (byte / 16) → low ≡ hex_digit (byte % 16)
    → Wrote out (high ∷ []) mid → Wrote mid (low ∷ []) after → Wrote out (hex_bytes (byte ∷ []) []) after
unfolding hex_bytes
hex_byte {high} {low} byte e f a b = rw (← e, ← f) (wrote_append a b)

-- ── the loop of `hex` ──

pub hex_none : (out : Output) (bytes : List ℕ) → Wrote out (hex_bytes (take 0 bytes) []) out
unfolding hex_bytes
hex_none out bytes = wrote_none out

pub hex_one : {out mid after : Output} (bytes : List ℕ) (i : ℕ) → i < length bytes → Wrote out (hex_bytes (take i bytes) []) mid
    → Wrote mid (hex_bytes (get_or bytes i 0 ∷ []) []) after → Wrote out (hex_bytes (take (i + 1) bytes) []) after
hex_one bytes i h a b =
    rw (add-one i, take-suc bytes i 0 h, hex_append (take i bytes) (get_or bytes i 0 ∷ [])) (wrote_append a b)

pub hex_all : {out after : Output} (bytes : List ℕ) (i : ℕ) → length bytes ≤ i → Wrote out (hex_bytes (take i bytes) []) after
    → Wrote out (hex_bytes bytes []) after
hex_all bytes i h a = rw (take_all i bytes h) at a

-- ── the label ──

pub label_put : {out after : Output} {n a b c d : ℕ} (cell : ℕ) → n ≡ clock_label (days_of []) cell → a ≡ digit (n / 1000 % 10) → b ≡ digit (n / 100 % 10)
    → c ≡ digit (n / 10 % 10) → d ≡ digit (n % 10) → Wrote out (a ∷ b ∷ c ∷ d ∷ []) after → Wrote out (four_digits (clock_label [] cell) []) after
unfolding days_of four_digits
label_put cell e f g h i put = rw (← e, ← f, ← g, ← h, ← i) put

-- ── lines of numbers ──

pub field_put : {out mid after : Output} (n : ℕ) {c : ℕ} → Wrote out (decimal n []) mid → Wrote mid (c ∷ []) after → Wrote out (decimal n (c ∷ [])) after
field_put n {c} a b = rw (digits_front 20 n [] (c ∷ [])) (wrote_append a b)

-- a field, and what follows it
more_put : {out mid after : Output} (n : ℕ) {text : List ℕ} → Wrote out (decimal n (space ∷ [])) mid → Wrote mid text after
    → Wrote out (decimal n (space ∷ text)) after
more_put n {text} a b = rw (digits_front 20 n (space ∷ []) text) (wrote_append a b)

label_more : {out mid after : Output} (n : ℕ) {text : List ℕ} → Wrote out (four_digits n []) mid → Wrote mid text after
    → Wrote out (four_digits n text) after
unfolding four_digits
label_more n a b = wrote_append a b

pub front_put : {out o₁ o₂ o₃ o₄ o₅ after : Output} (first cells created destroyed : ℕ)
    → Wrote out (decimal first (space ∷ [])) o₁ → Wrote o₁ (decimal cells (space ∷ [])) o₂ → Wrote o₂ (decimal created (space ∷ [])) o₃
    → Wrote o₃ (decimal destroyed (space ∷ [])) o₄ → Wrote o₄ (four_digits (clock_label [] first) []) o₅ → Wrote o₅ (space ∷ []) after
    → Wrote out (block_front first cells created destroyed) after
unfolding block_front
front_put first cells created destroyed a b c d e f =
    more_put first a (more_put cells b (more_put created c (more_put destroyed d (label_more (clock_label [] first) e f))))

pub line_put : {out o₁ o₂ after : Output} (first created destroyed : ℕ) (bytes : List ℕ)
    → Wrote out (block_front first (length bytes) created destroyed) o₁ → Wrote o₁ (hex_bytes bytes []) o₂ → Wrote o₂ (newline ∷ []) after
    → Wrote out (block_line_of first created destroyed bytes) after
unfolding block_line_of
line_put first created destroyed bytes a b c = wrote_append a (wrote_append b c)

pub refused_put : {out mid after : Output} (what : List ℕ) (n : ℕ) → Wrote out what mid → Wrote mid (refused_text ++ decimal n (newline ∷ [])) after
    → Wrote out (refused_line what n) after
unfolding refused_line
refused_put what n a b = wrote_append a b

-- ── a block's line in parts ──

field_text : (n : ℕ) {text : List ℕ} (front rest : List ℕ) → text ≡ front ++ rest → decimal n (space ∷ text) ≡ decimal n (space ∷ front) ++ rest
field_text n {text} front rest e = ap (λ (t : List ℕ). decimal n (space ∷ t)) e ∙ digits_front 20 n (space ∷ front) rest

label_text : (n : ℕ) (rest : List ℕ) → four_digits n (space ∷ rest) ≡ four_digits n (space ∷ []) ++ rest
unfolding four_digits
label_text n rest = refl

label_length : (n : ℕ) (text : List ℕ) → length (four_digits n text) ≡ 4 + length text
unfolding four_digits
label_length n text = omega arith

front_fits : (first cells created destroyed : ℕ) → length (block_front first cells created destroyed) ≤ front_most
unfolding block_front
front_fits first cells created destroyed =
    let label = four_digits (clock_label [] first) (space ∷ []) in
    let a : length label ≡ 5 = label_length (clock_label [] first) (space ∷ []) in
    let b = digits-length 20 destroyed (space ∷ label) in
    let c = digits-length 20 created (space ∷ decimal destroyed (space ∷ label)) in
    let d = digits-length 20 cells (space ∷ decimal created (space ∷ decimal destroyed (space ∷ label))) in
    let e = digits-length 20 first (space ∷ decimal cells (space ∷ decimal created (space ∷ decimal destroyed (space ∷ label)))) in
    omega (arith, a, b, c, d, e)

hex_length : (bytes : List ℕ) → length (hex_bytes bytes []) ≡ 2 * length bytes
unfolding hex_bytes
hex_length [] = refl
hex_length (b ∷ bs) = omega (arith, hex_length bs)

line_parts : (b : Block) → block_line b ≡ block_line_of (first_cell b) b.created b.destroyed b.stretch.bytes
unfolding block_line block_line_of block_front
line_parts b =
    let rest : List ℕ = hex_bytes b.stretch.bytes [] ++ (newline ∷ []) in
    let label : List ℕ = four_digits (clock_label [] (first_cell b)) (space ∷ []) in
    let destroyed : List ℕ = decimal b.destroyed (space ∷ label) in
    let created : List ℕ = decimal b.created (space ∷ destroyed) in
    let cells : List ℕ = decimal (length b.stretch.bytes) (space ∷ created) in
    field_text (first_cell b) cells rest
    (field_text (length b.stretch.bytes) created rest
    (field_text b.created destroyed rest
    (field_text b.destroyed label rest
    (ap (λ (t : List ℕ). four_digits (clock_label [] (first_cell b)) (space ∷ t)) (hex_text b.stretch.bytes (newline ∷ []))
    ∙ label_text (clock_label [] (first_cell b)) rest))))

pub law_of_lines : LawOfLines
law_of_lines =
    record {
      shown = λ out at text after next. put_shown;
      in_parts = line_parts;
      of_bytes = hex_append;
      front_length = front_fits;
      bytes_length = hex_length;
      number-length = digits-length 20;
    }
