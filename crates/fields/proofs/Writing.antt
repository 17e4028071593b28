-- Bytes put over a part of a slice: as `sets` has it. Assumes nothing.
use mathlib.Core.Path.{◌≡◌, refl, sym, ◌∙◌, ap}
use mathlib.Core.List.{List}
use Prim.Native.Nat.{ℕ, ◌+◌, ◌/◌, ◌%◌, ◌≤◌, ◌<◌}
use native.Mathlib.Omega.{arith}
use lib.ListN.{length, get_or, set, take}
use lib.Seq.{set_out, take_all}
use borrow.Rule.Slice.PartMut.{put_mid}
use Rattle.std.proofs.Common.{append_assoc}
use Rattle.std.proofs.lemmas.List.Edits.{sets, sets-eq, paste_all}
use Rattle.std.proofs.lemmas.Slice.{put_mid-paste}
use Rattle.std.specs.Int.{w64, to_le_bytes}
use Rattle.lists.proofs.Stores.{sets-past}
use Rattle.tables.proofs.Past.{sets_more}
use Rattle.history.specs.File.{bytes_of}

-- bytes over a part that is as long as they are
pub put_mid-sets : (out : List ℕ) (at k : ℕ) (part bytes : List ℕ) → at + k ≤ length out → k ≡ length bytes → part ≡ bytes
    → put_mid at k out part ≡ sets out at bytes
put_mid-sets out at k part bytes room n e =
    let m : at + k ≡ at + length bytes = omega arith in
    put_mid-paste at k out part bytes k e refl n ∙ paste_all out at bytes k n
    ∙ rw (m, ← append_assoc) (sym (sets-eq bytes out at (omega arith)))

pub put-past : (out : List ℕ) (at : ℕ) (bytes : List ℕ) → length out ≤ at → out ≡ sets out at bytes
put-past out at bytes h = sym (sets-past bytes out at h)

-- ── the lowest byte, and all eight ──

pub put_one : (out : List ℕ) (at value : ℕ) → set out at (value % 256) ≡ sets out at (bytes_of 1 value)
unfolding bytes_of
put_one out at value = refl

pub eight_bytes : (value : ℕ) → to_le_bytes w64 value ≡ bytes_of 8 value
unfolding bytes_of
eight_bytes value =
    let p : value / 65536 ≡ value / 256 / 256 = omega arith in
    let q : value / 16777216 ≡ value / 256 / 256 / 256 = omega arith in
    let r : value / 4294967296 ≡ value / 256 / 256 / 256 / 256 = omega arith in
    let s : value / 1099511627776 ≡ value / 256 / 256 / 256 / 256 / 256 = omega arith in
    let t : value / 281474976710656 ≡ value / 256 / 256 / 256 / 256 / 256 / 256 = omega arith in
    let u : value / 72057594037927936 ≡ value / 256 / 256 / 256 / 256 / 256 / 256 / 256 = omega arith in
    rw (p, q, r, s, t, u) refl

pub put_eight : (out : List ℕ) (at k value : ℕ) (part bytes : List ℕ) → bytes ≡ to_le_bytes w64 value → part ≡ bytes → k ≡ 8 → at + 8 ≤ length out
    → put_mid at k out part ≡ sets out at (bytes_of 8 value)
put_eight out at k value part bytes b e n room =
    let long : k ≡ length bytes = rw b n in
    put_mid-sets out at k part bytes (omega arith) long e ∙ ap (λ (l : List ℕ). sets out at l) (b ∙ eight_bytes value)

-- ── byte by byte, as far as the slice goes ──

-- the first i bytes are written
pub record WrittenTo (out out' : List ℕ) (at : ℕ) (bytes : List ℕ) (i : ℕ) : Type 0 where
  pub is : out' ≡ sets out at (take i bytes)

module _ {out out' : List ℕ} {at i : ℕ} {bytes : List ℕ} (w : WrittenTo out out' at bytes i) (more : i < length bytes) where
  pub written_more : {b : ℕ} → b ≡ get_or bytes i 0 → WrittenTo out (set out' (at + i) b) at bytes (i + 1)
  written_more e = record { is = rw (w.is, e) (sets_more out bytes at i more) }

  pub written_past : length out' ≤ at + i → WrittenTo out out' at bytes (i + 1)
  written_past h = record { is = sym (set_out out' (at + i) (get_or bytes i 0) h) ∙ (written_more refl).is }

pub eight_long : (value : ℕ) {bytes : List ℕ} → bytes ≡ to_le_bytes w64 value → length bytes ≡ 8
eight_long value e = rw e refl

pub written_all : {out out' : List ℕ} {at i : ℕ} (value : ℕ) {bytes : List ℕ} → WrittenTo out out' at bytes i → length bytes ≤ i → bytes ≡ to_le_bytes w64 value
    → out' ≡ sets out at (bytes_of 8 value)
written_all {out} {at = at} value w all b = w.is ∙ ap (λ (l : List ℕ). sets out at l) (take_all _ _ all ∙ b ∙ eight_bytes value)

pub ruleset writing = (put-past, put_one, put_eight, eight_bytes)
