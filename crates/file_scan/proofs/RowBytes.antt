-- Where the entries of a node stand that was read: what the second pass copies. Assumes nothing.
use mathlib.Core.Path.{◌≡◌, sym, ◌∙◌}
use mathlib.Core.Logic.{⊎_elim}
use mathlib.Core.Bool.{Bool, true, false, cond}
use mathlib.Core.List.{List}
use Prim.Native.Nat.{ℕ, ◌+◌, ◌*◌, ◌≤◌}
use native.Mathlib.Omega.{arith}
use lib.ListN.{length}
use lib.Dec.{eqb}
use Rattle.lists.proofs.Numbers.{le_or_lt}
use Rattle.history.specs.File.{got, ◌>>=◌, give, number, many}
use Rattle.history.proofs.FileYields.{got_value, fault_got}
use Rattle.file_scan.specs.Rows.{row_head, head_absent, head_present, read_present, read_head}
use Rattle.fields.proofs.Reading.{Passes, number_passes}
use Rattle.file_scan.proofs.Readers.{onward_got, refuse_got, four_passes, numbers_at, many_got, many_end, many_passes}
use Rattle.file_scan.proofs.RowReads.{present_parts}

-- ── a node ──

many_numbers : (file : List ℕ) (at count : ℕ) {ns : List ℕ} {n : ℕ} → at ≤ length file → many (number 8) count file at ≡ got ns n → ns ≡ numbers_at file at count
many_numbers file at count i e =
    ⊎_elim (λ h. got_value (sym e ∙ many_got file at count h)) (λ h. absurd (fault_got (sym (many_end file at count i h) ∙ e))) (le_or_lt (at + 8 * count) (length file))

pub head_entries : (file : List ℕ) (at : ℕ) {a b c n : ℕ} {es : List ℕ} → read_head file at ≡ got (head_present a b c es) n
    → es ≡ numbers_at file (at + row_head) (length es)
unfolding read_head ◌>>=◌ give
head_entries file at {a} {b} {c} {n} {es} e =
    onward_got _ _ e λ presence p e₁ r₁.
    refuse_got 19 _ _ _ _ r₁ λ t r₂.
    chosen (number_passes file at 1 e₁) (eqb presence 0) r₂
  where
    chosen : {p : ℕ} → Passes file at 1 p → (t : Bool) → cond t (give head_absent) read_present file p ≡ got (head_present a b c es) n
        → es ≡ numbers_at file (at + row_head) (length es)
    chosen s₁ true r = absurd (let z : ◌≡◌ {A = ℕ} 0 1 = cc in omega arith)
    chosen {p} s₁ false r =
        onward_got _ _ (sym (present_parts file p) ∙ r) λ q p₂ e₂ r₂.
        onward_got _ _ r₂ λ ns p₃ e₃ r₃.
        let s₂ = four_passes file p e₂ in
        let place : p₂ ≡ at + row_head = omega arith in
        let (s₃, l) = many_passes file p₂ q.d s₂.inside e₃ in
        let same : ns ≡ es = cc in
        rw (← same, l, ← place) (many_numbers file p₂ q.d s₂.inside e₃)
