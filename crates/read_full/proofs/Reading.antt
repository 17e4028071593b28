-- Bytes read behind those that a buffer has. Assumes nothing.
use Rattle.std.proofs.Common.{◌≡◌, ℕ, ◌+◌, ◌-◌, ◌≤◌, List, ◌++◌, Option, length, take, drop, sym, ap, ◌∙◌, subst, le_refl, drop_at, length-take-le}
use Rattle.std.proofs.lemmas.Slice.{take-put_mid_below}
use Rattle.std.specs.Io.KnownBytes.{Consumes}
use Rattle.std.proofs.KnownBytes.{Consumes-trans}
use borrow.Rule.Slice.PartMut.{put_mid, post_of}
use lib.Seq.{take-add, take-append-le}

-- the n bytes at the start of a part that was put into a buffer stand behind what was there
behind : (done n : ℕ) (buffer part : List ℕ) → done ≤ length buffer → n ≤ length part
    → take done buffer ++ take n part ≡ take (done + n) (put_mid done (length buffer - done) buffer part)
behind done n buffer part within fits =
    let whole = put_mid done (length buffer - done) buffer part in
    let front : take done whole ≡ take done buffer = take-put_mid_below _ _ _ _ _ (le_refl _) within in
    let rest : take n (drop done whole) ≡ take n part =
    ap (take n) (drop_at (take done buffer) (part ++ post_of done (length buffer - done) buffer) done (length-take-le done buffer within))
    ∙ take-append-le n part (post_of done (length buffer - done) buffer) fits in
    ap (λ (l : List ℕ). l ++ take n part) (sym front) ∙ ap (λ (l : List ℕ). take done whole ++ l) (sym rest) ∙ sym (take-add done n whole)

-- what one more read took
pub taken_on : (before between after : Option (List ℕ)) (done n : ℕ) (buffer part : List ℕ) → done ≤ length buffer → n ≤ length part
    → Consumes before between (take done buffer) → Consumes between after (take n part)
    → Consumes before after (take (done + n) (put_mid done (length buffer - done) buffer part))
taken_on before between after done n buffer part within fits first second =
    subst (Consumes before after) (behind done n buffer part within fits) (Consumes-trans before between after _ _ first second)
