-- The returns of `operation_at`. Assumes nothing.
use mathlib.Core.Path.{◌≡◌, refl, sym, ◌∙◌, ap}
use mathlib.Core.List.{List}
use Prim.Native.Nat.{ℕ, ◌+◌, ◌-◌, ◌≤◌, ◌<◌}
use native.Mathlib.Omega.{arith}
use lib.ListN.{length, take, drop}
use Rattle.history.specs.File.{got, fault, give, field, number}
use Rattle.fields.specs.Fields.{Moves}
use Rattle.fields.specs.declared.Reader.{Reader}
use Rattle.fields.proofs.Reading.{number_passes, field_passes, field_taken}
use Rattle.fields.proofs.Moving.{goes_on, ends, same_bytes}
use Rattle.call_lists.specs.Operations.{a_booking, read_operation, ItemRead}
use Rattle.std.specs.Prelude.{Some, None}

module _ {r₀ r₁ : Reader} where
  pub item_no_tick : Moves (number 8) (λ at. fault 17) r₀ r₁ → ItemRead r₀.file.now r₀.at None
  unfolding read_operation
  item_no_tick m₁ = record { says = (17, sym (ends m₁ _ refl)) }

  module _ {tick : ℕ} (m₁ : Moves (number 8) (λ at. got tick at) r₀ r₁) {r₂ : Reader} where
    pub item_no_first : Moves (number 8) (λ at. fault 17) r₁ r₂ → ItemRead r₀.file.now r₀.at None
    unfolding read_operation
    item_no_first m₂ = record { says = (17, sym (goes_on m₁ _ refl (ends m₂ _ refl))) }

    module _ {first : ℕ} (m₂ : Moves (number 8) (λ at. got first at) r₁ r₂) {r₃ : Reader} where
      pub item_no_length : Moves (number 8) (λ at. fault 17) r₂ r₃ → ItemRead r₀.file.now r₀.at None
      unfolding read_operation
      item_no_length m₃ = record { says = (17, sym (goes_on m₁ _ refl (goes_on m₂ _ refl (ends m₃ _ refl)))) }

      module _ {cells : ℕ} (m₃ : Moves (number 8) (λ at. got cells at) r₂ r₃) {r₄ : Reader} where
        pub item_cut : Moves (field cells) (λ at. fault 17) r₃ r₄ → ItemRead r₀.file.now r₀.at None
        unfolding read_operation
        item_cut m₄ = record { says = (17, sym (goes_on m₁ _ refl (goes_on m₂ _ refl (goes_on m₃ _ refl (ends m₄ _ refl))))) }

        pub item_whole : {bytes : List ℕ} → Moves (field cells) (λ at. got bytes at) r₃ r₄
            → ItemRead r₀.file.now r₀.at (Some (record { tick = tick; first = first; start = r₃.at; next = r₄.at }))
        unfolding read_operation give
        item_whole {bytes} m₄ =
            let file : r₃.file.now ≡ r₀.file.now = same_bytes m₃ ∙ same_bytes m₂ ∙ same_bytes m₁ in
            let s₁ = number_passes r₀.file.now r₀.at 8 (sym m₁.is) in
            let s₂ = number_passes r₁.file.now r₁.at 8 (sym m₂.is) in
            let s₃ = number_passes r₂.file.now r₂.at 8 (sym m₃.is) in
            let (s₄, l) = field_passes r₃.file.now r₃.at cells (sym m₄.is) in
            let wide : r₄.at - r₃.at ≡ cells = omega (arith, s₄.place) in
            let taken : bytes ≡ take (r₄.at - r₃.at) (drop r₃.at r₀.file.now) = rw (wide, ← file) (field_taken r₃.file.now r₃.at cells (sym m₄.is)) in
            record {
              says = (
                sym (goes_on m₁ _ refl (goes_on m₂ _ refl (goes_on m₃ _ refl (goes_on m₄ _ refl refl))))
                    ∙ ap (λ (b : List ℕ). got (a_booking tick first b) r₄.at) taken,
                omega (arith, s₄.place),
                rw file at s₄.inside,
                omega (arith, s₁.place, s₂.place, s₃.place, s₄.place),
              );
            }
