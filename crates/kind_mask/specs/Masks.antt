-- The mask of a set of kinds, as it stands in the head, made of the kinds that are given. Definitions alone: its laws stand in proofs/Masks.antt.
use Rattle.std.specs.Prelude.{◌≡◌, cond, List, [], ◌∷◌, ℕ, ◌+◌, ◌^◌, ◌≤◌, ◌<◌, length}
use Rattle.lists.specs.Lists.{All, has}
use Rattle.history.specs.Words.{all_kinds}

-- the bits of those of the kinds ks that stand in a list
unfoldable pub mask_from : (given : List ℕ) (ks : List ℕ) → ℕ
mask_from given [] = 0
mask_from given (k ∷ ks) = cond (has k given) (2 ^ k) 0 + mask_from given ks

-- bit k for kind k: two lists that name the same kinds give the same mask
abbrev pub mask_of : (given : List ℕ) → ℕ
mask_of given = mask_from given all_kinds

-- `with_kind`: of the mask of a list, that of one kind more
pub record WithKind (mask kind out : ℕ) : Type 0 where
  pub is : (given : List ℕ) → mask ≡ mask_of given → out ≡ mask_of (kind ∷ given)

-- kinds that opening takes: at least one, and none above 4
pub record Taken (given : List ℕ) : Type 0 where
  pub some_kind : 0 < length given
  pub known : All (λ kind. kind ≤ 4) given

-- `mask_of`: the mask of kinds that opening takes, 0 of others
pub record MaskGiven (given : List ℕ) (out : ℕ) : Type 0 where
  pub some : (out ≡ 0 → ⊥) → Taken given × (out ≡ mask_of given)
  pub none : out ≡ 0 → Taken given → ⊥
