-- Three numbers for each answer, in a row. Definitions alone.
use Rattle.std.specs.Prelude.{List, [], ◌∷◌, ℕ}

-- the refusal or 0, and two values
pub record Three : Type 0 where
  pub refusal : ℕ
  pub one : ℕ
  pub other : ℕ

abbrev pub three : (refusal one other : ℕ) → Three
three r a b = record { refusal = r; one = a; other = b }

unfoldable pub threes : List Three → List ℕ
threes [] = []
threes (x ∷ xs) = x.refusal ∷ x.one ∷ x.other ∷ threes xs
