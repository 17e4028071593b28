-- What is printed of a tally. Definitions alone.
use Rattle.std.specs.Prelude.{List, [], ◌∷◌, ◌++◌, ℕ}
use Rattle.history.specs.Printed.{decimal, newline}
use Rattle.tally.specs.declared.Tally.{Tally}

-- a count, then words
unfoldable pub count_text : (count : ℕ) (words : List ℕ) → List ℕ
count_text count words = decimal count [] ++ words

-- " compared, " and " differ, "
abbrev pub compared_text : List ℕ
compared_text = 32 ∷ 99 ∷ 111 ∷ 109 ∷ 112 ∷ 97 ∷ 114 ∷ 101 ∷ 100 ∷ 44 ∷ 32 ∷ []

abbrev pub differ_text : List ℕ
differ_text = 32 ∷ 100 ∷ 105 ∷ 102 ∷ 102 ∷ 101 ∷ 114 ∷ 44 ∷ 32 ∷ []

-- how many were compared, how many of them differ, and how many were refused
unfoldable pub tally_line : (tally : Tally) (words : List ℕ) → List ℕ
tally_line tally words =
    count_text tally.compared compared_text ++ (count_text tally.differ differ_text ++ (count_text tally.refused words ++ (newline ∷ [])))
