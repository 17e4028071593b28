-- What `find_all` does: finds one after the other. Definitions alone.
use Rattle.std.specs.Prelude.{◌≡◌, List, [], ◌∷◌, ◌++◌, map, ℕ, suc, ◌+◌, ◌*◌, ◌/◌, min, length, get_or, take, drop}
use Rattle.std.proofs.lemmas.List.Edits.{sets}
use Rattle.history.specs.Refusals.{Answer, accepted, refused}
use Rattle.layout.specs.Tables.{Tables}
use Rattle.layout.specs.Relations.{Counts, FoundBy}
use Rattle.index_test.specs.declared.State.{State}
use Rattle.index_tested.specs.Tested.{FoundTested}
use Rattle.call_lists.specs.Threes.{Three, three, threes}

-- ── the answers ──

-- the refusal or 0; how many are listed; how many nodes were visited
abbrev pub shown_of : Answer Counts → Three
shown_of (accepted c) = three 0 c.count c.visited
shown_of (refused n) = three n 0 0

-- how many numbers an answer takes
abbrev pub taken : Answer Counts → ℕ
taken (accepted c) = c.count
taken (refused n) = 0

-- ── the calls ──

-- tick, start and end of query i
abbrev pub asked : (queries : List ℕ) (i c : ℕ) → ℕ
asked queries i c = get_or queries (3 * i + c) 0

-- Calls of `find` with the queries from the i-th on, all of one kind and so many: each is lent the numbers behind those that the ones before have taken.
pub data Finds (t : Tables) (kind : ℕ) (queries : List ℕ) : (left i : ℕ) (numbers : List ℕ) (used : ℕ) (given : List (Answer Counts)) (numbers' : List ℕ) → Type 0 where
  finds_none : {i used : ℕ} {numbers : List ℕ} → Finds t kind queries 0 i numbers used [] numbers
  finds_more : {left i used : ℕ} {numbers out numbers' : List ℕ} {a : Answer Counts} {given : List (Answer Counts)}
      → FoundBy t kind (asked queries i 0) (asked queries i 1) (asked queries i 2) (drop used numbers) out a
      → Finds t kind queries left (i + 1) (take used numbers ++ out) (used + taken a) given numbers'
      → Finds t kind queries (suc left) i numbers used (a ∷ given) numbers'

-- `find_all`: as many queries as are whole and have places for their answers, three numbers each
pub record FoundAll (t : Tables) (kind : ℕ) (queries answers answers' numbers numbers' : List ℕ) (count : ℕ) : Type 0 where
  pub given : List (Answer Counts)
  pub calls : Finds t kind queries (min (length queries) (length answers) / 3) 0 numbers 0 given numbers'
  pub shown : answers' ≡ sets answers 0 (threes (map shown_of given))
  pub counted : count ≡ length given

-- ── inside ──

-- `find_behind`: the i-th query at a state, lent the numbers behind so many
pub record FoundBehind (s : State) (blocks nodes entries : List ℕ) (kind : ℕ) (queries : List ℕ) (i : ℕ) (numbers : List ℕ) (used : ℕ) (numbers' : List ℕ) (answer : Answer Counts) : Type 0 where
  pub out : List ℕ
  pub tested : FoundTested s blocks nodes entries kind (asked queries i 0) (asked queries i 1) (asked queries i 2) (drop used numbers) out answer
  pub is : numbers' ≡ take used numbers ++ out

-- `find_one`: its answer at its place, and the place behind its numbers
pub record FoundOne (s : State) (blocks nodes entries : List ℕ) (kind : ℕ) (queries : List ℕ) (i : ℕ) (answers answers' numbers numbers' : List ℕ) (used used' : ℕ) : Type 0 where
  pub answer : Answer Counts
  pub found : FoundBehind s blocks nodes entries kind queries i numbers used numbers' answer
  pub shown : answers' ≡ sets answers (3 * i) ((shown_of answer).refusal ∷ (shown_of answer).one ∷ (shown_of answer).other ∷ [])
  pub behind : used' ≡ min (used + taken answer) (length numbers)
