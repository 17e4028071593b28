-- The refusals of record that depend on the call and the board, 25 and 5 to 11 but for 26, by the numbers that they compare. Definitions alone: that they are the ledger's
-- stands in proofs/Refusing.antt.
use Rattle.std.specs.Prelude.{◌≡◌, Bool, not, List, [], ◌∷◌, ℕ, ◌+◌, ◌-◌, ◌/◌, ◌^◌, leb, ltb, eqb, length, Result}
use Rattle.history.specs.Lent.{row_width, piece_head, block_head}
use Rattle.history.specs.Refusals.{Answer, Refusal, ◌if◌, first_of}
use Rattle.refusals.specs.declared.Refusal.{Refusal as Named}
use Rattle.refusals.specs.Numbers.{answer_by}
use Rattle.tables.specs.Masks.{opens}
use Rattle.tables.specs.Columns.{block_column, head_end, head_kinds, head_last, head_count, head_used}

-- of the call itself: 25, where its kind is not opened, and 5 to 8
unfoldable pub call_refusals : (opened : Bool) (end last tick first size : ℕ) → List Refusal
call_refusals opened end last tick first size =
    25 if not opened
    ∷ 5 if eqb size 0
    ∷ 6 if ltb (2 ^ 64 - 1) (first + size)
    ∷ 7 if leb end tick
    ∷ 8 if ltb tick last
    ∷ []

-- of an update that leaves so many pieces, blocks and bytes where there is space for so many: 9 to 11
unfoldable pub space_refusals : (space rows bytes : ℕ) (pieces blocks used : ℕ) → List Refusal
space_refusals space rows bytes pieces blocks used =
    9 if ltb space pieces
    ∷ 10 if ltb rows (blocks + pieces)
    ∷ 11 if ltb bytes used
    ∷ []

-- the same by the lent tables: an update of `size` bytes leaves `left` pieces and records `made` blocks
abbrev pub lent_refusals : (pieces blocks store : List ℕ) (left made size : ℕ) → List Refusal
lent_refusals pieces blocks store left made size =
    space_refusals ((length pieces - piece_head) / row_width) ((length blocks - block_head) / row_width) (length store) left
    (block_column blocks 0 head_count + made) (block_column blocks 0 head_used + size)

-- the answer by a list of refusals
abbrev pub first_answer : List Refusal → Answer Unit
first_answer rs = first_of rs tt

-- r is the first refusal whose condition holds, and there is none where it is accepted
abbrev pub First : (r : Result Unit Named) (rs : List Refusal) → Type 0
First r rs = first_answer rs ≡ answer_by (λ u. u) r

-- `call_refusal`
pub record CallTested (blocks : List ℕ) (kind tick first size : ℕ) (r : Result Unit Named) : Type 0 where
  pub finds : First r (call_refusals (opens (block_column blocks 0 head_kinds) kind) (block_column blocks 0 head_end) (block_column blocks 0 head_last) tick first size)

-- `space_refusal`
pub record SpaceTested (pieces blocks store : List ℕ) (left made size : ℕ) (r : Result Unit Named) : Type 0 where
  pub finds : First r (lent_refusals pieces blocks store left made size)
