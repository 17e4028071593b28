-- What an answer means tells the answer: no two answers of a call mean the same. Statements alone: the proof stands in proofs/Telling.
use Rattle.std.specs.Prelude.{◌≡◌, ℕ}
use Rattle.info.specs.Answers.{summary_given}
use Rattle.index_record.specs.Calls.{recorded}
use Rattle.index_read.specs.Answers.{counts_given, fields_given}
use Rattle.history.specs.Results.{done}
use Rattle.refusals.specs.Numbers.{answer_by}
use Rattle.occupation.specs.Windows.{report_given}
use Rattle.touching_read.specs.Answers.{near_told}

-- a meaning is injective
abbrev pub Injective : {A B : Type 0} → (A → B) → Type 0
Injective {A} {B} of = (x y : A) → of x ≡ of y → x ≡ y

-- of each public call
pub record Meanings : Type 0 where
  pub opening : Injective (answer_by (λ (u : Unit {0}). u))
  pub record_op : Injective (answer_by recorded)
  pub finalize : Injective (answer_by (λ (u : Unit {0}). done))
  -- a calendar and a list of days
  pub install : Injective (answer_by (λ (u : Unit {0}). done))
  pub clock : Injective (answer_by (λ (n : ℕ). n))
  pub info : Injective (answer_by summary_given)
  pub block : Injective (answer_by fields_given)
  pub find : Injective (answer_by counts_given)
  pub touching : Injective (answer_by (λ (n : ℕ). n))
  -- next and last
  pub neighbours : Injective (answer_by near_told)
  pub read_cells : Injective (answer_by (λ (u : Unit {0}). tt {0}))
  pub occupation : Injective (answer_by report_given)
  pub serialize_to : Injective (answer_by (λ (n : ℕ). n))
  pub deserialize : Injective (answer_by (λ (n : ℕ). n))
