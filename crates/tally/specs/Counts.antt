-- What a tally holds after each thing that is counted. Definitions alone.
use Rattle.std.specs.Prelude.{Bool, cond, Option, Some, None, ℕ, ◌+◌, ◌-◌, ◌^◌, min}
use Rattle.tally.specs.declared.Tally.{Tally}

-- one more; the largest number of 64 bits stays
abbrev pub raised : ℕ → ℕ
raised n = min (n + 1) (2 ^ 64 - 1)

-- an answer compared: it differs where it is not alike
abbrev pub with_answer : (tally : Tally) (alike : Bool) → Tally
with_answer tally alike =
    record { compared = raised tally.compared; differ = cond alike tally.differ (raised tally.differ); refused = tally.refused }

-- a call or a table refused
abbrev pub with_refused : (tally : Tally) → Tally
with_refused tally = record { compared = tally.compared; differ = tally.differ; refused = raised tally.refused }

-- the number of a refusal, or none
abbrev pub with_refusal : (tally : Tally) (told : Option ℕ) → Tally
with_refusal tally (Some number) = with_refused tally
with_refusal tally None = tally
