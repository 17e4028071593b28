-- What the numbers mean that Rust and C get. Definitions alone.
use Rattle.std.specs.Prelude.{◌≡◌, cond, ℕ, eqb, Option, Some, None, Ok, Err}
use Rattle.std.specs.Prelude.{Result as Told}
use Rattle.refusals.specs.declared.Refusal.{Refusal}
use Rattle.refusals.specs.Numbers.{number_of}
use Rattle.history.specs.Results.{Result, done, read, update, number as counted}
use Rattle.history.specs.Refusals.{Answer, accepted, refused}
use Rattle.history.specs.Occupation.{Report}
use Rattle.layout.specs.Reads.{values_of}
use Rattle.layout.specs.Relations.{Counts, Near, Fields}
use Rattle.info.specs.Info.{Summary}
use Rattle.servercape.specs.declared.answers.Info.{Info}

-- 0 is accepted, and gives the values handed out; any other number is that refusal
unfoldable pub answer_of : {A : Type 0} → (number : ℕ) → A → Answer A
answer_of n a = cond (eqb n 0) (accepted a) (refused n)

-- The relation of a call, at the answer that its number and the values at exit stand for. On a refusal the values are as they were.
pub record ByNumber {A : Type 0} (relation : Answer A → Type 0) (number : ℕ) (before after : A) : Type 0 where
  pub answered : relation (answer_of number after)
  pub kept : (number ≡ 0 → ⊥) → after ≡ before

-- the relation of a call at an answer of which only some values are handed out
pub record ToldAs {A B : Type 0} (values : A → B) (relation : Answer A → Type 0) (answer : Answer B) : Type 0 where
  pub behind : Answer A
  pub holds : relation behind
  pub is : answer ≡ values_of values behind

-- ── a result by its number ──

abbrev pub told_by : {A : Type 0} → Told A Refusal → ℕ
told_by (Ok a) = 0
told_by (Err e) = number_of e

-- what it gives, or what was there before
abbrev pub given_or : {A B : Type 0} → (A → B) → B → Told A Refusal → B
given_or gives before (Ok a) = gives a
given_or gives before (Err e) = before

-- a result handed out
pub record Handed {A B : Type 0} (gives : A → B) (x : Told A Refusal) (number : ℕ) (before after : B) : Type 0 where
  pub numbered : number ≡ told_by x
  pub given : after ≡ given_or gives before x

-- a number that may be missing, as two: 1 and the number, or 0 and 0
abbrev pub flagged : Option ℕ → ℕ × ℕ
flagged (Some n) = (1, n)
flagged None = (0, 0)

-- ── the values handed out ──

-- whether record updated, and the lowest cell that it changed; 0 and 0 of a read
pub record Changes : Type 0 where
  pub updated : ℕ
  pub cell : ℕ

abbrev pub changes : (updated cell : ℕ) → Changes
changes updated cell = record { updated = updated; cell = cell }

abbrev pub changes_of : Result → Changes
changes_of (update c) = changes 1 c
changes_of read = changes 0 0
changes_of done = changes 0 0
changes_of (counted n) = changes 0 0

abbrev pub counts : (count visited : ℕ) → Counts
counts count visited = record { count = count; visited = visited }

abbrev pub near : (found number : ℕ) → Near
near found number = record { found = found; number = number }

abbrev pub fields : (kind first length created destroyed offset : ℕ) → Fields
fields kind first length created destroyed offset =
    record { kind = kind; first = first; length = length; created = created; destroyed = destroyed; offset = offset }

-- of nine numbers
abbrev pub summary : Info → Summary
summary i =
    record {
      state = i.state;
      end_tick = i.end_tick;
      last_tick = i.last_tick;
      kinds = i.kinds;
      pieces = i.pieces;
      blocks = i.blocks;
      store = i.store;
      nodes = i.nodes;
      entries = i.entries;
    }

-- a fraction reduced fully, and tenths of a percent
abbrev pub report : (occupied cells tenths : ℕ) → Report
report occupied cells tenths = record { fraction = record { part = occupied; whole = cells }; tenths = tenths }
