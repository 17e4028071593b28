-- The tables between calls: opening makes them stand for the ledger, and record keeps them so. Assumes nothing.
use mathlib.Core.Path.{◌≡◌, ◌∙◌}
use mathlib.Core.Bool.{false}
use mathlib.Core.List.{[], ◌∷◌, List}
use Prim.Native.Nat.{ℕ}
use Rattle.history.specs.Words.{Operation}
use Rattle.history.specs.Lent.{too_short}
use Rattle.history.specs.Ledger.{Ledger, opened, is_read, record_by}
use Rattle.history.specs.Results.{Result}
use Rattle.history.specs.Refusals.{Answer, accepted, refused, open_answer, record_answer}
use Rattle.history.specs.Calls.{record_call, answer_to, accepted_by, leaves, after, after_all, noted, history}
use Rattle.history.specs.Law.{LedgerLaw}
use Rattle.history.specs.Printed.{board_scratch}
use Rattle.history.proofs.EveryList.{the_law, law_after, opened_open}
use Rattle.layout.specs.Tables.{Tables, lengths_of}
use Rattle.layout.specs.Relations.{opening_of, opened_tables, RecordLeaves}
use Rattle.layout.proofs.Recording.{record_blank, record_open}
use Rattle.layout.proofs.Opening.{opened_encodes, opened_blank}
use Rattle.board_lines.specs.Lines.{Standing}

-- ── record ──

pub record_stands : (o : Operation) (t t' : Tables) (l : Ledger) → Standing t l → RecordLeaves (record_answer l board_scratch o) l o t t'
    → Standing t' (after l (record_call board_scratch o))
unfolding after leaves answer_to accepted_by noted
record_stands o t t' l s x = go (record_answer l board_scratch o) (law_after l s.calls (record_call board_scratch o) s.law) x
  where
    go : (a : Answer Result) → LedgerLaw (leaves a l (record_by l o)) (noted s.calls (record_call board_scratch o) a) → RecordLeaves a l o t t'
        → Standing t' (leaves a l (record_by l o))
    go (accepted b) law x = record {
      encodes = x.0;
      calls = o ∷ s.calls;
      law = law;
      unfinished = record_open l o ∙ s.unfinished;
      blank = record_blank (is_read l.now o) l o t t' x.1 s.blank;
    }
    go (refused n) law x = rw x s

-- ── open ──

pub opened_stands : (end : ℕ) (kinds : List ℕ) (t : Tables) → too_short (lengths_of t) ≡ false → open_answer (opening_of end kinds t) ≡ accepted tt
    → Standing (opened_tables end kinds t) (opened (opening_of end kinds t))
unfolding after_all history
opened_stands end kinds t fits taken =
    record {
      encodes = opened_encodes end kinds t fits;
      calls = [];
      law = the_law (opening_of end kinds t) taken [];
      unfinished = opened_open (opening_of end kinds t);
      blank = opened_blank end kinds t;
    }
