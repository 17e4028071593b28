-- Each answer can be told from its meaning: a meaning that can be undone is injective. Assumes nothing.
use mathlib.Core.Path.{◌≡◌, refl, ap, sym, ◌∙◌}
use mathlib.Core.Bool.{cond}
use Prim.Native.Nat.{ℕ}
use lib.Dec.{eqb}
use Rattle.history.specs.Results.{Result, done, read, update, number}
use Rattle.layout.specs.Relations.{Counts, Near, Fields}
use Rattle.index_test.specs.States.{state_numbered}
use Rattle.index_test.proofs.Numbers.{number_back}
use Rattle.info.specs.Info.{Summary}
use Rattle.info.specs.Answers.{summary_given}
use Rattle.info.specs.declared.Summary.{Summary as Given}
use Rattle.index_record.specs.Calls.{recorded}
use Rattle.index_read.specs.Answers.{counts_given, fields_given}
use Rattle.index_read.specs.declared.Found.{Found}
use Rattle.index_read.specs.declared.Block.{Block}
use Rattle.history.specs.Occupation as history
use Rattle.occupation.specs.declared.Report.{Report}
use Rattle.occupation.specs.Windows.{report_given}
use Rattle.refusals.specs.Numbers.{answer_by}
use Rattle.refusals.proofs.Numbers.{result_back, result_same}
use Rattle.std.specs.Prelude.{Option, Some, None}
use Rattle.touching_read.specs.Answers.{near_told}
use Rattle.promises.specs.Meanings.{Injective, Meanings}

undone : {A B : Type 0} (of : A → B) (back : B → A) → ((x : A) → back (of x) ≡ x) → Injective of
undone of back same x y e = sym (same x) ∙ (ap back e ∙ same y)

-- ── the answers from their meanings ──

abbrev recorded_back : Result → Option ℕ
recorded_back (update c) = Some c
recorded_back read = None
recorded_back done = None
recorded_back (number n) = None

recorded_same : (x : Option ℕ) → recorded_back (recorded x) ≡ x
recorded_same None = refl
recorded_same (Some c) = refl

abbrev found_back : Counts → Found
found_back c = record { count = c.count; visited = c.visited }

abbrev block_back : Fields → Block
block_back f = record { kind = f.kind; first = f.first; length = f.length; created = f.created; destroyed = f.destroyed; offset = f.offset }

abbrev summary_back : Summary → Given
summary_back s =
    record {
      state = state_numbered s.state;
      end_tick = s.end_tick;
      last_tick = s.last_tick;
      kinds = s.kinds;
      pieces = s.pieces;
      blocks = s.blocks;
      store = s.store;
      nodes = s.nodes;
      entries = s.entries;
    }

summary_same : (s : Given) → summary_back (summary_given s) ≡ s
summary_same s = rw (number_back s.state) refl

abbrev near_back : Near → Option ℕ
near_back n = cond (eqb n.found 0) None (Some n.number)

near_same : (x : Option ℕ) → near_back (near_told x) ≡ x
near_same (Some k) = refl
near_same None = refl

abbrev report_back : history.Report → Report
report_back r = record { fraction = record { part = r.fraction.part; whole = r.fraction.whole }; tenths = r.tenths }

-- ── all of them ──

pub meanings : Meanings
meanings = record {
  opening = undone (answer_by (λ u. u)) (result_back (λ u. u)) (result_same (λ u. u) (λ u. u) (λ _. refl));
  record_op = undone (answer_by recorded) (result_back recorded_back) (result_same recorded recorded_back recorded_same);
  finalize = undone (answer_by (λ _. done)) (result_back (λ _. tt)) (result_same (λ _. done) (λ _. tt) (λ _. refl));
  install = undone (answer_by (λ _. done)) (result_back (λ _. tt)) (result_same (λ _. done) (λ _. tt) (λ _. refl));
  clock = undone (answer_by (λ n. n)) (result_back (λ n. n)) (result_same (λ n. n) (λ n. n) (λ _. refl));
  info = undone (answer_by summary_given) (result_back summary_back) (result_same summary_given summary_back summary_same);
  block = undone (answer_by fields_given) (result_back block_back) (result_same fields_given block_back (λ _. refl));
  find = undone (answer_by counts_given) (result_back found_back) (result_same counts_given found_back (λ _. refl));
  touching = undone (answer_by (λ n. n)) (result_back (λ n. n)) (result_same (λ n. n) (λ n. n) (λ _. refl));
  neighbours = undone (answer_by near_told) (result_back near_back) (result_same near_told near_back near_same);
  read_cells = undone (answer_by (λ _. tt)) (result_back (λ _. tt)) (result_same (λ _. tt) (λ _. tt) (λ _. refl));
  occupation = undone (answer_by report_given) (result_back report_back) (result_same report_given report_back (λ _. refl));
  serialize_to = undone (answer_by (λ n. n)) (result_back (λ n. n)) (result_same (λ n. n) (λ n. n) (λ _. refl));
  deserialize = undone (answer_by (λ n. n)) (result_back (λ n. n)) (result_same (λ n. n) (λ n. n) (λ _. refl));
}
