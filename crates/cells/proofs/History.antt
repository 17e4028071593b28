-- Read cells shows the history: by the law of every list of calls the live blocks show what `value_at` says. Assumes nothing.
use mathlib.Core.Path.{◌≡◌, refl, sym, ap, ◌∙◌}
use mathlib.Core.Bool.{true}
use mathlib.Core.Option.{Option, none, some}
use mathlib.Core.List.{List, [], map, Option-to_list}
use Prim.Native.Nat.{ℕ, ◌-◌, ◌^◌, ◌<◌, min}
use native.Mathlib.Omega.{arith}
use lib.ListN.{length, get_or}
use lib.Seq.{sets}
use Rattle.lists.specs.Lists.{count_from}
use Rattle.lists.proofs.Maps.{map_all}
use Rattle.lists.proofs.Counting.{all_count_from}
use Rattle.history.specs.Words.{Operation, cell_place}
use Rattle.history.specs.Ledger.{Ledger, opened, finished}
use Rattle.history.specs.Reads.{seen, Cells, cells_by}
use Rattle.history.specs.Refusals.{Answer}
use Rattle.history.specs.Calls.{after_all, history, value_at}
use Rattle.history.specs.Law.{LedgerLaw}
use Rattle.history.proofs.EveryList.{every_list}
use Rattle.layout.specs.Reads.{values_of, filled_by}
use Rattle.layout.proofs.ReadLaws.{opens_kind_lem}
use Rattle.history.specs.Sums.{byte_of}
use Rattle.history.proofs.Sums.{first_of_value, seen-value}
use Rattle.cells.specs.Law.{mark_of, CellsShowHistory}
use Rattle.cells_read.proofs.Reading.{cells_given}

-- one byte or none, as a mark
mark_of_lem : (x : Option ℕ) → min 1 (length (Option-to_list x)) ≡ mark_of x
unfolding Option-to_list
mark_of_lem none = refl
mark_of_lem (some b) = refl

module _ (l : Ledger) (h : List Operation) (law : LedgerLaw l h) (done : finished l ≡ true) (kind tick start stop : ℕ) (before : tick < l.opening.end) (cells : stop < 2 ^ 64) where
  bytes_value : (cells_by l kind tick start stop).bytes ≡ map (λ c. byte_of (value_at h kind tick c)) (count_from start (stop - start))
  unfolding cells_by
  bytes_value =
      map_all (λ c. get_or (seen tick (cell_place kind c) l.now.blocks) 0 0) (λ c. byte_of (value_at h kind tick c))
      (all_count_from start (stop - start) (λ c from below. rw (seen-value l h law done kind tick c before (omega arith)) (first_of_value (value_at h kind tick c))))

  held_value : (cells_by l kind tick start stop).held ≡ map (λ c. mark_of (value_at h kind tick c)) (count_from start (stop - start))
  unfolding cells_by
  held_value =
      map_all (λ c. min 1 (length (seen tick (cell_place kind c) l.now.blocks))) (λ c. mark_of (value_at h kind tick c))
      (all_count_from start (stop - start) (λ c from below. rw (seen-value l h law done kind tick c before (omega arith)) (mark_of_lem (value_at h kind tick c))))

pub cells_show_history : CellsShowHistory
cells_show_history a taken ks done t enc kind opens tick start stop bytes bytes' held held' answer before room cells rb rh read =
    let l = after_all (opened a) ks in
    let h = history [] (opened a) ks in
    let law = (every_list a taken ks).law in
    let given = read.read.formed l enc law.sound.sound in
    let is = cells_given enc done kind tick start stop (length bytes) (length held) (sym (opens_kind_lem enc kind) ∙ opens) (omega (arith, enc.end)) room rb rh in
    record {
      answered = given.answered ∙ ap (values_of (λ _. tt)) is;
      in_bytes =
          given.in_bytes
          ∙ ap (λ (x : Answer Cells). filled_by (λ c. c.bytes) x bytes) is
          ∙ ap (sets bytes 0) (bytes_value l h law done kind tick start stop before cells);
      in_held =
          given.in_held
          ∙ ap (λ (x : Answer Cells). filled_by (λ c. c.held) x held) is
          ∙ ap (sets held 0) (held_value l h law done kind tick start stop before cells);
    }
