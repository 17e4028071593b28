-- The returns of `read_closed`: over a closed index they are the ledger's answers. Assumes nothing.
use mathlib.Core.Path.{◌≡◌, refl, sym, ◌∙◌}
use mathlib.Core.Bool.{Bool, true, false}
use mathlib.Core.List.{List, ◌++◌}
use Prim.Native.Nat.{ℕ, ◌+◌, ◌-◌, ◌^◌, ◌≤◌, ◌<◌}
use native.Mathlib.Omega.{arith}
use lib.ListN.{length, take, drop, length-take, length-append, length-drop}
use lib.Seq.{sets}
use Rattle.std.proofs.lemmas.List.{append-nil, drop_all}
use Rattle.std.proofs.lemmas.List.Edits.{sets-eq}
use borrow.Author.Tests.{lt-ltb, le-ltb}
use Rattle.history.specs.Ledger.{Ledger, finished}
use Rattle.history.specs.Reads.{cells_by}
use Rattle.history.specs.Refusals.{accepted, refused, cells_answer}
use Rattle.tables.specs.Masks.{opens, Opens}
use Rattle.tables.specs.Columns.{block_column, head_kinds, head_end}
use Rattle.layout.specs.Tables.{Tables, tables, head_at}
use Rattle.layout.specs.Encodes.{Encodes}
use Rattle.layout.proofs.ReadLaws.{mask_opens, window_25, window_14, window_15, window_rest, closed_refuses}
use Rattle.live_blocks.specs.Live.{ClosedAt}
use Rattle.live_blocks.proofs.Living.{closed_at}
use Rattle.cells_paint.specs.Painting.{Slices, Shown}
use Rattle.cells_read.specs.Long.{Front}
use Rattle.cells_read.proofs.Showing.{cells_shown}
use Rattle.cells_read.specs.Answers.{CellsHanded, ReadClosed}

-- ── what a closed ledger answers ──

module _ {t : Tables} {l : Ledger} (e : Encodes t l) (done : finished l ≡ true) (kind tick start stop bytes held : ℕ) (k : opens (head_at t head_kinds) kind ≡ true)
    (h : tick < head_at t head_end) (b : start ≤ stop) where
  cells_bytes : bytes < stop - start → cells_answer l kind tick start stop bytes held ≡ refused 16
  cells_bytes short = window_rest e done _ _ kind tick start stop k h b ∙ rw (lt-ltb bytes (stop - start) short)

  cells_held : stop - start ≤ bytes → held < stop - start → cells_answer l kind tick start stop bytes held ≡ refused 16
  cells_held room short = window_rest e done _ _ kind tick start stop k h b ∙ rw (le-ltb bytes (stop - start) room, lt-ltb held (stop - start) short)

  pub cells_given : stop - start ≤ bytes → stop - start ≤ held → cells_answer l kind tick start stop bytes held ≡ accepted (cells_by l kind tick start stop)
  cells_given room room' = window_rest e done _ _ kind tick start stop k h b ∙ rw (le-ltb bytes (stop - start) room, le-ltb held (stop - start) room')

-- ── the returns ──

-- a list written to the front of another
in_front : (many : ℕ) (out xs : List ℕ) → length xs ≡ many → many ≤ length out → xs ++ drop many out ≡ sets out 0 xs
in_front many out xs long room = let front : 0 + length xs ≡ many = omega arith in sym (rw front at (sets-eq xs out 0 (omega arith)))

-- a list written over another from a place to its end
to_the_end : (n : ℕ) (l xs : List ℕ) → take n l ++ (xs ++ drop (length l - n) (drop n l)) ≡ take n l ++ xs
to_the_end n l xs = rw (drop_all (length l - n) (drop n l) (omega (arith, length-drop n l)), append-nil)

whole_long : (n many : ℕ) (l xs : List ℕ) → n ≤ many → length l ≡ many → length xs ≡ length (take (length l - n) (drop n l)) → length (take n l ++ xs) ≡ many
whole_long n many l xs room long rest = omega (arith, length-append (take n l) xs, length-take n l, length-take (length l - n) (drop n l), length-drop n l)

-- a refusal: its number, and both slices as they were
pub cells_refused : {bytes held : List ℕ} {n : ℕ} → CellsHanded bytes bytes held held (refused n) (refused n)
cells_refused = record { answered = refl; in_bytes = refl; in_held = refl }

module _ {blocks store nodes entries : List ℕ} {kind tick start stop mask : ℕ} {bytes held : List ℕ} {o : Bool} (m : mask ≡ block_column blocks 0 head_kinds) (is : Opens mask kind o) where
  -- whatever refuses it
  refuses : (n : ℕ) → ((pieces : List ℕ) (l : Ledger) → Encodes (tables pieces blocks store nodes entries) l → finished l ≡ true
      → cells_answer l kind tick start stop (length bytes) (length held) ≡ refused n) → ReadClosed blocks store nodes entries kind tick start stop bytes bytes held held (refused n)
  refuses n by = record { read = λ pieces. closed_refuses (by pieces) cells_refused }

  pub read_25 : o ≡ false → ReadClosed blocks store nodes entries kind tick start stop bytes bytes held held (refused 25)
  read_25 q = refuses 25 (λ pieces l enc done. window_25 enc done _ _ kind tick start stop (mask_opens m is q))

  module _ (q : o ≡ true) {last : ℕ} (e : last ≡ block_column blocks 0 head_end) where
    pub read_14 : last ≤ tick → ReadClosed blocks store nodes entries kind tick start stop bytes bytes held held (refused 14)
    read_14 h = refuses 14 (λ pieces l enc done. window_14 enc done _ _ kind tick start stop (mask_opens m is q) (omega arith))

    pub read_15 : tick < last → stop < start → ReadClosed blocks store nodes entries kind tick start stop bytes bytes held held (refused 15)
    read_15 h b = refuses 15 (λ pieces l enc done. window_15 enc done _ _ kind tick start stop (mask_opens m is q) (omega arith) b)

    pub read_16_bytes : tick < last → start ≤ stop → length bytes < stop - start
        → ReadClosed blocks store nodes entries kind tick start stop bytes bytes held held (refused 16)
    read_16_bytes h b short = refuses 16 (λ pieces l enc done. cells_bytes enc done kind tick start stop (length bytes) (length held) (mask_opens m is q) (omega arith) b short)

    pub read_16_held : tick < last → start ≤ stop → stop - start ≤ length bytes → length held < stop - start
        → ReadClosed blocks store nodes entries kind tick start stop bytes bytes held held (refused 16)
    read_16_held h b room short = refuses 16 (λ pieces l enc done. cells_held enc done kind tick start stop (length bytes) (length held) (mask_opens m is q) (omega arith) b room short)

    -- both slices begin with the window's cells
    pub read_filled : {many done place : ℕ} {bytes₁ held₁ xs ys : List ℕ} → tick < last → start ≤ stop → stop < 2 ^ 64 → many ≡ stop - start → many ≤ length bytes
        → many ≤ length held → length bytes₁ ≡ length (take many bytes) → length held₁ ≡ length (take many held)
        → Front blocks store nodes entries kind tick start stop place bytes₁ held₁ → done ≡ place - start
        → length xs ≡ length (take (length bytes₁ - done) (drop done bytes₁)) → length ys ≡ length (take (length held₁ - done) (drop done held₁))
        → Shown blocks nodes entries store kind tick place stop xs ys
        → ReadClosed blocks store nodes entries kind tick start stop bytes ((take done bytes₁ ++ (xs ++ drop (length bytes₁ - done) (drop done bytes₁))) ++ drop many bytes)
        held ((take done held₁ ++ (ys ++ drop (length held₁ - done) (drop done held₁))) ++ drop many held) (accepted tt)
    read_filled {many} {done} {place} {bytes₁} {held₁} {xs} {ys} h b small size room room' long long' front far wide wide' shown =
        rw (to_the_end done bytes₁ xs, to_the_end done held₁ ys, far)
        (record {
          read = λ pieces. record {
            closed = λ l enc s done.
                let at : ClosedAt blocks store nodes entries kind tick l = closed_at kind enc s done (mask_opens m is q) (omega arith) in
                rw (
                  cells_given enc done kind tick start stop (length bytes) (length held) (mask_opens m is q) (omega arith) b (omega arith) (omega arith),
                  cells_shown at front.onward small (omega (arith, bytes_are, front.inside)) (omega (arith, held_are, front.inside)) (front.shown l at) shown w,
                )
                (record {
                  answered = refl;
                  in_bytes = in_front many bytes (take (place - start) bytes₁ ++ xs) (w.bytes_long ∙ sym size) room;
                  in_held = in_front many held (take (place - start) held₁ ++ ys) (w.held_long ∙ sym size) room';
                });
          };
        })
      where
        bytes_are : length bytes₁ ≡ stop - start
        bytes_are = omega (arith, length-take many bytes)

        held_are : length held₁ ≡ stop - start
        held_are = omega (arith, length-take many held)

        w : Slices start stop (take (place - start) bytes₁ ++ xs) (take (place - start) held₁ ++ ys)
        w = record {
          bytes_long = rw (← far) (whole_long done (stop - start) bytes₁ xs (omega (arith, front.inside)) bytes_are wide);
          held_long = rw (← far) (whole_long done (stop - start) held₁ ys (omega (arith, front.inside)) held_are wide');
        }

pub ruleset reading = (read_25, read_14, read_15, read_16_bytes, read_16_held, read_filled, arith)
