-- Demand 3, proved: along every list of calls the tables stand for the ledger, so the answers are the ledger's, and after a finish the reads give what
-- the ledger has. Assumes nothing.
use mathlib.Core.Path.{◌≡◌, refl, ap, ap₂, sym, ◌∙◌, subst}
use mathlib.Core.Logic.{inl, inr}
use mathlib.Core.Bool.{true, false, true≢false, false≢true}
use mathlib.Core.List.{List, [], ◌∷◌}
use Prim.Native.Nat.{ℕ, suc, ◌+◌, ◌*◌, ◌≤◌, ◌<◌}
use native.Mathlib.Omega.{arith}
use lib.ListN.{length, get_or, length-map}
use borrow.Author.Tests.{le-ltb, lt-ltb}
use Rattle.lists.proofs.Numbers.{bool_cases}
use Rattle.history.specs.Words.{Operation, Block}
use Rattle.history.specs.Lent.{row_width, too_short}
use Rattle.history.specs.Ledger.{Opening, Ledger, opened, opens_kind, finished, is_read, record_by, finish_by, install_by, install_days_by}
use Rattle.history.specs.Days.{Day}
use Rattle.history.specs.Reads.{block_by, find_by, clock_label}
use Rattle.tables.specs.Columns.{block_column, block_offset, pieces_root}
use Rattle.merge_set.specs.Tree.{leaf, rows, height, Balanced}
use Rattle.merge_set.specs.Table.{Shape}
use Rattle.piece_table.specs.Piece.{piece_at}
use Rattle.piece_table.specs.Shown.{shown}
use Rattle.history.specs.Results.{Result}
use Rattle.history.specs.Refusals.{Answer, accepted, refused, first_of, max_end_tick, open_answer, record_refusals, record_answer, finish_refusals, finish_answer, install_refusals, install_answer, days_refusals, days_answer, find_answer}
use Rattle.history.specs.Calls.{Call, record_call, finish_call, calendar_call, days_call, answer_to, accepted_by, leaves, after, answers, after_all, last_days, noted, history}
use Rattle.history.specs.Sound.{Sound}
use Rattle.history.specs.Law.{LedgerLaw, Faithful}
use Rattle.history.proofs.EveryList.{the_law, every_list, law_after, opening_kept, opened_opening, opened_open, finish_done}
use Rattle.history.proofs.DaysLaws.{days_last}
use Rattle.history.proofs.FindSound.{find_sound}
use Rattle.layout.specs.Tables.{Tables, lengths_of}
use Rattle.layout.specs.Encodes.{Encodes}
use Rattle.layout.specs.Formed.{WellFormedForFinish, Blank}
use Rattle.layout.specs.Relations.{opening_of, opened_tables, left_by, OpenedBy, RecordLeaves, RecordedBy, FinishLeaves, FinishedBy, InstallLeaves, InstalledBy, DaysLeave, DaysInstalledBy, ClockGivenBy, Fields, block_in, fields_at, BlockHanded}
use Rattle.layout.proofs.Recording.{record_blank, record_open}
use Rattle.layout.proofs.Installing.{installed_blank, install_open, days_blank, days_open}
use Rattle.layout.specs.Reads.{values_of}
use Rattle.kind_mask.specs.Masks.{Taken}
use Rattle.layout.proofs.ReadLaws.{opens_kind_lem, clock_there, block_there, block_15, window_25, window_rest, into_gives, into_refuses}
use Rattle.layout.proofs.Opening.{open_accepted, get_d_zeros, opened_encodes, opened-lengths, opened_blank}
use Rattle.layout.proofs.Depths.{shallow_trees}
use Rattle.info.specs.Info.{Summary, summary_of, InfoGivenBy}
use Rattle.info.proofs.Telling.{info_there}
use Rattle.demand.specs.Theorem.{CallDone, Run, run_nil, run_cons, Finished, Balance, Demand3}

-- ── tables too short ──

-- of a ledger whose lengths are too short every call is refused 2
short_answer : (l : Ledger) (k : Call) → too_short l.opening.lent ≡ true → answer_to l k ≡ refused 2
unfolding answer_to first_of record_refusals finish_refusals install_refusals days_refusals
short_answer l (record_call scratch o) e = rw e
short_answer l finish_call e = rw e
short_answer l (calendar_call numbers) e = rw e
short_answer l (days_call numbers) e = rw e

short_after : (l : Ledger) (k : Call) → too_short l.opening.lent ≡ true → after l k ≡ l
unfolding after leaves
short_after l k e = rw (short_answer l k e)

short_call : (k : Call) (t t' : Tables) (a : Answer Result) → too_short (lengths_of t) ≡ true → CallDone k t t' a → (a ≡ refused 2) × (t' ≡ t)
short_call (record_call scratch o) t t' a e d = d.unformed (λ w. true≢false (sym e ∙ w.encodes.heads))
short_call finish_call t t' a e d = d.unformed (λ w. true≢false (sym e ∙ w.encodes.heads))
short_call (calendar_call numbers) t t' a e d = d.unformed (λ w. true≢false (sym e ∙ w.encodes.heads))
short_call (days_call numbers) t t' a e d = d.unformed (λ w. true≢false (sym e ∙ w.encodes.heads))

short_run : {t t' : Tables} {ks : List Call} {given : List (Answer Result)} (l : Ledger) → too_short l.opening.lent ≡ true → too_short (lengths_of t) ≡ true
    → Run t ks given t' → (given ≡ answers l ks) × (after_all l ks ≡ l)
unfolding answers after_all
short_run l e x run_nil = (refl, refl)
short_run {t} l e x (run_cons {t₁} {k = k} {ks} {a} {given} d r) =
    let one = short_call k t t₁ a x d in
    let rest = short_run l e (rw one.1 x) r in
    let same : after l k ≡ l = short_after l k e in (
      ap₂ (λ (b : Answer Result) (bs : List (Answer Result)). b ∷ bs) (one.0 ∙ sym (short_answer l k e)) (rest.0 ∙ ap (λ (m : Ledger). answers m ks) (sym same)),
      ap (λ (m : Ledger). after_all m ks) same ∙ rest.1,
    )

-- and nothing changes
short_same : {t t' : Tables} {ks : List Call} {given : List (Answer Result)} → too_short (lengths_of t) ≡ true → Run t ks given t' → t' ≡ t
short_same e run_nil = refl
short_same {t} e (run_cons {t₁} {k = k} {a = a} d r) =
    let one = (short_call k t t₁ a e d).1 in
    short_same (rw one e) r ∙ one

-- ── tables that stand for the ledger ──

-- what is known between calls
record Standing (t : Tables) (l : Ledger) (h : List Operation) : Type 0 where
  encodes : Encodes t l
  law : LedgerLaw l h
  blank : finished l ≡ false → Blank t

step_record : (scratch : ℕ) (o : Operation) (t t' : Tables) (l : Ledger) (h : List Operation) (a : Answer Result) → Standing t l h → RecordedBy scratch o t t' a
    → (a ≡ record_answer l scratch o) × Standing t' (after l (record_call scratch o)) (noted h (record_call scratch o) (record_answer l scratch o))
unfolding after leaves answer_to accepted_by noted
step_record scratch o t t' l h a s d =
    let f = d.formed l s.encodes s.law.sound.sound in
    (f.0, go (record_answer l scratch o) (law_after l h (record_call scratch o) s.law) f.1)
  where
    go : (x : Answer Result) → LedgerLaw (leaves x l (record_by l o)) (noted h (record_call scratch o) x) → RecordLeaves x l o t t'
        → Standing t' (leaves x l (record_by l o)) (noted h (record_call scratch o) x)
    go (accepted b) law x = record {
      encodes = x.0;
      law = law;
      blank = λ still. record_blank (is_read l.now o) l o t t' x.1 (s.blank (sym (record_open l o) ∙ still));
    }
    go (refused n) law x = rw x (record { encodes = s.encodes; law = law; blank = s.blank })

step_finish : (t t' : Tables) (l : Ledger) (h : List Operation) (a : Answer Result) → Standing t l h → FinishedBy t t' a
    → (a ≡ finish_answer l) × Standing t' (after l finish_call) (noted h finish_call (finish_answer l))
unfolding after leaves answer_to accepted_by noted
step_finish t t' l h a s d =
    let w : WellFormedForFinish t = record { ledger = l; encodes = s.encodes; sound = s.law.sound; blank = s.blank } in
    let f = d.formed w in
    (f.0, go (finish_answer l) (law_after l h finish_call s.law) f.1)
  where
    go : (x : Answer Result) → LedgerLaw (leaves x l (finish_by l)) (noted h finish_call x) → FinishLeaves x l t t' → Standing t' (leaves x l (finish_by l)) (noted h finish_call x)
    go (accepted b) law x = record { encodes = x.0; law = law; blank = λ still. absurd (true≢false (sym (finish_done l) ∙ still)) }
    go (refused n) law x = rw x (record { encodes = s.encodes; law = law; blank = s.blank })

step_install : (numbers : List ℕ) (t t' : Tables) (l : Ledger) (h : List Operation) (a : Answer Result) → Standing t l h → InstalledBy numbers t t' a
    → (a ≡ install_answer l numbers) × Standing t' (after l (calendar_call numbers)) (noted h (calendar_call numbers) (install_answer l numbers))
unfolding after leaves answer_to accepted_by noted
step_install numbers t t' l h a s d =
    let f = d.formed l s.encodes s.law.sound.sound in
    (f.0, go (install_answer l numbers) (law_after l h (calendar_call numbers) s.law) f.1)
  where
    go : (x : Answer Result) → LedgerLaw (leaves x l (install_by l numbers)) (noted h (calendar_call numbers) x) → InstallLeaves x l numbers t t'
        → Standing t' (leaves x l (install_by l numbers)) (noted h (calendar_call numbers) x)
    go (accepted b) law x = record {
      encodes = x.0;
      law = law;
      blank = λ still. rw x.1 (installed_blank t numbers (s.blank (sym (install_open l numbers) ∙ still)));
    }
    go (refused n) law x = rw x (record { encodes = s.encodes; law = law; blank = s.blank })

step_days : (numbers : List ℕ) (t t' : Tables) (l : Ledger) (h : List Operation) (a : Answer Result) → Standing t l h → DaysInstalledBy numbers t t' a
    → (a ≡ days_answer l numbers) × Standing t' (after l (days_call numbers)) (noted h (days_call numbers) (days_answer l numbers))
unfolding after leaves answer_to accepted_by noted
step_days numbers t t' l h a s d =
    let f = d.formed l s.encodes s.law.sound.sound in
    (f.0, go (days_answer l numbers) (law_after l h (days_call numbers) s.law) f.1)
  where
    go : (x : Answer Result) → LedgerLaw (leaves x l (install_days_by l numbers)) (noted h (days_call numbers) x) → DaysLeave x l numbers t t'
        → Standing t' (leaves x l (install_days_by l numbers)) (noted h (days_call numbers) x)
    go (accepted b) law x = record {
      encodes = x.0;
      law = law;
      blank = λ still. rw x.1 (days_blank t numbers (s.blank (sym (days_open l numbers) ∙ still)));
    }
    go (refused n) law x = rw x (record { encodes = s.encodes; law = law; blank = s.blank })

step : (k : Call) (t t' : Tables) (l : Ledger) (h : List Operation) (a : Answer Result) → Standing t l h → CallDone k t t' a
    → (a ≡ answer_to l k) × Standing t' (after l k) (noted h k (answer_to l k))
unfolding answer_to
step (record_call scratch o) t t' l h a s d = step_record scratch o t t' l h a s d
step finish_call t t' l h a s d = step_finish t t' l h a s d
step (calendar_call numbers) t t' l h a s d = step_install numbers t t' l h a s d
step (days_call numbers) t t' l h a s d = step_days numbers t t' l h a s d

runs : {t t' : Tables} {ks : List Call} {given : List (Answer Result)} (l : Ledger) (h : List Operation) → Standing t l h → Run t ks given t'
    → (given ≡ answers l ks) × Standing t' (after_all l ks) (history h l ks)
unfolding answers after_all history
runs l h s run_nil = (refl, s)
runs {t} l h s (run_cons {t₁} {k = k} {ks} {a} d r) =
    let one = step k t t₁ l h a s d in
    let rest = runs (after l k) (noted h k (answer_to l k)) one.1 r in
    (ap₂ (λ (b : Answer Result) (bs : List (Answer Result)). b ∷ bs) one.0 rest.0, rest.1)

-- ── reads of a finished index ──

module _ (l : Ledger) (h : List Operation) (t : Tables) (s : Standing t l h) (done : finished l ≡ true) where
  sound : Sound l
  sound = s.law.sound.sound

  module _ (kind : ℕ) (opens : opens_kind l kind ≡ true) (tick start stop room : ℕ) (below : tick < l.opening.end) (ordered : start ≤ stop) where
    find-fits : length (find_by l kind tick start stop).numbers ≤ room → find_answer l kind tick start stop room ≡ accepted (find_by l kind tick start stop)
    find-fits c =
        window_rest s.encodes done _ _ kind tick start stop (sym (opens_kind_lem s.encodes kind) ∙ opens) (omega (arith, s.encodes.end)) ordered
        ∙ rw (le-ltb room (length (find_by l kind tick start stop).numbers) c)

    find_full : room < length (find_by l kind tick start stop).numbers → find_answer l kind tick start stop room ≡ refused 16
    find_full c =
        window_rest s.encodes done _ _ kind tick start stop (sym (opens_kind_lem s.encodes kind) ∙ opens) (omega (arith, s.encodes.end)) ordered
        ∙ rw (lt-ltb room (length (find_by l kind tick start stop).numbers) c)

-- block by number hands out the block that is asked for, and refuses as the ledger does
block_handed : {t : Tables} {k : ℕ} {answer : Answer Fields} {x : Answer Block} (b : Block) → BlockHanded t k answer x → x ≡ accepted b
    → (f : Fields) × (answer ≡ accepted f) × (block_in t.store f ≡ b)
block_handed {t} {k} {answer} b d e =
    let is : answer ≡ accepted (fields_at (block_column t.blocks (suc k) block_offset) b) = d.answered ∙ ap (values_of (fields_at (block_column t.blocks (suc k) block_offset))) e in
    (_, is, inner (ap (values_of (block_in t.store)) (sym is) ∙ d.bytes_there ∙ e))
  where
    inner : {x y : Block} → ◌≡◌ {A = Answer Block} (accepted x) (accepted y) → x ≡ y
    inner p = cc

number-handed : {t : Tables} {k n : ℕ} {answer : Answer Fields} {x : Answer Block} → BlockHanded t k answer x → x ≡ refused n → answer ≡ refused n
number-handed {t} {k} d e = d.answered ∙ ap (values_of (fields_at (block_column t.blocks (suc k) block_offset))) e

finished_reads : (l : Ledger) (h : List Operation) (t : Tables) → Standing t l h → finished l ≡ true → Faithful l.opening.end l.now.blocks h → Finished l h t
finished_reads l h t s done cells = record {
  blocks = λ k answer d below. block_handed (block_by l k) (d.read.formed l s.encodes (sound l h t s done)) (block_there s.encodes done k below);
  no_more = λ k answer d above. number-handed (d.read.formed l s.encodes (sound l h t s done)) (block_15 s.encodes done k above);
  cells = cells;
  finds = λ kind tick start stop opens below. find_sound l (sound l h t s done) done kind opens tick start stop below;
  found = λ kind tick start stop out out' answer opens below ordered d room.
      into_gives (d.read.formed l s.encodes (sound l h t s done)) (find-fits l h t s done kind opens tick start stop (length out) below ordered room);
  no_room = λ kind tick start stop out out' answer opens below ordered d room.
      into_refuses (d.read.formed l s.encodes (sound l h t s done)) (find_full l h t s done kind opens tick start stop (length out) below ordered room);
  unopened = λ kind tick start stop out out' answer other d.
      into_refuses (d.read.formed l s.encodes (sound l h t s done)) (window_25 s.encodes done _ _ kind tick start stop (sym (opens_kind_lem s.encodes kind) ∙ other));
}

-- ── the clock ──

-- of tables that stand for a ledger: the label by its list of days
clock_shows : (t : Tables) (l : Ledger) (h : List Operation) → Standing t l h → (cell : ℕ) (answer : Answer ℕ) → ClockGivenBy t cell answer
    → answer ≡ accepted (clock_label l.days cell)
clock_shows t l h s cell answer d =
    (d.read.formed l s.encodes s.law.sound.sound).answered ∙ ap (values_of (λ label. label)) (clock_there s.encodes cell)

-- of tables too short: 2
clock_short : (t : Tables) (cell : ℕ) (answer : Answer ℕ) → ClockGivenBy t cell answer → too_short (lengths_of t) ≡ true → answer ≡ refused 2
clock_short t cell answer d e = (d.read.unformed (λ w. true≢false (sym e ∙ w.encodes.heads))).answered

-- ── info ──

-- of tables that stand for a ledger: what stands in it
info_shows : (t : Tables) (l : Ledger) (h : List Operation) → Standing t l h → (answer : Answer Summary) → InfoGivenBy t answer → answer ≡ accepted (summary_of l)
info_shows t l h s answer d = (d.read.formed l s.encodes s.law.sound.sound).answered ∙ ap (values_of (λ (x : Summary). x)) (info_there s.encodes)

-- of tables too short: 2
info_short : (t : Tables) (answer : Answer Summary) → InfoGivenBy t answer → too_short (lengths_of t) ≡ true → answer ≡ refused 2
info_short t answer d e = (d.read.unformed (λ w. true≢false (sym e ∙ w.encodes.heads))).answered

-- ── the tree of pieces ──

stands_balanced : (t : Tables) (l : Ledger) → Encodes t l → Balance l t
stands_balanced t l e = record {
  tree = e.pieces.linked.tree;
  stands = e.pieces.linked.shape;
  of_pieces = ap length e.pieces.linked.is ∙ sym (ap length e.pieces.shows ∙ length-map e.pieces.links (λ link. shown t.store (piece_at t.pieces link)));
  balanced = e.pieces.linked.balanced;
  short_ways = (shallow_trees t l e e.pieces.linked.tree e.pieces.linked.shape).pieces_4096;
}

-- a table of zeros has no pieces, even where it cannot hold its head
zeros_balanced : (l : Ledger) (t : Tables) → l.now.pieces ≡ [] → ((i : ℕ) → get_or t.pieces i 0 ≡ 0) → Balance l t
unfolding Shape rows height Balanced
zeros_balanced l t none_left zeros = record {
  tree = leaf;
  stands = zeros (row_width * 0 + pieces_root);
  of_pieces = sym (ap length none_left);
  balanced = tt;
  short_ways = λ _. omega arith;
}

-- ── the demand ──

opened_pieces : (a : Opening) → (opened a).now.pieces ≡ []
unfolding opened
opened_pieces a = refl

module _ (end : ℕ) (kinds : List ℕ) (some_tick : 1 ≤ end) (end_most : end ≤ max_end_tick) (given-kinds : Taken kinds) (t t₀ : Tables) (opening : Answer Unit)
    (d : OpenedBy end kinds t t₀ opening) where
  abbrev fed : Opening
  fed = opening_of end kinds t

  taken : open_answer fed ≡ accepted tt
  taken = open_accepted fed some_tick end_most given-kinds.some_kind given-kinds.known

  opens : opening ≡ accepted tt
  opens = d.answered ∙ taken

  left : t₀ ≡ opened_tables end kinds t
  unfolding left_by
  left = d.left ∙ ap (λ (x : Answer Unit). left_by x t (opened_tables end kinds t)) opens

  same_end : (ks : List Call) → (after_all (opened fed) ks).opening.end ≡ end
  same_end ks = ap (λ (x : Opening). x.end) (opening_kept ks (opened fed) ∙ opened_opening fed)

  -- tables that hold their heads stand for the opened ledger
  standing : too_short (lengths_of t) ≡ false → Standing t₀ (opened fed) []
  unfolding after_all history
  standing fits = record {
    encodes = subst (λ (x : Tables). Encodes x (opened fed)) (sym left) (opened_encodes end kinds t fits);
    law = the_law fed taken [];
    blank = λ _. subst Blank (sym left) (opened_blank end kinds t);
  }

  module _ {ks : List Call} {given : List (Answer Result)} {t' : Tables} (r : Run t₀ ks given t') where
    -- tables too short are never finished
    short : too_short (lengths_of t) ≡ true → (given ≡ answers (opened fed) ks) × (after_all (opened fed) ks ≡ opened fed)
    short e =
        let lent : too_short (opened fed).opening.lent ≡ true = ap (λ (x : Opening). too_short x.lent) (opened_opening fed) ∙ e in
        let table : too_short (lengths_of t₀) ≡ true = ap too_short (ap lengths_of left ∙ sym (opened-lengths end kinds t)) ∙ e in
        short_run (opened fed) lent table r

    short_balanced : too_short (lengths_of t) ≡ true → Balance (after_all (opened fed) ks) t'
    unfolding opened_tables
    short_balanced e =
        let table : too_short (lengths_of t₀) ≡ true = ap too_short (ap lengths_of left ∙ sym (opened-lengths end kinds t)) ∙ e in
        let same : t' ≡ opened_tables end kinds t = short_same table r ∙ left in
        zeros_balanced (after_all (opened fed) ks) t' (ap (λ (l : Ledger). l.now.pieces) (short e).1 ∙ opened_pieces fed) (λ i. rw same (get_d_zeros (length t.pieces) i))

    -- and stay too short
    short_still : too_short (lengths_of t) ≡ true → too_short (lengths_of t') ≡ true
    short_still e =
        let table : too_short (lengths_of t₀) ≡ true = ap too_short (ap lengths_of left ∙ sym (opened-lengths end kinds t)) ∙ e in
        ap (λ (x : Tables). too_short (lengths_of x)) (short_same table r) ∙ table

    days_are : (after_all (opened fed) ks).days ≡ last_days [] (opened fed) ks
    unfolding opened
    days_are = days_last ks (opened fed)

    short_open : too_short (lengths_of t) ≡ true → finished (after_all (opened fed) ks) ≡ true → ⊥
    short_open e done = false≢true (sym (opened_open fed) ∙ ap finished (sym (short e).1) ∙ done)

    -- after the calls the tables stand for the finished ledger
    pub finished_encodes : finished (after_all (opened (opening_of end kinds t)) ks) ≡ true → Encodes t' (after_all (opened (opening_of end kinds t)) ks)
    finished_encodes done =
        elim (bool_cases (too_short (lengths_of t))) [ inl e ↦ absurd (short_open e done) | inr fits ↦ (runs (opened fed) [] (standing fits) r).1.encodes ]

pub demand : Demand3
demand end kinds a b c t t₀ opening d =
    elim (bool_cases (too_short (lengths_of t))) [
      | inl e ↦ record {
        opens = opens end kinds a b c t t₀ opening d;
        answered = λ ks given t' r. (short end kinds a b c t t₀ opening d r e).0;
        balance = λ ks given t' r. short_balanced end kinds a b c t t₀ opening d r e;
        clock = λ ks given t' r cell answer x fits. absurd (true≢false (sym e ∙ fits));
        no_clock = λ ks given t' r cell answer x _. clock_short t' cell answer x (short_still end kinds a b c t t₀ opening d r e);
        info = λ ks given t' r answer x fits. absurd (true≢false (sym e ∙ fits));
        no_info = λ ks given t' r answer x _. info_short t' answer x (short_still end kinds a b c t t₀ opening d r e);
        done = λ ks given t' r done. absurd (short_open end kinds a b c t t₀ opening d r e done);
      }
      | inr fits ↦ (
          let begun = opening_of end kinds t in
          let s = standing end kinds a b c t t₀ opening d fits in
          record {
            opens = opens end kinds a b c t t₀ opening d;
            answered = λ ks given t' r. (runs (opened begun) [] s r).0;
            balance = λ ks given t' r. stands_balanced t' (after_all (opened begun) ks) (runs (opened begun) [] s r).1.encodes;
            clock = λ ks given t' r cell answer x _.
                clock_shows t' (after_all (opened begun) ks) (history [] (opened begun) ks) (runs (opened begun) [] s r).1 cell answer x
                ∙ ap (λ (days : List Day). accepted (clock_label days cell)) (days_are end kinds a b c t t₀ opening d r);
            no_clock = λ ks given t' r cell answer x e. absurd (true≢false (sym e ∙ fits));
            info = λ ks given t' r answer x _.
                info_shows t' (after_all (opened begun) ks) (history [] (opened begun) ks) (runs (opened begun) [] s r).1 answer x;
            no_info = λ ks given t' r answer x e. absurd (true≢false (sym e ∙ fits));
            done = λ ks given t' r e.
                finished_reads (after_all (opened begun) ks) (history [] (opened begun) ks) t' (runs (opened begun) [] s r).1 e
                (subst (λ (n : ℕ). Faithful n (after_all (opened begun) ks).now.blocks (history [] (opened begun) ks)) (sym (same_end end kinds a b c t t₀ opening d ks)) ((every_list begun (taken end kinds a b c t t₀ opening d) ks).faithful e));
          })
    ]
