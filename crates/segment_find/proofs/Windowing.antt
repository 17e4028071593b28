-- The rows of the nodes noted: one step for each turn of `windows` and for each of its returns. Assumes nothing.
use mathlib.Core.Path.{◌≡◌, refl, sym, ◌∙◌, ap, subst}
use mathlib.Core.Logic.{⊎_elim}
use mathlib.Core.List.{List, [], ◌∷◌, ◌++◌, append-nil, append_assoc}
use Prim.Native.Nat.{ℕ, suc, ◌+◌, ◌-◌, ◌≤◌, ◌<◌}
use native.Mathlib.Omega.{arith}
use lib.ListN.{length, drop, get_or, set, length-append, length-set}
use lib.Seq.{drop-cons, drop-length, get_or-set_same, get_or-set_other}
use Rattle.lists.proofs.Numbers.{lt_or_le}
use Rattle.history.specs.Find.{window}
use Rattle.history.proofs.FindOrder.{window-append}
use Rattle.segment_table.specs.Closed.{run, first_cell_in}
use Rattle.segment_table.proofs.Closed.{run_length}
use Rattle.segment_walk.specs.declared.rows.Rows.{Rows}
use Rattle.segment_walk.specs.Rowing.{blocks_in, InWindow}
use Rattle.std.specs.Prelude.{Some, None}
use Rattle.segment_find.specs.Notes.{most, no_rows, OnWay, way_end, way_on, rows_in, noted, InTable, Places, Links, Windowed}
use Rattle.segment_find.proofs.Noting.{noted_next, noted-count, noted_agree}

-- ── the rest of a way ──

-- after k nodes: what is listed is what the rows noted list, and then what the nodes behind list
pub record Rest (nodes entries blocks way listed : List ℕ) (start stop : ℕ) (k : ℕ) (done : List ℕ) : Type 0 where
  pub behind : List ℕ
  pub on : OnWay blocks nodes entries (drop k way) behind
  pub parts : window (first_cell_in blocks) start stop listed ≡ done ++ window (first_cell_in blocks) start stop behind

rest_none : {nodes entries blocks way listed : List ℕ} {start stop : ℕ} → OnWay blocks nodes entries way listed
    → Rest nodes entries blocks way listed start stop 0 []
rest_none {listed = listed} on = record { behind = listed; on = on; parts = refl }

way_none : {nodes entries blocks listed : List ℕ} → OnWay blocks nodes entries [] listed → listed ≡ []
way_none way_end = refl

-- what the nodes behind list is the rows of the next one in the window, and then what the nodes behind that one list
record Next (nodes entries blocks links listed : List ℕ) (start stop : ℕ) (rows : Rows) : Type 0 where
  behind : List ℕ
  on : OnWay blocks nodes entries links behind
  parts : window (first_cell_in blocks) start stop listed ≡ blocks_in entries rows ++ window (first_cell_in blocks) start stop behind

next : {nodes entries blocks links listed : List ℕ} {link start stop : ℕ} {rows : Rows} → OnWay blocks nodes entries (link ∷ links) listed
    → InWindow nodes entries link start stop rows → Next nodes entries blocks links listed start stop rows
next {blocks = blocks} {start = start} {stop = stop} (way_on {xs = xs} {listed = behind} own on) w =
    let key : ℕ → ℕ = first_cell_in blocks in
    record {
      behind = behind;
      on = on;
      parts =
          window-append key start stop xs behind ∙ ap (λ (l : List ℕ). l ++ window key start stop behind) (sym (w.lists blocks xs own));
    }

-- a node more, with its rows in the window
rest_more : {nodes entries blocks way listed : List ℕ} {start stop k link : ℕ} {done : List ℕ} {rows : Rows} → k < length way → link ≡ get_or way k 0
    → InWindow nodes entries link start stop rows → Rest nodes entries blocks way listed start stop k done
    → Rest nodes entries blocks way listed start stop (k + 1) (done ++ blocks_in entries rows)
rest_more {nodes} {entries} {blocks} {way} {listed} {start} {stop} {k} {link} {done} {rows} h e w s =
    let one : k + 1 ≡ suc k = omega arith in
    let cut : drop k way ≡ link ∷ drop (k + 1) way = rw (one, e) (drop-cons way k 0 h) in
    let n : Next nodes entries blocks (drop (k + 1) way) s.behind start stop rows = next (rw cut at s.on) w in
    record {
      behind = n.behind;
      on = n.on;
      parts = s.parts ∙ ap (λ (l : List ℕ). done ++ l) n.parts
          ∙ sym (append_assoc done (blocks_in entries rows) (window (first_cell_in blocks) start stop n.behind));
    }

-- ── the loop ──

-- after k nodes, with the rows of `count` of them noted, and room for so many block numbers left
pub record Windows (nodes entries : List ℕ) (before : List Rows) (depth start stop places : ℕ) (notes : List Rows) (k count room : ℕ) : Type 0 where
  pub few : count ≤ k
  pub inside : k ≤ depth
  pub kept : length notes ≡ most
  pub later : (i : ℕ) → k ≤ i → i < most → rows_in notes i ≡ rows_in before i
  pub rows : (i : ℕ) → i < count → InTable entries (rows_in notes i)
  pub used : length (noted entries notes count) + room ≡ places
  pub rest : (blocks way listed : List ℕ) → Links before depth way → OnWay blocks nodes entries way listed
      → Rest nodes entries blocks way listed start stop k (noted entries notes count)

pub windows_none : {nodes entries : List ℕ} {notes : List Rows} {depth start stop places : ℕ} → Places notes depth
    → Windows nodes entries notes depth start stop places notes 0 0 places
unfolding noted
windows_none p =
    record {
      few = omega arith;
      inside = omega arith;
      kept = p.all;
      later = λ i a b. refl;
      rows = λ i a. absurd (omega arith);
      used = omega arith;
      rest = λ blocks way listed l on. rest_none on;
    }

module _ {nodes entries : List ℕ} {before : List Rows} {depth start stop places : ℕ} {notes : List Rows} {k count room : ℕ}
    (s : Windows nodes entries before depth start stop places notes k count room) where
  module _ {rows : Rows} (p : Places before depth) (some : k < depth) (w : InWindow nodes entries (rows_in notes k).from start stop rows) where
    more : (blocks way listed : List ℕ) → Links before depth way → OnWay blocks nodes entries way listed
        → Rest nodes entries blocks way listed start stop (k + 1) (noted entries notes count ++ blocks_in entries rows)
    more blocks way listed l on =
        rest_more (omega (arith, l.many)) (ap (λ (r : Rows). r.from) (s.later k (omega arith) (omega (arith, p.few))) ∙ l.same k some) w (s.rest blocks way listed l on)

    pub windows_empty : rows.to - rows.from ≡ 0 → Windows nodes entries before depth start stop places notes (k + 1) count room
    unfolding run
    windows_empty e =
        let none : blocks_in entries rows ≡ [] = rw e in
        record {
          few = omega (arith, s.few);
          inside = omega arith;
          kept = s.kept;
          later = λ i a b. s.later i (omega arith) b;
          rows = s.rows;
          used = s.used;
          rest = λ blocks way listed l on. rw (none, append-nil) at (more blocks way listed l on);
        }

    pub windows_more : rows.to - rows.from ≤ room
        → Windows nodes entries before depth start stop places (set notes count rows) (k + 1) (count + 1)
        (room - (rows.to - rows.from))
    windows_more fits =
        let place : count < length notes = omega (arith, s.few, p.few, s.kept) in
        let notes' : List Rows = set notes count rows in
        let before : (i : ℕ) → i < count → rows_in notes' i ≡ rows_in notes i =
        λ i h. get_or-set_other notes count i rows no_rows (omega arith) in
        let same : noted entries notes' count ≡ noted entries notes count = noted_agree entries notes notes' count before in
        let here : rows_in notes' count ≡ rows = get_or-set_same notes count rows no_rows place in
        let now : noted entries notes' (count + 1) ≡ noted entries notes count ++ blocks_in entries rows =
        rw (noted_next entries notes' count, same) (ap (λ (r : Rows). noted entries notes count ++ blocks_in entries r) here) in
        let long : length (noted entries notes' (count + 1)) ≡ length (noted entries notes count) + (rows.to - rows.from) =
        rw (noted-count entries notes' count, same) (ap (λ (r : Rows). length (noted entries notes count) + (r.to - r.from)) here) in
        record {
          few = omega (arith, s.few);
          inside = omega arith;
          kept = simp length-set s.kept;
          later = λ i a b. get_or-set_other notes count i rows no_rows (omega (arith, s.few)) ∙ s.later i (omega arith) b;
          rows = λ i a.
              ⊎_elim (λ (h : i < count). subst (λ (r : Rows). InTable entries r) (sym (before i h)) (s.rows i h))
              (λ (h : count ≤ i).
              let e : i ≡ count = omega arith in
              rw e (subst (λ (r : Rows). InTable entries r) (sym here) (record { order = w.order; room = w.room })))
              (lt_or_le i count);
          used = omega (arith, long, s.used);
          rest = λ blocks way listed l on. rw now (more blocks way listed l on);
        }

    pub windows_over : room < rows.to - rows.from → Windowed nodes entries before depth start stop places notes None
    windows_over h =
        record {
          fitting = λ count e. let z : ◌≡◌ {A = ℕ} 0 1 = cc in absurd (omega arith);
          whole = λ blocks way listed l on count e. let z : ◌≡◌ {A = ℕ} 0 1 = cc in absurd (omega arith);
          over = λ blocks way listed l on e.
              let key : ℕ → ℕ = first_cell_in blocks in
              let m = more blocks way listed l on in
              let long : length (window key start stop listed)
              ≡ length (noted entries notes count) + (rows.to - rows.from) + length (window key start stop m.behind) =
              ap length m.parts ∙ simp length-append (rw (run_length entries rows.from (rows.to - rows.from))) in
              omega (arith, s.used, long);
        }

  pub windows_all : Places before depth → depth ≤ k → Windowed nodes entries before depth start stop places notes (Some count)
  unfolding window
  windows_all p end =
      record {
        fitting = λ n e.
            let same : n ≡ count = cc in
            rw same (record { few = omega (arith, s.few, s.inside, p.few); rows = s.rows; fits = omega (arith, s.used) });
        whole = λ blocks way listed l on n e.
            let same : n ≡ count = cc in
            let m = s.rest blocks way listed l on in
            let last : k ≡ length way = omega (arith, s.inside, l.many) in
            let none : drop k way ≡ [] = rw last (drop-length way) in
            let gone : m.behind ≡ [] = way_none (rw none at m.on) in
            rw same (sym (m.parts ∙ rw gone (append-nil (noted entries notes count))));
        over = λ blocks way listed l on e. let z : ◌≡◌ {A = ℕ} 0 1 = cc in absurd (omega arith);
      }

pub ruleset windowing = (windows_none, windows_empty, windows_more, windows_over, windows_all)
