-- The whole loader: one step for each return of `load`. Assumes nothing.
use mathlib.Core.Path.{◌≡◌, refl, sym, ◌∙◌, ap}
use mathlib.Core.Logic.{⊎_elim}
use mathlib.Core.Bool.{Bool, true, false}
use mathlib.Core.List.{List}
use Prim.Native.Nat.{ℕ, ◌≤◌, ◌<◌}
use native.Mathlib.Omega.{arith}
use lib.ListN.{length, replicate}
use borrow.Author.Tests.{lt-ltb, le-ltb}
use Rattle.lists.proofs.Numbers.{bool_cases}
use Rattle.history.specs.Lent.{Lent}
use Rattle.history.specs.Rules.{rule23, apart}
use Rattle.history.specs.Refusals.{Answer, accepted, refused}
use Rattle.history.specs.File.{got, fault, File, read_file, tree_from, end_of, rule20, rule21, rule22, loaded_from, load}
use Rattle.history.proofs.FileLoad.{load_fault, load_room, load-halves, load_blocks, load_entries, load_disjoint, load-taken}
use Rattle.refusals.specs.declared.Refusal.{Refusal}
use Rattle.refusals.specs.Numbers.{number_of}
use Rattle.file_scan.specs.Counts.{Scanned, scan_of}
use Rattle.file_scan.proofs.FileParts.{file_parts, Counted, scan_counts, scan_fault}
use Rattle.layout.specs.Tables.{Tables, tables, lengths_of}
use Rattle.layout.specs.Relations.{zeros}
use Rattle.layout.specs.Files.{zeroed_tables, after_fault, position_of, LoadedBy}
use Rattle.file_load.specs.Load.{room_for, verdict, PartsAt, Built, Zeroed}
use Rattle.file_load.proofs.Building.{verdict_by}
use Rattle.file_load.proofs.Faults.{low_file}

-- ── what load answers ──

refused_same : {i j : ℕ} → ◌≡◌ {A = Answer (Unit {0})} (refused i) (refused j) → i ≡ j
refused_same e = cc

module _ (n : Lent) (file : List ℕ) (at : ℕ) (f : File) (next : ℕ) (read : read_file file at ≡ got f next) (room : rule20 n f ≡ true) where
  -- by the verdict: a fault above 20, or the file's index
  pub record Answers : Type 0 where
    pub taken : verdict f ≡ accepted tt → load n file at ≡ got (loaded_from f) next
    pub not_taken : (i : ℕ) → verdict f ≡ refused i → load n file at ≡ fault i
    pub above : (i : ℕ) → verdict f ≡ refused i → 20 < i

  faulty : (i : ℕ) → 20 < i → verdict f ≡ refused i → load n file at ≡ fault i → Answers
  faulty i h v l =
      record {
        taken = λ z. absurd (let w = sym v ∙ z in cc);
        not_taken = λ j z. l ∙ ap fault (refused_same (sym v ∙ z));
        above = λ j z. omega (arith, h, refused_same (sym v ∙ z));
      }

  pub answers : Answers
  answers =
      ⊎_elim
      (λ a.
      ⊎_elim
      (λ b.
      ⊎_elim
      (λ c.
      ⊎_elim
      (λ d.
      record {
        taken = λ z. load-taken n file at f next read (record { room = room; halves = a; blocks = b; entries = c; disjoint = d });
        not_taken = λ i z. absurd (let w = sym (verdict_by f a b c d) ∙ z in cc);
        above = λ i z. absurd (let w = sym (verdict_by f a b c d) ∙ z in cc);
      })
      (λ d. faulty 24 (omega arith) (verdict_by f a b c d) (load_disjoint n file at f next read room a b c d))
      (bool_cases (apart f.blocks)))
      (λ c. faulty 23 (omega arith) (verdict_by f a b c refl) (load_entries n file at f next read room a b c))
      (bool_cases (rule23 (end_of f.nodes) f.blocks (tree_from f.nodes))))
      (λ b. faulty 22 (omega arith) (verdict_by f a b refl refl) (load_blocks n file at f next read room a b))
      (bool_cases (rule22 (end_of f.nodes) f.blocks)))
      (λ a. faulty 21 (omega arith) (verdict_by f a refl refl refl) (load-halves n file at f next read room a))
      (bool_cases (rule21 f.nodes))

-- ── what load leaves ──

module _ (file : List ℕ) (at : ℕ) (t : Tables) where
  -- a fault below 21 leaves everything, one above 20 zeros
  by_low : (i : ℕ) → load (lengths_of t) file at ≡ fault i → i ≤ 20 → LoadedBy file at t t (refused i)
  unfolding position_of after_fault
  by_low i e h = record { answered = rw e refl; left = rw e (rw (le-ltb 20 i h) refl) }

  by_high : (i : ℕ) {t' : Tables} → load (lengths_of t) file at ≡ fault i → 20 < i → t' ≡ zeroed_tables t → LoadedBy file at t t' (refused i)
  unfolding position_of after_fault
  by_high i e h z = record { answered = rw e refl; left = rw e (rw (lt-ltb 20 i h) z) }

-- ── the returns of `load` ──

module _ (file : List ℕ) (at : ℕ) (pieces blocks store nodes entries : List ℕ) where
  abbrev t : Tables
  t = tables pieces blocks store nodes entries

  pub load_scan : {i : ℕ} → refused i ≡ scan_of at (read_file file at) → LoadedBy file at t t (refused i)
  load_scan {i} scanned =
      let r = scan_fault at (read_file file at) scanned in
      by_low file at t i (load_fault (lengths_of t) file at i r) (omega (arith, low_file.low file at i r))

  module _ {counts : Scanned} (scanned : accepted counts ≡ scan_of at (read_file file at)) where
    said : {G : Type 0} → ((f : File) → read_file file at ≡ got f counts.next → Counted at f counts.kind counts.blocks counts.bytes counts.nodes counts.entries counts.blocks_at counts.nodes_at → G) → G
    said g = scan_counts at (read_file file at) scanned g

    module _ {room : Bool} (tested : room ≡ room_for (length blocks) (length store) (length nodes) (length entries) counts.blocks counts.bytes counts.nodes counts.entries) where
      -- the test of the counts is rule 20
      room_is : (f : File) → Counted at f counts.kind counts.blocks counts.bytes counts.nodes counts.entries counts.blocks_at counts.nodes_at → rule20 (lengths_of t) f ≡ room
      unfolding rule20 room_for
      room_is f c = sym (tested ∙ rw (c.same_blocks, c.same_bytes, c.same_nodes, c.same_entries) refl)

      pub load_full : room ≡ false → LoadedBy file at t t (refused 20)
      load_full h =
          said λ f r c.
          by_low file at t 20 (load_room (lengths_of t) file at f counts.next r (room_is f c ∙ h)) (omega arith)

      module _ (fits : room ≡ true) {blocks' store' nodes' entries' : List ℕ} {r : Answer (Unit {0})}
          (built : Built file counts.kind counts.blocks counts.bytes counts.blocks_at counts.nodes_at blocks store nodes entries blocks' store' nodes' entries' r) where
        -- the parts of the file, where they stand
        parts : (f : File) → read_file file at ≡ got f counts.next → Counted at f counts.kind counts.blocks counts.bytes counts.nodes counts.entries counts.blocks_at counts.nodes_at → PartsAt file counts.kind counts.blocks counts.bytes counts.blocks_at counts.nodes_at f
        parts f r c =
            let p = file_parts file at r in
            record {
              blocks = rw (c.same_kind, c.same_blocks, c.same_first, c.same_start) p.blocks;
              nodes_end = counts.next;
              nodes = rw c.same_start p.nodes;
              own_kind = c.same_kind;
              known_kind = omega (arith, p.low, c.same_kind);
              count = c.same_blocks;
              bytes = c.same_bytes;
            }

        room_there : (f : File) → Counted at f counts.kind counts.blocks counts.bytes counts.nodes counts.entries counts.blocks_at counts.nodes_at → rule20 (lengths_of t) f ≡ true
        room_there f c = room_is f c ∙ fits

        pub load_broken : {pieces'' blocks'' store'' nodes'' entries'' : List ℕ} (i : Refusal) → r ≡ refused (number_of i) → pieces'' ≡ zeros pieces
            → Zeroed blocks' store' nodes' entries' blocks'' store'' nodes'' entries''
            → length blocks' ≡ length blocks → length store' ≡ length store → length nodes' ≡ length nodes → length entries' ≡ length entries
            → LoadedBy file at t (tables pieces'' blocks'' store'' nodes'' entries'') (refused (number_of i))
        load_broken i h p z bl sl nl el =
            said λ f r c.
            let is : verdict f ≡ refused (number_of i) = sym (built.answered f pieces (parts f r c) (room_there f c)) ∙ h in
            let a = answers (lengths_of t) file at f counts.next r (room_there f c) in
            let all : tables _ _ _ _ _ ≡ zeroed_tables t =
            tables_same p (z.blocks_are ∙ ap (λ (k : ℕ). replicate k 0) bl) (z.store_is ∙ ap (λ (k : ℕ). replicate k 0) sl)
            (z.nodes_are ∙ ap (λ (k : ℕ). replicate k 0) nl) (z.entries_are ∙ ap (λ (k : ℕ). replicate k 0) el) in
            by_high file at t (number_of i) (a.not_taken (number_of i) is) (a.above (number_of i) is) all
          where
            tables_same : {a b c d e a' b' c' d' e' : List ℕ} → a ≡ a' → b ≡ b' → c ≡ c' → d ≡ d' → e ≡ e' → tables a b c d e ≡ tables a' b' c' d' e'
            tables_same p q r s u = λ i. tables (p i) (q i) (r i) (s i) (u i)

        pub load_right : {pieces'' : List ℕ} → r ≡ accepted tt → pieces'' ≡ zeros pieces
            → LoadedBy file at t (tables pieces'' blocks' store' nodes' entries') (accepted counts.next)
        unfolding position_of
        load_right h p =
            said λ f r c.
            let v : verdict f ≡ accepted tt = sym (built.answered f pieces (parts f r c) (room_there f c)) ∙ h in
            let a = (answers (lengths_of t) file at f counts.next r (room_there f c)).taken v in
            record {
              answered = rw a refl;
              left = rw a (rw p (built.stands f pieces (parts f r c) (room_there f c) v));
            }
