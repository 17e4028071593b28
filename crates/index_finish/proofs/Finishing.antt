-- Finish on tables that stand for an open ledger: one step for each return. Assumes nothing.
use mathlib.Core.Path.{◌≡◌, refl, sym, ◌∙◌}
use mathlib.Core.Bool.{Bool, true, false}
use mathlib.Core.List.{List, map}
use Prim.Native.Nat.{ℕ, ◌<◌, ◌^◌}
use native.Mathlib.Omega.{arith}
use lib.ListN.{length, replicate}
use borrow.Author.Tests.{not-true, not-false}
use Rattle.lists.specs.Tests.{Decides}
use Rattle.lists.proofs.Numbers.{confirm, refute, decides_iff}
use Rattle.history.specs.Words.{block_of}
use Rattle.history.specs.Rules.{Apart}
use Rattle.history.specs.Ledger.{Ledger}
use Rattle.history.specs.Results.{done}
use Rattle.history.specs.Refusals.{accepted, refused}
use Rattle.tables.specs.Columns.{column, block_column, pieces_count, head_count, head_end}
use Rattle.handed_rows.specs.Handed.{SeenHanded}
use Rattle.segment_tree.specs.Lives.{rows_to_count, CountedTrees, CountedAs}
use Rattle.std.specs.Prelude.{Ok, Err, Result as Told}
use Rattle.refusals.specs.declared.Refusal.{Refusal}
use Rattle.refusals.specs.Numbers.{number_of, answer_by}
use Rattle.layout.specs.Tables.{tables}
use Rattle.layout.specs.Formed.{Blank}
use Rattle.index_finish.specs.Apart.{BlocksClear}
use Rattle.index_finish.specs.Trial.{Tried, BlocksApart}
use Rattle.index_finish.specs.Finish.{StandsOpen, all_blocks, whole_trees, Finishing, FinishedOpen, TestedBlank, TriedAll, AllApart, Accepted, Prepared, Finished, SettledTables}
use Rattle.index_finish.proofs.Standing.{unordered, no_wrap, piece_rows, rep, piece-count}
use Rattle.index_finish.proofs.Agreeing.{unshared_all, all_unshared}
use Rattle.index_finish.proofs.Handed.{handed-apart}
use Rattle.index_finish.proofs.Trying.{tryable}
use Rattle.index_finish.proofs.Counting.{countable, counted_all, counted_refused, counted_accepted, accepted_space}

-- ── the returns of `blank` ──

pub nodes_used : {nodes entries : List ℕ} {q : Bool} → Decides q (nodes ≡ replicate (length nodes) 0) → q ≡ false → TestedBlank nodes entries false
nodes_used {q = q} d f = record { decides = λ pieces blocks store. refute (λ x. d.not f x.nodes) }

pub nodes_zero : {nodes entries : List ℕ} {q r : Bool} → Decides q (nodes ≡ replicate (length nodes) 0) → q ≡ true
    → Decides r (entries ≡ replicate (length entries) 0) → TestedBlank nodes entries r
nodes_zero {q = q} {r = r} d f rest = record {
  decides = λ pieces blocks store. decides_iff r (λ e. record { nodes = d.yes f; entries = e }) (λ x. x.entries) rest;
}

pub ruleset blanking = (nodes_used, nodes_zero)

-- ── the returns of `all_apart` ──

-- what was seen along the rows
seen : {pieces blocks b : List ℕ} {n : ℕ} {known : Bool} → SeenHanded pieces blocks n (column pieces 0 pieces_count) b known → (l : Ledger) → n ≡ length l.now.blocks
    → SeenHanded pieces blocks (length l.now.blocks) (column pieces 0 pieces_count) b known
seen handed l same = rw same at handed

module _ {pieces blocks nodes entries : List ℕ} {e n : ℕ} (few_pieces : length pieces < 2 ^ 64) {b₀ : List ℕ} {known : Bool}
    (handed : SeenHanded pieces blocks n (column pieces 0 pieces_count) b₀ known) where
  pub apart_handed : known ≡ true → AllApart pieces blocks nodes entries e n b₀ nodes entries true
  apart_handed y = record {
    done = λ store l s blank ee en. record {
      blocks_same = (seen handed l en).kept (unordered s);
      nodes_same = refl;
      entries_same = refl;
      decides = confirm (handed-apart s few_pieces (seen handed l en) y);
    };
  }

  module _ {b₁ nodes₁ entries₁ : List ℕ} {q : Bool} (few_blocks : length blocks < 2 ^ 64) (tried : BlocksApart b₀ nodes entries e n b₁ nodes₁ entries₁ q) where
    trial : {store : List ℕ} {l : Ledger} → StandsOpen (tables pieces blocks store nodes entries) l → Blank (tables pieces blocks store nodes entries)
        → e ≡ l.opening.end → n ≡ length l.now.blocks
        → Tried blocks nodes entries (length l.now.blocks) b₁ nodes₁ entries₁ q
    trial {store} {l} s blank ee en =
        let here : BlocksApart blocks nodes entries l.opening.end (length l.now.blocks) b₁ nodes₁ entries₁ q =
        rw (← ee, ← en, ← (seen handed l en).kept (unordered s)) tried in
        here.done store (tryable s blank few_blocks)

    pub apart_fails : q ≡ false → AllApart pieces blocks nodes entries e n b₁ nodes₁ entries₁ false
    apart_fails f = record {
      done = λ store l s blank ee en.
          let t = trial s blank ee en in
          record {
            blocks_same = t.blocks_same;
            nodes_same = t.nodes_same;
            entries_same = t.entries_same;
            decides = refute (λ a. t.decides.not f (all_unshared s a).blocks_apart);
          };
    }

    pub apart_rest : {r : Bool} → q ≡ true → BlocksClear pieces b₁ n r → AllApart pieces blocks nodes entries e n b₁ nodes₁ entries₁ r
    apart_rest {r} f c = record {
      done = λ store l s blank ee en.
          let t = trial s blank ee en in
          let clear : BlocksClear pieces blocks (length l.now.blocks) r = rw (← t.blocks_same, ← en) c in
          record {
            blocks_same = t.blocks_same;
            nodes_same = t.nodes_same;
            entries_same = t.entries_same;
            decides = decides_iff r (λ u. unshared_all s (record { blocks_apart = t.decides.yes f; pieces_apart = u })) (λ a. (all_unshared s a).pieces_apart)
                (clear.decides (piece_rows s) (rep s few_pieces) (record { each = no_wrap s }));
          };
    }

pub ruleset parting = (apart_handed, apart_fails, apart_rest, not-true, not-false, arith)

-- ── the returns of `prepare` ──

pub prepare_unformed : {pieces blocks nodes entries : List ℕ} {q : Bool} → TestedBlank nodes entries q → q ≡ false → Prepared pieces blocks nodes entries blocks nodes entries (refused 2)
prepare_unformed {pieces} {blocks} {q = q} d f = record {
  done = λ store l s. record {
    formed = λ x. absurd ((d.decides pieces blocks store).not f x.blank);
    unformed = λ _. refl;
    blocks_same = refl;
    entries_same = refl;
    refused_same = λ _. refl;
    accepted_counted = λ z. absurd (cc);
  };
}

module _ {pieces blocks nodes entries b nodes₁ entries₁ : List ℕ} {n e : ℕ} {q p : Bool} (few_pieces : length pieces < 2 ^ 64) (few_blocks : length blocks < 2 ^ 64)
    (zeros : TestedBlank nodes entries q) (f : q ≡ true) (count : n ≡ block_column blocks 0 head_count) (ee : e ≡ block_column blocks 0 head_end)
    (test : AllApart pieces blocks nodes entries e n b nodes₁ entries₁ p) where
  module _ {store : List ℕ} {l : Ledger} (s : StandsOpen (tables pieces blocks store nodes entries) l) where
    n_is : n ≡ length l.now.blocks
    n_is = count ∙ s.encodes.count

    e_is : e ≡ l.opening.end
    e_is = ee ∙ s.encodes.end

    still_blank : Blank (tables pieces blocks store nodes entries)
    still_blank = (zeros.decides pieces blocks store).yes f

    tried : TriedAll l (tables pieces blocks store nodes entries) b nodes₁ entries₁ p
    tried = test.done store l s still_blank e_is n_is

  pub prepare_shared : p ≡ false → Prepared pieces blocks nodes entries b nodes₁ entries₁ (refused 2)
  prepare_shared g = record {
    done = λ store l s. record {
      formed = λ x. absurd ((tried s).decides.not g x.apart);
      unformed = λ _. refl;
      blocks_same = (tried s).blocks_same;
      entries_same = (tried s).entries_same;
      refused_same = λ _. (tried s).nodes_same;
      accepted_counted = λ z. absurd (cc);
    };
  }

  module _ {nodes' : List ℕ} {m : ℕ} {r : Told Unit Refusal} (g : p ≡ true) (em : m ≡ column pieces 0 pieces_count)
      (tree : CountedTrees (rows_to_count b n pieces m e) nodes₁ entries₁ nodes' r) (long : length nodes' ≡ length nodes) where
    module _ {store : List ℕ} {l : Ledger} (s : StandsOpen (tables pieces blocks store nodes entries) l) where
      is_apart : Apart (all_blocks l)
      is_apart = (tried s).decides.yes g

      counted : CountedAs nodes entries nodes' l.opening.end (whole_trees l) r
      counted =
          let t = tried s in
          let m_is : m ≡ length l.now.pieces = em ∙ piece-count s in
          let c : CountedTrees (rows_to_count blocks (length l.now.blocks) pieces (length l.now.pieces) l.opening.end) nodes entries nodes' r
          = rw (← n_is s, ← m_is, ← e_is s, ← t.blocks_same, ← t.nodes_same, ← t.entries_same) tree in
          rw (counted_all l) at (c.done l.now.blocks (map (block_of l.opening.end) l.now.pieces) s.encodes.pieces.links
          (countable s (still_blank s) few_pieces few_blocks))

    prepare_full : (x : Refusal) → r ≡ Err x → Prepared pieces blocks nodes entries b nodes' entries₁ (refused (number_of x))
    prepare_full x full = record {
      done = λ store l s. record {
        formed = λ _. sym (counted_refused s (counted s).answer full);
        unformed = λ never. absurd (never (record { blank = still_blank s; apart = is_apart s }));
        blocks_same = (tried s).blocks_same;
        entries_same = (tried s).entries_same;
        refused_same = λ _. (counted s).refused (λ z. absurd (cc));
        accepted_counted = λ z. absurd (cc);
      };
    }

    prepare_counted : r ≡ Ok tt → Prepared pieces blocks nodes entries b nodes' entries₁ (accepted done)
    prepare_counted z = record {
      done = λ store l s. record {
        formed = λ _. sym (counted_accepted s (counted s).answer z);
        unformed = λ never. absurd (never (record { blank = still_blank s; apart = is_apart s }));
        blocks_same = (tried s).blocks_same;
        entries_same = (tried s).entries_same;
        refused_same = λ ne. absurd (ne refl);
        accepted_counted = λ _. record {
          stands = s;
          tallied = record {
            answer = counted_accepted s (counted s).answer z;
            apart = is_apart s;
            counted = (counted s).counted z;
            space = accepted_space s (counted s).answer z;
          };
          nodes_long = long;
          entry_zeros = (still_blank s).entries;
        };
      };
    }

    pub prepare_told : Prepared pieces blocks nodes entries b nodes' entries₁ (answer_by (λ _. done) r)
    prepare_told = go r refl
      where
        go : (x : Told Unit Refusal) → r ≡ x → Prepared pieces blocks nodes entries b nodes' entries₁ (answer_by (λ _. done) x)
        go (Ok u) e = prepare_counted e
        go (Err x) e = prepare_full x e

pub ruleset preparing = (prepare_unformed, prepare_shared, prepare_told)

-- ── a refusal, and an accepted finish ──

module _ {pieces blocks nodes entries b nodes₁ entries₁ : List ℕ} where
  -- a refusal leaves everything as it was
  pub finish_refused : {number : ℕ} → Prepared pieces blocks nodes entries b nodes₁ entries₁ (refused number)
      → FinishedOpen pieces blocks nodes entries pieces b nodes₁ entries₁ (refused number)
  finish_refused {number} p = record { done = go }
    where
      go : (store : List ℕ) (l : Ledger) → StandsOpen (tables pieces blocks store nodes entries) l
          → Finishing l (tables pieces blocks store nodes entries) (tables pieces b store nodes₁ entries₁) (refused number)
      go store l s =
          let told = p.done store l s in
          let same : tables pieces b store nodes₁ entries₁ ≡ tables pieces blocks store nodes entries =
          rw (told.blocks_same, told.refused_same (λ z. absurd (cc)), told.entries_same) in
          record { formed = λ f. (told.formed f, rw (← told.formed f) same); unformed = λ never. (told.unformed never, same) }

  pub finish_done : {pieces' b' nodes' entries' : List ℕ} → Prepared pieces blocks nodes entries b nodes₁ entries₁ (accepted done)
      → SettledTables pieces b nodes₁ entries₁ pieces' b' nodes' entries'
      → FinishedOpen pieces blocks nodes entries pieces' b' nodes' entries' (accepted done)
  finish_done {pieces'} {b'} {nodes'} {entries'} p settle = record { done = go }
    where
      go : (store : List ℕ) (l : Ledger) → StandsOpen (tables pieces blocks store nodes entries) l
          → Finishing l (tables pieces blocks store nodes entries) (tables pieces' b' store nodes' entries') (accepted done)
      go store l s =
          let told = p.done store l s in
          let a : Accepted (tables pieces blocks store nodes entries) nodes₁ l = told.accepted_counted refl in
          let here : SettledTables pieces blocks nodes₁ entries pieces' b' nodes' entries' = rw (told.blocks_same, told.entries_same) at settle in
          let d : Finished l (tables pieces blocks store nodes entries) (tables pieces' b' store nodes' entries') = here.done nodes store l a in
          record {
            formed = λ f. rw a.tallied.answer (refl, (d.encodes, d.tables_are));
            unformed = λ never. absurd (let two : accepted done ≡ refused 2 = told.unformed never in cc);
          }
