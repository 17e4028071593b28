-- Touching, next and last of an index and of what is loaded of a kind's part of its file: the same blocks in the same order, under their new numbers; and what
-- is touched there shows what it shows here. Assumes nothing.
use mathlib.Core.Path.{◌≡◌, refl, sym, ap, ◌∙◌, subst}
use mathlib.Core.Logic.{⊎_elim}
use mathlib.Core.Bool.{Bool, true}
use mathlib.Core.Option.{Option}
use mathlib.Core.List.{List, [], ◌∷◌, map, head?}
use Prim.Native.Nat.{ℕ, ◌≤◌, ◌<◌}
use native.Mathlib.Omega.{arith}
use lib.Dec.{ltb}
use lib.ListN.{length, take, get_or-eq_default}
use borrow.Author.Tests.{eqb-true, ltb-false}
use Rattle.lists.specs.Lists.{All, all_nil, all_cons, Pairs, pairs_nil, pairs_cons, Mem, here, there, Ascending}
use Rattle.lists.proofs.Lists.{all_both, all_mem, all_of_mem, all_of_map, mem_map}
use Rattle.lists.proofs.Maps.{length_of_map, pairs_of_map}
use Rattle.lists.proofs.Numbers.{and_left, and_right, lt_or_le}
use Rattle.history.specs.Words.{Block, Operation, of_kind, live, live_of, first_cell}
use Rattle.history.specs.Tree.{no_block, block_at, key_in}
use Rattle.history.specs.Ledger.{Ledger}
use Rattle.history.specs.Reads.{tree_in, block_by, live_by, touches, starts_from, ends_by, last_in, touching_by}
use Rattle.history.specs.Refusals.{Answer, accepted, Refusal, first_of, window_refusals, neighbour_refusals, touching_answer}
use Rattle.history.specs.Sound.{Sound}
use Rattle.history.specs.File.{written, saved_ledger}
use Rattle.history.proofs.Within.{within_true}
use Rattle.history.proofs.Touching.{live_ascending, live_holds, live_mem, live_same}
use Rattle.layout.specs.Tables.{Tables, lengths_of}
use Rattle.layout.specs.Encodes.{Encodes}
use Rattle.layout.specs.Reads.{values_of, HandedInto}
use Rattle.layout.specs.Relations.{TouchedBy, Near, near_of, NextGivenBy, LastGivenBy}
use Rattle.demand.specs.Touching.{ListShows}
use Rattle.spacetime_file.specs.Law.{Lives, number_in, near_in}
use Rattle.spacetime_file.proofs.Closed.{KindIn}
use Rattle.spacetime_file.proofs.Numbering.{first_map, first_accepted, list_alike, kept_block, kept_lives, same_window, same_neighbours}

-- a member of what a function makes is made of a member
mem_of_map : {A B : Type 0} (f : A → B) {y : B} (xs : List A) → Mem y (map f xs) → (x : A) × Mem x xs × (y ≡ f x)
mem_of_map f [] m = elim m [ ]
mem_of_map f (x ∷ xs) (here e) = (x, here refl, e)
mem_of_map f (x ∷ xs) (there m) = let p = mem_of_map f xs m in (p.0, there p.1, p.2)

module _ {t u : Tables} {l : Ledger} {kind : ℕ} (c : KindIn t l kind) (e : Encodes u (saved_ledger (lengths_of u) l kind)) (s : Sound (saved_ledger (lengths_of u) l kind)) where
  abbrev saved : Ledger
  saved = saved_ledger (lengths_of u) l kind

  abbrev number : ℕ → ℕ
  number = number_in l kind

  -- ── live blocks of which a test holds ──

  -- what is live has a number and a life
  living_number : (m : Ledger) (tick k : ℕ) → live_of kind tick (block_by m k) ≡ true → k < length m.now.blocks
  living_number m tick k living =
      let b = block_by m k in
      let ticks = within_true b.created b.destroyed tick (and_right (of_kind kind b) (live tick b) living) in
      ⊎_elim (λ h. h)
      (λ past. let none : b.destroyed ≡ 0 = ap (λ (x : Block). x.destroyed) (get_or-eq_default m.now.blocks no_block past) in absurd (omega arith))
      (lt_or_le k (length m.now.blocks))

  live_lives : (tick k : ℕ) → live_of kind tick (block_by l k) ≡ true → Lives l kind k
  live_lives tick k living =
      let b = block_by l k in
      let ticks = within_true b.created b.destroyed tick (and_right (of_kind kind b) (live tick b) living) in
      record { number = living_number l tick k living; same_kind = eqb-true b.kind kind (and_left (of_kind kind b) (live tick b) living); ticks = omega arith }

  kept_key : (k : ℕ) → Lives l kind k → key_in saved.now.blocks (number k) ≡ key_in l.now.blocks k
  kept_key k lives = ap first_cell (kept_block c (lengths_of u) k lives)

  keys_ascend : {ks : List ℕ} → All (Lives l kind) ks → Ascending (key_in l.now.blocks) ks → Pairs (λ i j. key_in saved.now.blocks (number i) < key_in saved.now.blocks (number j)) ks
  keys_ascend all_nil pairs_nil = pairs_nil
  keys_ascend (all_cons {x} p ps) (pairs_cons a r) = pairs_cons (all_both (λ k q less. omega (arith, kept_key x p, kept_key k q)) ps a) (keys_ascend ps r)

  module _ (tick : ℕ) (test : Block → Bool) where
    abbrev listed : List ℕ
    listed = live_by l kind tick test

    listed_live : (k : ℕ) → Mem k listed → (live_of kind tick (block_by l k) ≡ true) × (test (block_by l k) ≡ true)
    listed_live k m =
        let h = live_holds l c.closed.sound c.closed.closed kind tick test k m in
        (and_left (live_of kind tick (block_by l k)) (test (block_by l k)) h, and_right (live_of kind tick (block_by l k)) (test (block_by l k)) h)

    pub listed_lives : (k : ℕ) → Mem k listed → Lives l kind k
    listed_lives k m = live_lives tick k (listed_live k m).0

    renumbered_live : All (λ j. (live_of kind tick (block_by saved j) ≡ true) × (test (block_by saved j) ≡ true)) (map number listed)
    renumbered_live = all_of_map number (all_of_mem listed (λ k m. rw (kept_block c (lengths_of u) k (listed_lives k m)) (listed_live k m)))

    -- what is live there is live here
    back : (j : ℕ) → live_of kind tick (block_by saved j) ≡ true → test (block_by saved j) ≡ true → Mem j (map number listed)
    back j living holds =
        let inside : j < length (written l.now.blocks (tree_in l kind)) = rw (length_of_map (block_at l.now.blocks) (written l.now.blocks (tree_in l kind))) at (living_number saved tick j living) in
        let k = kept_lives c j inside in
        let same : block_by saved j ≡ block_by l k.0 = ap (block_by saved) (sym k.2) ∙ kept_block c (lengths_of u) k.0 k.1 in
        subst (λ (i : ℕ). Mem i (map number listed)) k.2
        (mem_map number (live_mem l c.closed.sound c.closed.closed kind tick test k.0 (rw same at living) (rw same at holds)))

    -- the same blocks, under their new numbers
    pub saved_live : live_by saved kind tick test ≡ map number listed
    saved_live =
        sym (live_same saved s refl kind tick test
        (pairs_of_map number (keys_ascend (all_of_mem listed listed_lives) (live_ascending l c.closed.sound c.closed.closed kind tick test)))
        (λ j m. all_mem renumbered_live m) back)

  -- ── touching ──

  same_touching : (tick start stop room : ℕ) → touching_answer saved kind tick start stop room ≡ values_of (map number) (touching_answer l kind tick start stop room)
  same_touching tick start stop room =
      let found = touching_by l kind tick start stop in
      rw (saved_live tick (touches start stop), length_of_map number found, same_window c e tick start stop (ltb room (length found)))
      (first_map (map number) (window_refusals l kind tick start stop (ltb room (length found))) found)

  touched_fits : (tick start stop room : ℕ) (ks : List ℕ) → touching_answer l kind tick start stop room ≡ accepted ks → length ks ≤ room
  unfolding window_refusals
  touched_fits tick start stop room ks q =
      let found = touching_by l kind tick start stop in
      let p = first_accepted (window_refusals l kind tick start stop (ltb room (length found))) found ks q in
      rw p.1 (ltb-false room (length found) p.0.1.1.1.1.1.0)

  pub touches_alike : (tick start stop : ℕ) (out old new : List ℕ) (a b : Answer ℕ) → TouchedBy t kind tick start stop out old a
      → TouchedBy u kind tick start stop out new b → (b ≡ a) × ((n : ℕ) → a ≡ accepted n → take n new ≡ map number (take n old))
  touches_alike tick start stop out old new a b f g =
      list_alike (λ (ks : List ℕ). length ks) (λ ks. ks) (λ n. n) number (map number) (λ ks. refl) (λ ks. length_of_map number ks) (λ ks. refl) out old new a b
      (touching_answer l kind tick start stop (length out)) (touched_fits tick start stop (length out)) (f.read.formed l c.closed.encodes c.closed.sound)
      (subst (λ (x : Answer (List ℕ)). HandedInto length (λ ks. ks) out new b x) (same_touching tick start stop (length out)) (g.read.formed saved e s))

  -- ── next and last ──

  near_first : (ks : List ℕ) → near_of (head? (map number ks)) ≡ near_in l kind (near_of (head? ks))
  near_first [] = refl
  near_first (k ∷ ks) = refl

  near_last : (ks : List ℕ) → near_of (last_in (map number ks)) ≡ near_in l kind (near_of (last_in ks))
  unfolding last_in
  near_last [] = refl
  near_last (k ∷ []) = refl
  near_last (k ∷ j ∷ ks) = near_last (j ∷ ks)

  -- refused alike, or the same neighbour
  near_alike : (tick : ℕ) (x y : Option ℕ) → near_of y ≡ near_in l kind (near_of x)
      → values_of near_of (first_of (neighbour_refusals saved kind tick) y) ≡ values_of (near_in l kind) (values_of near_of (first_of (neighbour_refusals l kind tick) x))
  near_alike tick x y is =
      let rs = neighbour_refusals l kind tick in
      ap (λ (own : List Refusal). values_of near_of (first_of own y)) (same_neighbours c e tick)
      ∙ sym (first_map near_of rs y)
      ∙ ap (first_of rs) is
      ∙ first_map (near_in l kind) rs (near_of x)
      ∙ ap (values_of (near_in l kind)) (first_map near_of rs x)

  pub next_alike : (tick cell : ℕ) (a b : Answer Near) → NextGivenBy t kind tick cell a → NextGivenBy u kind tick cell b → b ≡ values_of (near_in l kind) a
  next_alike tick cell a b f g =
      let is = ap (λ (ks : List ℕ). near_of (head? ks)) (saved_live tick (starts_from cell)) ∙ near_first (live_by l kind tick (starts_from cell)) in
      (g.read.formed saved e s).answered ∙ near_alike tick _ _ is ∙ ap (values_of (near_in l kind)) (sym (f.read.formed l c.closed.encodes c.closed.sound).answered)

  pub last_alike : (tick cell : ℕ) (a b : Answer Near) → LastGivenBy t kind tick cell a → LastGivenBy u kind tick cell b → b ≡ values_of (near_in l kind) a
  last_alike tick cell a b f g =
      let is = ap (λ (ks : List ℕ). near_of (last_in ks)) (saved_live tick (ends_by cell)) ∙ near_last (live_by l kind tick (ends_by cell)) in
      (g.read.formed saved e s).answered ∙ near_alike tick _ _ is ∙ ap (values_of (near_in l kind)) (sym (f.read.formed l c.closed.encodes c.closed.sound).answered)

  -- ── the history ──

  -- what is listed there is here
  listed_back : (tick start stop j : ℕ) → Mem j (touching_by saved kind tick start stop)
      → (k : ℕ) × Mem k (touching_by l kind tick start stop) × (j ≡ number k) × (block_by saved j ≡ block_by l k)
  listed_back tick start stop j m =
      let found = touching_by l kind tick start stop in
      let p = mem_of_map number found (subst (λ (ks : List ℕ). Mem j ks) (saved_live tick (touches start stop)) m) in
      (p.0, p.1, p.2, ap (block_by saved) p.2 ∙ kept_block c (lengths_of u) p.0 (listed_lives tick (touches start stop) p.0 p.1))

  -- so a list that shows the history does so under the new numbers
  pub list_shows_again : (h : List Operation) (tick start stop : ℕ) → ListShows l h kind tick start stop → ListShows saved h kind tick start stop
  list_shows_again h tick start stop shows = record {
    listed = λ cell byte from below is.
        let k = shows.listed cell byte from below is in
        let same = kept_block c (lengths_of u) k.0 (listed_lives tick (touches start stop) k.0 k.1) in
        (number k.0, subst (λ (ks : List ℕ). Mem (number k.0) ks) (sym (saved_live tick (touches start stop))) (mem_map number k.1), rw same k.2);
    shown = λ cell byte j m is.
        let k = listed_back tick start stop j m in
        shows.shown cell byte k.0 k.1 (rw k.3 at is);
    one = λ cell i j a b p q.
        let k = listed_back tick start stop i a in
        let m = listed_back tick start stop j b in
        k.2 ∙ ap number (shows.one cell k.0 m.0 k.1 m.1 (rw k.3 at p) (rw m.3 at q)) ∙ sym m.2;
  }
