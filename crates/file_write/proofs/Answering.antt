-- A part of the file put part over part, the parts one behind the other, and the answers of `write_closed`: over a closed index they are the ledger's. Assumes nothing.
use mathlib.Core.Path.{◌≡◌, refl, sym, ◌∙◌, ap}
use mathlib.Core.Bool.{Bool, true, false, cond}
use mathlib.Core.List.{List, [], ◌∷◌, ◌++◌, flat_map, append_assoc, append-nil}
use Prim.Native.Nat.{ℕ, zero, suc, ◌+◌, ◌-◌, ◌≤◌, ◌<◌}
use native.Mathlib.Omega.{arith}
use lib.Dec.{eqb}
use lib.ListN.{length, take, drop, length-append, length-drop}
use lib.Seq.{sets, sets-eq, length-sets, drop-drop, take_all, drop-length}
use Rattle.lists.specs.Lists.{count_from}
use Rattle.lists.proofs.Stores.{sets-append, sets_comm, sets_over}
use Rattle.lists.proofs.Counting.{count_from_append}
use Rattle.history.specs.Ledger.{Ledger, finished}
use Rattle.history.specs.Refusals.{accepted, refused}
use Rattle.history.specs.Sound.{Sound}
use Rattle.history.specs.Tree.{Tree}
use Rattle.history.specs.File.{bytes_of, block_bytes, node_bytes, nodes_of, map_tree, place_in, file_part, file_by}
use Rattle.history.proofs.FileNumbers.{bytes_of-length}
use Rattle.tables.specs.Columns.{column, block_column, head_end, nodes_count}
use Rattle.layout.specs.Tables.{tables}
use Rattle.layout.specs.Encodes.{Encodes}
use Rattle.layout.proofs.ReadLaws.{write_fits, write_16, into_refused}
use Rattle.lists.specs.Puts.{Put}
use Rattle.file_put.specs.Living.{living, living_blocks}
use Rattle.file_write.specs.Sizes.{blocks_size, block_count, nodes_at, file_size, share_of, fitted}
use Rattle.file_nodes.specs.Numbering.{Listed}
use Rattle.file_put.specs.Parts.{PutBlocks}
use Rattle.file_nodes.specs.Nodes.{PutTree}
use Rattle.file_write.specs.Answers.{PartWritten, PartPut, AllWritten, WrittenClosed}
use Rattle.std.specs.Prelude.{Option, Some, None, Err, ok_or}
use Rattle.refusals.specs.declared.Refusal.{Refusal}
use Rattle.refusals.specs.declared.Refusal.TheVariants.{ResultTooLong}
use Rattle.refusals.specs.Numbers.{number_of}
use Rattle.lists.proofs.Puts.{put_append}
use Rattle.file_put.proofs.Laying.{flat_map_append, flat_map_one}
use Rattle.file_nodes.proofs.Listing.{numbers_length, numbering}
use Rattle.file_write.proofs.Agreeing.{Agrees, all_agree, file_long}
use Rattle.file_write.proofs.Planning.{list_shorter, share_told, share_long, fits_told, long_told}

-- ── part over part ──

-- the nodes behind the blocks, the blocks over the list, the head in front
layers : (out head list blocks nodes : List ℕ) (place : ℕ) → length head ≡ 9 → place ≡ 9 + length blocks → length list ≤ length blocks
    → sets (sets (sets (sets out 9 list) place nodes) 9 blocks) 0 head ≡ sets out 0 (head ++ (blocks ++ nodes))
layers out head list blocks nodes place nine e h =
    let front : 0 + length head ≡ 9 = omega arith in
    let over : sets (sets (sets out 9 list) place nodes) 9 blocks ≡ sets out 9 (blocks ++ nodes) =
    sym (sets_comm (sets out 9 list) 9 blocks place nodes (omega arith))
    ∙ ap (λ (l : List ℕ). sets l place nodes) (sets_over out 9 list blocks h)
    ∙ rw e (sym (sets-append out 9 blocks nodes)) in
    ap (λ (l : List ℕ). sets l 0 head) over ∙ sym (sets_comm out 0 head 9 (blocks ++ nodes) (omega arith))
    ∙ sym (rw front at (sets-append out 0 head (blocks ++ nodes)))

list_fits : (blocks : List ℕ) (kind n many : ℕ) → length (cond (eqb many n) [] (flat_map (bytes_of 8) (living blocks kind n))) ≤ blocks_size blocks kind n
list_fits blocks kind n many = go (eqb many n)
  where
    go : (t : Bool) → length (cond t [] (flat_map (bytes_of 8) (living blocks kind n))) ≤ blocks_size blocks kind n
    go true = omega arith
    go false = omega (arith, numbers_length (living blocks kind n), list_shorter blocks kind n)

-- ── the returns of `write_part` ──

module _ (blocks store nodes entries : List ℕ) (kind root : ℕ) (at : root ≡ column nodes 0 kind) where
  pub part_none : (out : List ℕ) → root ≡ 0 → PartWritten blocks store nodes entries kind out out 0
  part_none out z = record {
    part = λ pieces l enc s done low room.
        let none : file_part l kind ≡ [] = (((all_agree pieces blocks store nodes entries l enc s done).each kind low).empty (sym at ∙ z)).0 in
        rw none (refl, refl);
  }

  module _ (some : root ≡ 0 → ⊥) (count : ℕ) (c : count ≡ block_count blocks) (r : Option (ℕ × ℕ)) (out : List ℕ) (m : r ≡ share_of blocks kind count (length out)) where
    -- the part has its blocks at least
    part_blocks : {l : Ledger} {tree : Tree} → Agrees blocks store nodes entries l kind tree → length (file_part l kind) ≡ nodes_at blocks kind (block_count blocks)
        + length (node_bytes (nodes_of 0 (block_column blocks 0 head_end) (map_tree (place_in (living blocks kind (block_count blocks))) tree)))
    part_blocks a = ap length (a.parts (λ z. some (at ∙ z))) ∙ simp (length-append, bytes_of-length) (omega (arith, a.blocks_long))

    pub part-over : r ≡ None → PartWritten blocks store nodes entries kind out out 0
    part-over f = record {
      part = λ pieces l enc s done low room.
          absurd (omega (arith, share_long blocks kind (block_count blocks) (length out) r (rw c at m) f, part_blocks ((all_agree pieces blocks store nodes entries l enc s done).each kind low)));
    }

    pub part-written : (many place end listed p₂ p₃ p₄ p₅ : ℕ) (o₁ o₂ o₃ o₄ o₅ : List ℕ) → r ≡ Some (many, place) → end ≡ block_column blocks 0 head_end
        → Listed blocks kind count many out o₁ listed → PutTree nodes entries root 0 end listed o₁ place o₂ p₂ → PutBlocks store blocks kind count o₂ 9 o₃ p₃
        → Put o₃ 0 (bytes_of 1 kind) o₄ p₄ → Put o₄ p₄ (bytes_of 8 many) o₅ p₅ → PartWritten blocks store nodes entries kind out o₅ p₂
    part-written many place end listed p₂ p₃ p₄ p₅ o₁ o₂ o₃ o₄ o₅ f e list tree put mark number =
        record { part = λ pieces l enc s done low room. whole ((all_agree pieces blocks store nodes entries l enc s done).each kind low) room }
      where
        told : (many ≡ length (living blocks kind (block_count blocks))) × (place ≡ nodes_at blocks kind (block_count blocks)) × (place ≤ length out)
        told = share_told blocks kind (block_count blocks) (length out) many place r (rw c at m) f

        whole : {l : Ledger} {T : Tree} → Agrees blocks store nodes entries l kind T → length (file_part l kind) ≤ length out
            → (o₅ ≡ sets out 0 (file_part l kind)) × (p₂ ≡ length (file_part l kind))
        whole {l} {T} a room =
            let ks : List ℕ = living blocks kind (block_count blocks) in
            let list' : Listed blocks kind (block_count blocks) many out o₁ listed = rw c at list in
            let blocks' = flat_map block_bytes (living_blocks store blocks kind (block_count blocks)) in
            let nodes' = node_bytes (nodes_of 0 (block_column blocks 0 head_end) (map_tree (place_in (living blocks kind (block_count blocks))) T)) in
            let head' = bytes_of 1 kind ++ bytes_of 8 (length (living blocks kind (block_count blocks))) in
            let tree' : PutTree nodes entries (column nodes 0 kind) 0 (block_column blocks 0 head_end) listed o₁ place o₂ p₂ = rw (at, e) at tree in
            let second = tree'.put ks blocks kind T (numbering list' told.0 (omega (arith, told.1, list_shorter blocks kind (block_count blocks))) told.2) a.stands a.known in
            let third : Put o₂ 9 blocks' o₃ p₃ = (rw c at put).put a.stored in
            let last : Put o₃ 0 head' o₅ p₅ = rw told.0 at (put_append mark number) in
            let nine : length head' ≡ 9 = length-append (bytes_of 1 kind) (bytes_of 8 (length ks)) ∙ omega (arith, bytes_of-length 1 kind, bytes_of-length 8 (length ks)) in
            let listed_long : length o₁ ≡ length out = ap length list'.stands ∙ length-sets out 9 (cond (eqb many (block_count blocks)) [] (flat_map (bytes_of 8) ks)) in (
              last.stands ∙ ap (λ (o : List ℕ). sets o 0 head') (third.stands ∙ ap (λ (o : List ℕ). sets o 9 blocks') (second.stands ∙ ap (λ (o : List ℕ). sets o place nodes') list'.stands))
                  ∙ layers out head' (cond (eqb many (block_count blocks)) [] (flat_map (bytes_of 8) ks)) blocks' nodes' place nine (omega (arith, told.1, a.blocks_long))
                  (omega (arith, a.blocks_long, list_fits blocks kind (block_count blocks) many))
                  ∙ ap (sets out 0) (sym (a.parts (λ z. some (at ∙ z)))),
              second.ends ∙ omega (arith, told.1, part_blocks a, listed_long),
            )

pub ruleset parting = (part_none, part-over, part-written)

-- ── the returns of `put_part` ──

-- a part of a slice that is filled from its front on
sets-part : (out : List ℕ) (at : ℕ) (xs : List ℕ) → at + length xs ≤ length out → take at out ++ sets (drop at out) 0 xs ≡ sets out at xs
sets-part out at xs h =
    let z : 0 + length xs ≡ length xs = omega arith in
    let inner : sets (drop at out) 0 xs ≡ xs ++ drop (at + length xs) out =
    sets-eq xs (drop at out) 0 (omega (arith, length-drop at out)) ∙ rw (z, drop-drop (length xs) at out) refl in
    ap (λ (l : List ℕ). take at out ++ l) inner ∙ sym (sets-eq xs out at h ∙ append_assoc (take at out) xs (drop (at + length xs) out))

module _ (blocks store nodes entries : List ℕ) (kind : ℕ) (out : List ℕ) (at : ℕ) where
  pub put_past : length out < at → PartPut blocks store nodes entries kind out at out at
  put_past h = record { part = λ pieces l enc s done low room. absurd (omega arith) }

  module _ (o part' : List ℕ) (size : ℕ) (inside : at ≤ length out) (back : o ≡ take at out ++ (part' ++ drop (length out - at) (drop at out)))
      (w : PartWritten blocks store nodes entries kind (take (length out - at) (drop at out)) part' size) where
    wrote : (pieces : List ℕ) (l : Ledger) → Encodes (tables pieces blocks store nodes entries) l → Sound l → finished l ≡ true → kind ≤ 4
        → at + length (file_part l kind) ≤ length out → (o ≡ sets out at (file_part l kind)) × (size ≡ length (file_part l kind))
    wrote pieces l enc s done low room =
        let long : length (drop at out) ≡ length out - at = length-drop at out in
        let all : take (length out - at) (drop at out) ≡ drop at out = take_all (length out - at) (drop at out) (omega arith) in
        let none : drop (length out - at) (drop at out) ≡ [] = ap (λ (n : ℕ). drop n (drop at out)) (sym long) ∙ drop-length (drop at out) in
        let p = (rw all at w).part pieces l enc s done low (omega arith) in (
          back ∙ ap (λ (r : List ℕ). take at out ++ (part' ++ r)) none
              ∙ ap (λ (r : List ℕ). take at out ++ r) (append-nil part' ∙ p.0)
              ∙ sets-part out at (file_part l kind) room,
          p.1,
        )

    pub put_over : length o - at < size → PartPut blocks store nodes entries kind out at o at
    put_over h = record {
      part = λ pieces l enc s done low room.
          let p = wrote pieces l enc s done low room in
          absurd (omega (arith, p.1, ap length p.0, length-sets out at (file_part l kind)));
    }

    pub put_fits : PartPut blocks store nodes entries kind out at o (at + size)
    put_fits = record {
      part = λ pieces l enc s done low room. let p = wrote pieces l enc s done low room in (p.0, ap (λ (n : ℕ). at + n) p.1);
    }

pub ruleset placing = (put_past, put_over, put_fits)

-- ── the turns of `write_parts` ──

-- the parts of the first k kinds
abbrev parts_to : Ledger → (k : ℕ) → List ℕ
parts_to l k = flat_map (file_part l) (count_from 0 k)

parts_next : (l : Ledger) (k : ℕ) → parts_to l (k + 1) ≡ parts_to l k ++ file_part l k
unfolding count_from
parts_next l k =
    let start : 0 + k ≡ k = omega arith in
    let more : count_from 0 (k + 1) ≡ count_from 0 k ++ k ∷ [] = rw start at (count_from_append 0 k 1) in
    ap (flat_map (file_part l)) more ∙ flat_map_append (file_part l) (count_from 0 k) (k ∷ []) ∙ ap (λ (r : List ℕ). parts_to l k ++ r) (flat_map_one (file_part l) k)

parts_shorter : (l : Ledger) (m d : ℕ) → length (parts_to l m) ≤ length (parts_to l (m + d))
parts_shorter l m zero = let z : m + 0 ≡ m = omega arith in rw z (omega arith)
parts_shorter l m (suc d) =
    let z : m + suc d ≡ m + d + 1 = omega arith in
    rw z (omega (arith, parts_shorter l m d, ap length (parts_next l (m + d)), length-append (parts_to l (m + d)) (file_part l (m + d))))

pub record WrittenTo (blocks store nodes entries out : List ℕ) (k : ℕ) (o : List ℕ) (at : ℕ) : Type 0 where
  pub file : (pieces : List ℕ) (l : Ledger) → Encodes (tables pieces blocks store nodes entries) l → Sound l → finished l ≡ true
      → length (file_by l) ≤ length out → (o ≡ sets out 0 (flat_map (file_part l) (count_from 0 k))) × (at ≡ length (flat_map (file_part l) (count_from 0 k)))

module _ (blocks store nodes entries out : List ℕ) where
  pub write_start : WrittenTo blocks store nodes entries out 0 out 0
  unfolding count_from flat_map
  write_start = record { file = λ pieces l enc s done room. (refl, refl) }

  pub write_turn : (k kinds : ℕ) (o o' : List ℕ) (at next : ℕ) → WrittenTo blocks store nodes entries out k o at → k < kinds → kinds ≡ nodes_count → length o ≡ length out
      → PartPut blocks store nodes entries k o at o' next → WrittenTo blocks store nodes entries out (k + 1) o' next
  write_turn k kinds o o' at next w h five long p = record {
    file = λ pieces l enc s done room.
        let so_far = w.file pieces l enc s done room in
        let rest : k + 1 + (4 - k) ≡ 5 = omega arith in
        let fits : length (parts_to l (k + 1)) ≤ length (file_by l) = rw rest at (parts_shorter l (k + 1) (4 - k)) in
        let both : length (parts_to l (k + 1)) ≡ length (parts_to l k) + length (file_part l k) = ap length (parts_next l k) ∙ length-append (parts_to l k) (file_part l k) in
        let one = p.part pieces l enc s done (omega arith) (omega (arith, so_far.1)) in
        let zero_plus : 0 + length (parts_to l k) ≡ at = omega (arith, so_far.1) in (
          one.0 ∙ ap (λ (x : List ℕ). sets x at (file_part l k)) so_far.0 ∙ (rw zero_plus at (sym (sets-append out 0 (parts_to l k) (file_part l k)))) ∙ ap (sets out 0) (sym (parts_next l k)),
          one.1 ∙ omega (arith, so_far.1, both),
        );
  }

  pub write_end : (k kinds : ℕ) (o : List ℕ) (at : ℕ) → WrittenTo blocks store nodes entries out k o at → kinds ≡ nodes_count → k ≤ kinds → kinds ≤ k
      → AllWritten blocks store nodes entries out o
  write_end k kinds o at w five h g = let all : k ≡ nodes_count = omega arith in record { file = λ pieces l enc s done room. ((rw all at w).file pieces l enc s done room).0 }

pub ruleset laying = (write_start, write_turn, write_end, refl, arith)

-- ── the returns of `write_closed` ──

long_is : (o : Option ℕ) {e : Refusal} → Err e ≡ ok_or o ResultTooLong → (o ≡ None) × (e ≡ ResultTooLong)
long_is None q = (refl, cc)
long_is (Some x) q = absurd (cc)

module _ (blocks store nodes entries out : List ℕ) (r : Option ℕ) (p : r ≡ fitted (file_size blocks nodes entries) (length out)) where
  too_long : r ≡ None → WrittenClosed blocks store nodes entries out out (refused 16)
  too_long f = record {
    written = λ pieces. record {
      closed = λ l e s done.
          rw (write_16 e done (length out)
          (omega (arith, file_long blocks store nodes entries l (all_agree pieces blocks store nodes entries l e s done), long_told (file_size blocks nodes entries) (length out) r p f))) into_refused;
    };
  }

  pub closed_long : {e : Refusal} → Err e ≡ ok_or r ResultTooLong → WrittenClosed blocks store nodes entries out out (refused (number_of e))
  closed_long q =
      let (none, k) = long_is r q in
      rw k (too_long none)

  pub closed_fits : (size : ℕ) (out' : List ℕ) → r ≡ Some size → AllWritten blocks store nodes entries out out' → WrittenClosed blocks store nodes entries out out' (accepted size)
  closed_fits size out' f w = record {
    written = λ pieces. record {
      closed = λ l e s done.
          let told = fits_told (file_size blocks nodes entries) (length out) r size p f in
          let long : length (file_by l) ≡ file_size blocks nodes entries = file_long blocks store nodes entries l (all_agree pieces blocks store nodes entries l e s done) in
          rw (write_fits e done (length out) (omega (arith, told.1)))
          (record { answered = ap (λ (n : ℕ). accepted n) (told.0 ∙ sym long); left = w.file pieces l e s done (omega (arith, told.1)) });
    };
  }
