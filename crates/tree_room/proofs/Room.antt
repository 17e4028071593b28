-- The law of room: the bounds by ticks and by blocks, and finish. Assumes nothing.
use mathlib.Core.Path.{◌≡◌, refl, ap, ◌∙◌, subst}
use mathlib.Core.Logic.{inl, inr}
use mathlib.Core.Bool.{true, false}
use mathlib.Core.List.{List, [], ◌∷◌, map}
use Prim.Native.Nat.{ℕ, ◌+◌, ◌-◌, ◌*◌, ◌^◌, ◌≤◌, ◌<◌}
use native.Mathlib.Nat.{mul-zero, mul-add, mul-le-mul_right}
use native.Mathlib.Omega.{arith}
use lib.ListN.{length, length-append, length-map}
use borrow.Author.Tests.{le-ltb}
use Rattle.lists.specs.Lists.{All, all_nil, all_cons, Mem, here, there, has, sum_of}
use Rattle.lists.proofs.Numbers.{bool_cases}
use Rattle.lists.proofs.Lists.{all_map, all_both, all_mem}
use Rattle.lists.proofs.Maps.{map-map}
use Rattle.lists.proofs.Counting.{has_decides}
use Rattle.history.specs.Words.{Operation, Block, all_kinds, those_with, set_of, line_of, block_of}
use Rattle.history.specs.Lent.{block_rows, node_rows, entry_rows}
use Rattle.history.specs.Tree.{insert, add_location, add_all, tree_of, trees_of, node_count, nodes_in, entries_all}
use Rattle.history.specs.Ledger.{Opening, Ledger, opened, settled}
use Rattle.history.specs.Results.{done}
use Rattle.history.specs.Refusals.{accepted, first_of, max_end_tick, finish_refusals, finish_answer}
use Rattle.history.specs.Calls.{Call, after_all, history}
use Rattle.history.specs.Sound.{SoundBoard}
use Rattle.history.specs.Law.{LedgerLaw}
use Rattle.history.proofs.Steps.{all_settled}
use Rattle.history.proofs.EveryList.{the_law, opening_kept}
use Rattle.tree_room.specs.Room.{nodes_for, entries_for, TicksAmong, TreeFits, Awaits, nodes_of_kinds, LawOfRoom}
use Rattle.tree_room.proofs.Entries.{tree_entries, trees_entries_lem}
use Rattle.tree_room.proofs.Nodes.{tree_nodes, tree_none}
use Rattle.tree_room.proofs.Noting.{Called, Noted, noted_ticks}

-- ── by blocks ──

-- the two ticks of each block
unfoldable ticks_of : List Block → List ℕ
ticks_of [] = []
ticks_of (b ∷ bs) = b.created ∷ b.destroyed ∷ ticks_of bs

ticks_length : (bs : List Block) → length (ticks_of bs) ≡ 2 * length bs
unfolding ticks_of
ticks_length [] = omega arith
ticks_length (b ∷ bs) = omega (arith, ticks_length bs)

ticks_among : (e : ℕ) (bs : List Block) → All (λ (b : Block). b.created < e) bs → All (TicksAmong e (ticks_of bs)) bs
unfolding ticks_of
ticks_among e [] all_nil = all_nil
ticks_among e (b ∷ bs) (all_cons h hs) =
    all_cons (record { in-time = h; created = λ _. here refl; destroyed = λ _. there (here refl) })
    (all_map (λ x t. record { in-time = t.in-time; created = λ c. there (there (t.created c)); destroyed = λ d. there (there (t.destroyed d)) }) (ticks_among e bs hs))

tree_fits : (n kind e : ℕ) (bs : List Block) → e ≤ max_end_tick → e ≤ 2 ^ n → TreeFits n kind e bs
tree_fits n kind e bs top w = record {
  nodes = λ ts among. tree_nodes ts n kind e bs top w among;
  nodes_by_blocks = λ h. rw (← ticks_length bs) (tree_nodes (ticks_of bs) n kind e bs top w (all_map (λ b x own. x) (ticks_among e bs h)));
  entries = tree_entries n e w kind bs;
}

-- ── all kinds ──

-- a number for each of the kinds ks, which is 0 where the kind does not stand in a list, and at most another where it does
sum-most : (f g : ℕ → ℕ) (kinds : List ℕ) → ((k : ℕ) → has k kinds ≡ true → f k ≤ g k) → ((k : ℕ) → has k kinds ≡ false → f k ≡ 0) → (ks : List ℕ)
    → sum_of (map f ks) ≤ sum_of (map g (those_with kinds ks))
unfolding those_with sum_of
sum-most f g kinds among other [] = omega arith
sum-most f g kinds among other (k ∷ ks) =
    elim (bool_cases (has k kinds)) [
      | inl e ↦ rw e (omega (arith, among k e, sum-most f g kinds among other ks))
      | inr e ↦ rw e (omega (arith, other k e, sum-most f g kinds among other ks))
    ]

-- a root for each, and nodes for the ticks of all
sum_trees : (n : ℕ) (ticks : ℕ → List ℕ) (ks : List ℕ)
    → sum_of (map (λ kind. nodes_for n 1 (length (ticks kind))) ks) ≡ nodes_for n (length ks) (sum_of (map (λ kind. length (ticks kind)) ks))
unfolding sum_of
sum_trees n ticks [] = let none : n * (2 * 0) ≡ 0 = mul-zero n in omega arith
sum_trees n ticks (k ∷ ks) =
    let own = length (ticks k) in
    let rest = sum_of (map (λ kind. length (ticks kind)) ks) in
    let two : 2 * (own + rest) ≡ 2 * own + 2 * rest = omega arith in
    let split : n * (2 * (own + rest)) ≡ n * (2 * own) + n * (2 * rest) = ap (λ (x : ℕ). n * x) two ∙ mul-add n (2 * own) (2 * rest) in
    omega (arith, sum_trees n ticks ks)

-- ── finish ──

module _ (n : ℕ) (kinds : List ℕ) (ticks : ℕ → List ℕ) (a : Opening) (ks : List Call) (w : Awaits n kinds ticks a ks) where
  abbrev l : Ledger
  l = after_all (opened a) ks

  abbrev h : List Operation
  h = history [] (opened a) ks

  abbrev e : ℕ
  e = l.opening.end

  abbrev bs : List Block
  bs = settled l.opening.end l.now

  law : LedgerLaw l h
  law = the_law a w.opens ks

  board : SoundBoard l
  board = law.sound.sound.board

  same_end : l.opening.end ≡ a.end
  unfolding opened
  same_end = ap (λ (x : Opening). x.end) (opening_kept ks (opened a))

  same_lent : l.opening.lent ≡ a.lent
  unfolding opened
  same_lent = ap (λ (x : Opening). x.lent) (opening_kept ks (opened a))

  -- the kinds and ticks of the calls are among those given
  known : {kind t : ℕ} → Called h kind t → Mem kind kinds × Mem t (ticks kind)
  known c = let z = all_mem w.recorded c.member in (rw c.same_kind at z.0, rw (c.same_kind, c.when) at z.1)

  -- no block is created after the last accepted tick, and that is below E
  created_in_time : All (λ (b : Block). b.created < l.opening.end) l.now.blocks
  created_in_time =
      all_both (λ b s d. omega (arith, s.forward, d, board.last_below_end)) board.blocks (law.open_blocks w.still_open)

  -- of each block its kind and its ticks
  among : All (λ (b : Block). Mem b.kind kinds × TicksAmong e (ticks b.kind) b) bs
  among =
      all_settled e l.now (λ (b : Block). Mem b.kind kinds × TicksAmong e (ticks b.kind) b)
      (all_both (λ b x t. ((known x.created).0, record { in-time = t; created = λ _. (known x.created).1; destroyed = λ _. (known x.destroyed).1 })) noted.blocks created_in_time)
      (all_both (λ p x s.
      ((known x).0, record { in-time = omega (arith, s.written_by_last, board.last_below_end); created = λ _. (known x).1; destroyed = λ d. absurd (omega (arith, d)) }))
      noted.pieces board.pieces)
    where
      noted : Noted l.now h
      noted = noted_ticks a w.opens ks w.still_open

  settled_few : length bs ≤ block_rows l.opening.lent
  unfolding settled
  settled_few =
      omega (
        arith,
        length-append l.now.blocks (map (block_of l.opening.end) l.now.pieces),
        length-map l.now.pieces (block_of l.opening.end),
        board.blocks_fit,
      )

  halved : e ≤ 2 ^ n
  halved = rw same_end w.halved

  -- the tree of a kind
  own_nodes : (kind : ℕ) → node_count (tree_of kind e bs) ≤ nodes_for n 1 (length (ticks kind))
  own_nodes kind = tree_nodes (ticks kind) n kind e bs board.end_most halved (all_map (λ b x own. subst (λ (k : ℕ). TicksAmong e (ticks k) b) own x.1) among)

  -- a kind that is not among those given has none
  no_nodes : (kind : ℕ) → has kind kinds ≡ false → node_count (tree_of kind e bs) ≡ 0
  no_nodes kind out = tree_none kind e bs (all_map (λ b x own. (has_decides kind kinds).not out (rw own at x.0)) among)

  trees_nodes : nodes_in (trees_of e bs) ≤ nodes_of_kinds n kinds ticks
  unfolding trees_of
  trees_nodes =
      rw (map-map node_count (λ kind. tree_of kind e bs) all_kinds)
      (omega (
        arith,
        sum-most (λ kind. node_count (tree_of kind e bs)) (λ kind. nodes_for n 1 (length (ticks kind))) kinds (λ kind _. own_nodes kind) no_nodes all_kinds,
        sum_trees n ticks (set_of kinds),
      ))

  nodes_fit : nodes_of_kinds n kinds ticks ≤ node_rows a.lent → nodes_in (trees_of e bs) ≤ node_rows l.opening.lent
  nodes_fit many = rw same_lent (omega (arith, many, trees_nodes))

  entries_fit : entries_for n (block_rows a.lent) ≤ entry_rows a.lent → entries_all (trees_of e bs) ≤ entry_rows l.opening.lent
  entries_fit many =
      let few = rw same_lent at settled_few in
      rw same_lent (omega (arith, many, trees_entries_lem n e halved bs (all_map (λ b x. x.1.in-time) among), mul-le-mul_right (1 + 2 * (n - 1)) few))

  pub finish_taken : nodes_of_kinds n kinds ticks ≤ node_rows a.lent → entries_for n (block_rows a.lent) ≤ entry_rows a.lent → finish_answer l ≡ accepted done
  unfolding finish_refusals first_of
  finish_taken x y =
      let heads = rw (← same_lent) at w.heads in
      rw (heads, w.still_open, le-ltb _ _ (nodes_fit x), le-ltb _ _ (entries_fit y))

pub law_of_room : LawOfRoom
unfolding tree_of add_all add_location insert node_count line_of
law_of_room = record { tree = tree_fits; reached = refl; finish = finish_taken }
