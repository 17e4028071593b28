-- The law of the ledger, for every list of calls: kept by finish, by each call, and so by all; and demand 3's clauses of a finished ledger.
-- Assumes nothing.
use mathlib.Core.Path.{◌≡◌, refl, sym, ◌∙◌, ap, subst}
use mathlib.Core.Logic.{inl, inr}
use mathlib.Core.Bool.{Bool, true, false, cond, true≢false, false≢true}
use mathlib.Core.Option.{Option, none, some}
use mathlib.Core.List.{List, [], ◌∷◌, map, append-nil, filter_map, Option-to_list}
use Prim.Native.Nat.{ℕ, ◌+◌, ◌-◌, ◌/◌, ◌%◌, ◌^◌, ◌≤◌, ◌<◌}
use native.Mathlib.Omega.{arith}
use lib.ListN.{length, length-append, length-map}
use Rattle.lists.specs.Lists.{All, all_nil, all_cons, Pairs, pairs_nil, pairs_cons, Mem, here, there}
use Rattle.lists.proofs.Numbers.{lt_or_le, eq_or_ne}
use Rattle.lists.proofs.Lists.{all_map, all_both, all_mem, mem_right, count_from_length, count_from_at}
use Rattle.lists.proofs.Maps.{length_of_map, get_d_of_map}
use Rattle.history.specs.Words.{Operation, Piece, Block, HoldsCell, all_kinds, line_of, cell_place, set_of, ends, block_of, byte_at}
use Rattle.history.specs.Tree.{Tree, hole, tree_of, trees_of, tree_at}
use Rattle.history.specs.Rules.{Apart}
use Rattle.history.specs.Ledger.{Opening, opening_for, Moment, Ledger, with_now, opened, finished, is_some, is_read, read_by, update_by, record_by, settled, finish_by, install_by, install_days_by}
use Rattle.history.specs.Reads.{seen}
use Rattle.history.specs.Results.{Result}
use Rattle.history.specs.Refusals.{Answer, accepted, refused, open_answer, record_answer, finish_answer, install_answer, days_answer}
use Rattle.history.specs.Calls.{Call, record_call, finish_call, answer_to, accepted_by, leaves, after, after_all, noted, history, value_at, calendar_call, days_call}
use Rattle.history.specs.Sound.{SoundStretch, SoundBlock, SoundBoard, SoundTree, SoundTrees, Sound, SoundForFinish}
use Rattle.history.proofs.ByKind.{line_next, told, told_value, place_split, cell_below, holds_cell, cell_holds, cell_low}
use Rattle.history.specs.Law.{CoversBy, LastCall, LedgerLaw, Faithful, ByKindAndCell, EveryList}
use Rattle.history.proofs.Passing.{opens, Taken, taken, room, finishes, Installs, installs, days_installs}
use Rattle.history.specs.Days.{days_of, days_taken}
use Rattle.history.proofs.Cells.{Shown, shown_read, shown-updated}
use Rattle.history.proofs.Steps.{opened_sound, read_sound, update_sound, new_blocks, settled_sound, shown-apart}
use Rattle.history.proofs.Reading.{seen-some, seen_holds}
use Rattle.history.proofs.Value.{value_law}
use Rattle.history.proofs.TreePlaced.{tree_of_rooted, tree_of-halved}
use Rattle.history.proofs.TreeSorted.{tree_of-rule23}

-- ── soundness, from call to call ──

still_none : (t : Option (List Tree)) → is_some t ≡ false → t ≡ none
still_none none e = refl
still_none (some t) e = absurd (true≢false e)

-- an open ledger whose board is sound is sound
open_sound : (l : Ledger) → finished l ≡ false → SoundBoard l → Sound l
open_sound l still b = record { board = b; closed = subst (λ (t : Option (List Tree)). SoundTrees l t) (sym (still_none l.trees still)) tt }

-- an accepted record leaves a sound ledger
pub record_sound : (l : Ledger) (scratch : ℕ) (o : Operation) {r : Result} → record_answer l scratch o ≡ accepted r → Sound l → Sound (record_by l o)
unfolding record_by
record_sound l scratch o e s = go (is_read l.now o) refl
  where
    k : Taken l o
    k = taken l scratch o e

    go : (r : Bool) → is_read l.now o ≡ r
        → Sound (with_now (cond r (read_by l.now o) (update_by l.now o)) l)
    go true q = open_sound _ k.still_open (read_sound l o s.board k.before_end k.not_back)
    go false q = open_sound _ k.still_open (update_sound l o s.board k.before_end k.not_back k.own_kind k.some_cell k.no_wrap (room l scratch o e q))

-- finish makes a tree for each kind
trees_five : (e : ℕ) (bs : List Block) → length (trees_of e bs) ≡ length all_kinds
unfolding trees_of
trees_five e bs = length_of_map (λ kind. tree_of kind e bs) all_kinds

pub trees_at : (e : ℕ) (bs : List Block) (kind : ℕ) → kind ≤ 4 → tree_at (trees_of e bs) kind ≡ tree_of kind e bs
unfolding trees_of
trees_at e bs kind low =
    get_d_of_map (λ kind. tree_of kind e bs) all_kinds kind 0 hole (rw (count_from_length 0 5) (omega arith))
    ∙ ap (λ (k : ℕ). tree_of k e bs) (count_from_at 0 5 kind (omega arith) ∙ omega arith)

-- that keeps rules 21 to 23
trees_sound : (kinds : List ℕ) (e : ℕ) (store : List ℕ) (bs : List Block) → 0 < e → e ≤ 2 ^ 63 → Apart bs → All (SoundBlock kinds e store) bs → (kind : ℕ) → kind ≤ 4
    → SoundTree e bs kind (tree_at (trees_of e bs) kind)
trees_sound kinds e store bs ticks z apart all kind low =
    rw (trees_at e bs kind low)
    (record {
      rooted = tree_of_rooted kind e bs;
      rule_21 = tree_of-halved kind e bs z;
      rule_23 =
          tree_of-rule23 kind e bs ticks z apart
          (all_map (λ x g. record { some_cell = g.stretch.some_cell; from_line = omega (arith, g.stretch.from_line) }) all)
          (all_map (λ x g. g.by_end) all);
    })

settled-length : (e : ℕ) (m : Moment) → length (settled e m) ≡ length m.blocks + length m.pieces
unfolding settled
settled-length e m = omega (arith, length-append m.blocks (map (block_of e) m.pieces), length-map m.pieces (block_of e))

-- without pieces the blocks are all
nothing_more : (e : ℕ) (m : Moment) → m.pieces ≡ [] → settled e m ≡ m.blocks
unfolding settled
nothing_more e m none_left = rw none_left (append-nil m.blocks)

finish_settled : (l : Ledger) → settled l.opening.end (finish_by l).now ≡ settled l.opening.end l.now
unfolding finish_by
finish_settled l = nothing_more l.opening.end (finish_by l).now refl

-- an accepted finish leaves a sound closed ledger
pub finish_sound : (l : Ledger) {r : Result} → finish_answer l ≡ accepted r → SoundForFinish l → SoundForFinish (finish_by l)
unfolding finish_by
finish_sound l e s =
    let k = finishes l e in
    let b = s.sound.board in
    let all = settled_sound l b in
    record {
      sound = record {
        board = record {
          some_tick = b.some_tick;
          end_most = b.end_most;
          known_kinds = b.known_kinds;
          last_below_end = b.last_below_end;
          pieces = all_nil;
          in_order = pairs_nil;
          blocks = all;
          pieces_fit = omega arith;
          blocks_fit = omega (arith, settled-length l.opening.end l.now, b.blocks_fit);
          store_fits = b.store_fits;
          calendar-taken = b.calendar-taken;
          days_taken_lem = b.days_taken_lem;
        };
        closed = record {
          no_pieces = refl;
          five = trees_five l.opening.end (settled l.opening.end l.now);
          each =
              trees_sound l.opening.kinds l.opening.end l.now.store (settled l.opening.end l.now)
              (omega (arith, b.some_tick)) b.end_most s.apart all;
          rule_24 = s.apart;
          nodes_fit = k.nodes;
          entries_fit = k.entries;
        };
      };
      apart = subst Apart (sym (finish_settled l)) s.apart;
    }

-- an accepted install changes the calendar alone, to one that it takes
install_board : (l : Ledger) (numbers : List ℕ) → Installs l numbers → SoundBoard l → SoundBoard (install_by l numbers)
unfolding install_by
install_board l numbers k b = record {
  some_tick = b.some_tick;
  end_most = b.end_most;
  known_kinds = b.known_kinds;
  last_below_end = b.last_below_end;
  pieces = b.pieces;
  in_order = b.in_order;
  blocks = b.blocks;
  pieces_fit = b.pieces_fit;
  blocks_fit = b.blocks_fit;
  store_fits = b.store_fits;
  calendar-taken = record { numbers = numbers; is = refl; taken = k.taken };
  days_taken_lem = b.days_taken_lem;
}

pub install_sound : (l : Ledger) (numbers : List ℕ) {r : Result} → install_answer l numbers ≡ accepted r → Sound l → Sound (install_by l numbers)
unfolding install_by
install_sound l numbers e s = let k = installs l numbers e in open_sound _ k.still_open (install_board l numbers k s.board)

-- An accepted list of days changes the list alone, to one that it takes, of an open ledger or a closed one.
days_board : (l : Ledger) (numbers : List ℕ) → days_taken (days_of numbers) ≡ true → SoundBoard l → SoundBoard (install_days_by l numbers)
unfolding install_days_by
days_board l numbers k b = record {
  some_tick = b.some_tick;
  end_most = b.end_most;
  known_kinds = b.known_kinds;
  last_below_end = b.last_below_end;
  pieces = b.pieces;
  in_order = b.in_order;
  blocks = b.blocks;
  pieces_fit = b.pieces_fit;
  blocks_fit = b.blocks_fit;
  store_fits = b.store_fits;
  calendar-taken = b.calendar-taken;
  days_taken_lem = k;
}

days_trees : (l : Ledger) (numbers : List ℕ) (trees : Option (List Tree)) → SoundTrees l trees → SoundTrees (install_days_by l numbers) trees
unfolding install_days_by
days_trees l numbers none s = tt
days_trees l numbers (some trees) s =
    record { no_pieces = s.no_pieces; five = s.five; each = s.each; rule_24 = s.rule_24; nodes_fit = s.nodes_fit; entries_fit = s.entries_fit }

pub days_sound : (l : Ledger) (numbers : List ℕ) {r : Result} → days_answer l numbers ≡ accepted r → Sound l → Sound (install_days_by l numbers)
unfolding install_days_by
days_sound l numbers e s = record { board = days_board l numbers (days_installs l numbers e) s.board; closed = days_trees l numbers l.trees s.closed }

-- ── the law, from call to call ──

abbrev NoWraps : List Operation → Type 0
NoWraps h = All (λ (o : Operation). o.first + length o.bytes ≤ 2 ^ 64 - 1) h

-- the law of cells, by places
law_shown : (l : Ledger) (h : List Operation) → LedgerLaw l h → Shown l.opening l.now h
law_shown l h law t p below =
    subst (λ (q : ℕ). seen t q (settled l.opening.end l.now) ≡ Option-to_list (told h t q)) (place_split p)
    (law.cells (p / 2 ^ 64) t (p % 2 ^ 64) below (cell_below p) ∙ ap Option-to_list (sym (told_value law.no_wraps (p / 2 ^ 64) t (p % 2 ^ 64) (cell_below p))))

-- what is known of an open ledger between calls
law_open : (l : Ledger) (h : List Operation) → finished l ≡ false → SoundBoard l → Shown l.opening l.now h → NoWraps h
    → All (λ (b : Block). b.destroyed ≤ l.now.last) l.now.blocks → LedgerLaw l h
law_open l h still b cells wraps by_Last = record {
  sound = record { sound = open_sound l still b; apart = shown-apart l.opening l.now h cells (settled_sound l b) };
  cells = λ kind t c p low. cells t (cell_place kind c) p ∙ ap Option-to_list (told_value wraps kind t c low);
  no_wraps = wraps;
  open_blocks = λ _. by_Last;
}

-- no block is destroyed after the tick of the call
read_last : (l : Ledger) (o : Operation) → All (λ (x : Block). x.destroyed ≤ l.now.last) l.now.blocks → l.now.last ≤ o.tick
    → All (λ (x : Block). x.destroyed ≤ (read_by l.now o).last) (read_by l.now o).blocks
unfolding read_by
read_last l o old later = all_map (λ b d. omega arith) old

update_last : (l : Ledger) (o : Operation) → SoundBoard l → All (λ (x : Block). x.destroyed ≤ l.now.last) l.now.blocks → o.tick < l.opening.end → l.now.last ≤ o.tick
    → All (λ (x : Block). x.destroyed ≤ (update_by l.now o).last) (update_by l.now o).blocks
unfolding update_by
update_last l o b old before later = new_blocks l o b before later (λ x. x.destroyed ≤ o.tick) (λ q g. omega arith) (all_map (λ x d. omega arith) old)

opened_cells : (a : Opening) → Shown (opened a).opening (opened a).now []
unfolding opened settled told seen Option-to_list filter_map
opened_cells a t c p = refl

finish_cells : (l : Ledger) (h : List Operation) → LedgerLaw l h → (kind t c : ℕ) → t < (finish_by l).opening.end → c < 2 ^ 64
    → seen t (cell_place kind c) (settled (finish_by l).opening.end (finish_by l).now) ≡ Option-to_list (value_at h kind t c)
unfolding finish_by
finish_cells l h law kind t c p low = subst (λ (bs : List Block). seen t (cell_place kind c) bs ≡ Option-to_list (value_at h kind t c)) (sym (finish_settled l)) (law.cells kind t c p low)

-- what open and finish leave
pub opened_opening : (a : Opening) → (opened a).opening ≡ opening_for a.end (set_of a.kinds) a.lent
unfolding opened
opened_opening a = refl

pub opened_open : (a : Opening) → finished (opened a) ≡ false
unfolding opened
opened_open a = refl

pub finish_done : (l : Ledger) → finished (finish_by l) ≡ true
unfolding finish_by
finish_done l = refl

finish_closed : (l : Ledger) → finished (finish_by l) ≡ false → true ≡ false
unfolding finish_by
finish_closed l e = e

law_record : (l : Ledger) (h : List Operation) (scratch : ℕ) (o : Operation) {r : Result} → record_answer l scratch o ≡ accepted r → LedgerLaw l h → LedgerLaw (record_by l o) (o ∷ h)
unfolding record_by
law_record l h scratch o e law = go (is_read l.now o) refl
  where
    k : Taken l o
    k = taken l scratch o e

    b : SoundBoard l
    b = law.sound.sound.board

    old : All (λ (x : Block). x.destroyed ≤ l.now.last) l.now.blocks
    old = law.open_blocks k.still_open

    go : (r : Bool) → is_read l.now o ≡ r
        → LedgerLaw (with_now (cond r (read_by l.now o) (update_by l.now o)) l) (o ∷ h)
    go true q =
        law_open _ (o ∷ h) k.still_open (read_sound l o b k.before_end k.not_back)
        (shown_read l.opening l.now h o old (all_map (λ p g. g.written_by_last) b.pieces) k.not_back q (law_shown l h law)) (all_cons k.no_wrap law.no_wraps)
        (read_last l o old k.not_back)
    go false q =
        law_open _ (o ∷ h) k.still_open (update_sound l o b k.before_end k.not_back k.own_kind k.some_cell k.no_wrap (room l scratch o e q))
        (shown-updated l.opening l.now h o old k.not_back (law_shown l h law)) (all_cons k.no_wrap law.no_wraps)
        (update_last l o b old k.before_end k.not_back)

law_finish : (l : Ledger) (h : List Operation) {r : Result} → finish_answer l ≡ accepted r → LedgerLaw l h → LedgerLaw (finish_by l) h
law_finish l h e law = record {
  sound = finish_sound l e law.sound;
  cells = finish_cells l h law;
  no_wraps = law.no_wraps;
  open_blocks = λ x. absurd (true≢false (finish_closed l x));
}

law_install : (l : Ledger) (h : List Operation) (numbers : List ℕ) {r : Result} → install_answer l numbers ≡ accepted r → LedgerLaw l h → LedgerLaw (install_by l numbers) h
unfolding install_by
law_install l h numbers e law = record {
  sound = record { sound = install_sound l numbers e law.sound.sound; apart = law.sound.apart };
  cells = law.cells;
  no_wraps = law.no_wraps;
  open_blocks = law.open_blocks;
}

law_days : (l : Ledger) (h : List Operation) (numbers : List ℕ) {r : Result} → days_answer l numbers ≡ accepted r → LedgerLaw l h → LedgerLaw (install_days_by l numbers) h
unfolding install_days_by
law_days l h numbers e law = record {
  sound = record { sound = days_sound l numbers e law.sound.sound; apart = law.sound.apart };
  cells = law.cells;
  no_wraps = law.no_wraps;
  open_blocks = law.open_blocks;
}

-- ── a call, and a list of calls ──

pub law_after : (l : Ledger) (h : List Operation) (k : Call) → LedgerLaw l h → LedgerLaw (after l k) (noted h k (answer_to l k))
unfolding after leaves noted answer_to accepted_by
law_after l h (record_call scratch o) law = go (record_answer l scratch o) refl
  where
    go : (x : Answer Result) → record_answer l scratch o ≡ x → LedgerLaw (leaves x l (record_by l o)) (noted h (record_call scratch o) x)
    go (accepted a) e = law_record l h scratch o e law
    go (refused n) e = law
law_after l h finish_call law = go (finish_answer l) refl
  where
    go : (x : Answer Result) → finish_answer l ≡ x → LedgerLaw (leaves x l (finish_by l)) h
    go (accepted a) e = law_finish l h e law
    go (refused n) e = law
law_after l h (calendar_call numbers) law = go (install_answer l numbers) refl
  where
    go : (x : Answer Result) → install_answer l numbers ≡ x → LedgerLaw (leaves x l (install_by l numbers)) h
    go (accepted a) e = law_install l h numbers e law
    go (refused n) e = law
law_after l h (days_call numbers) law = go (days_answer l numbers) refl
  where
    go : (x : Answer Result) → days_answer l numbers ≡ x → LedgerLaw (leaves x l (install_days_by l numbers)) h
    go (accepted a) e = law_days l h numbers e law
    go (refused n) e = law

law_all : (ks : List Call) (l : Ledger) (h : List Operation) → LedgerLaw l h → LedgerLaw (after_all l ks) (history h l ks)
unfolding after_all history
law_all [] l h law = law
law_all (k ∷ ks) l h law = law_all ks (after l k) (noted h k (answer_to l k)) (law_after l h k law)

-- no call changes what opening was fed
pub opening_kept : (ks : List Call) (l : Ledger) → (after_all l ks).opening ≡ l.opening
unfolding after_all after leaves accepted_by record_by finish_by install_by install_days_by
opening_kept [] l = refl
opening_kept (k ∷ ks) l = opening_kept ks (after l k) ∙ one k (answer_to l k)
  where
    one : (k : Call) (x : Answer Result) → (leaves x l (accepted_by l k)).opening ≡ l.opening
    one (record_call scratch o) (accepted a) = refl
    one (record_call scratch o) (refused n) = refl
    one finish_call (accepted a) = refl
    one finish_call (refused n) = refl
    one (calendar_call numbers) (accepted a) = refl
    one (calendar_call numbers) (refused n) = refl
    one (days_call numbers) (accepted a) = refl
    one (days_call numbers) (refused n) = refl

-- THE LAW: it holds after every list of calls on an index that opening takes.
pub the_law : (a : Opening) → open_answer a ≡ accepted tt → (ks : List Call) → LedgerLaw (after_all (opened a) ks) (history [] (opened a) ks)
unfolding opened
the_law a e ks = law_all ks (opened a) [] (law_open (opened a) [] refl (opened_sound a (opens a e)) (opened_cells a) all_nil all_nil)

-- ── demand 3's clauses ──

-- a byte among none or one is that one
mem_one : (x : Option ℕ) (b : ℕ) → Mem b (Option-to_list x) → x ≡ some b
unfolding Option-to_list
mem_one (some a) b (there x6) = elim x6 [ ]
mem_one none b x'' = elim x'' [ ]
mem_one (some a) b (here e) = ap {B = Option ℕ} some (sym e)

-- the last call is one of the history
last_mem : (h : List Operation) (kind t c b : ℕ) (k : LastCall h kind t c b) → Mem k.call h
last_mem h kind t c b k = subst (λ (x : List Operation). Mem k.call x) (sym k.is) (mem_right k.newer (k.call ∷ k.older) (here refl))

-- what holds of all and of all pairs
pairs_both : {A : Type 0} {P : A → Type 0} {R S : A → A → Type 0} {xs : List A} → ((x y : A) → P x → P y → R x y → S x y) → All P xs → Pairs R xs → Pairs S xs
pairs_both f all_nil pairs_nil = pairs_nil
pairs_both f (all_cons {x} p ps) (pairs_cons a r) = pairs_cons (all_both (λ y q h. f x y p q h) ps a) (pairs_both f ps r)

module _ (kinds : List ℕ) (end : ℕ) (store : List ℕ) (blocks : List Block) (h : List Operation) (sound : All (SoundBlock kinds end store) blocks) (wraps : NoWraps h)
    (cells : (kind t c : ℕ) → t < end → c < 2 ^ 64 → seen t (cell_place kind c) blocks ≡ Option-to_list (value_at h kind t c)) where
  -- the byte of a live block that holds the cell is the cell's value
  held_value : (kind t c : ℕ) → t < end → (b : Block) → Mem b blocks → HoldsCell kind t c b
      → (x : ℕ) × (byte_at (cell_place kind c) b.stretch ≡ some x) × (value_at h kind t c ≡ some x)
  held_value kind t c p b m k =
      let own = (all_mem sound m).stretch in
      let r = seen_holds t (cell_place kind c) b blocks m (cell_holds store b own kind t c k) in
      (r.0, r.1, mem_one (value_at h kind t c) r.0 (subst (λ (xs : List ℕ). Mem r.0 xs) (cells kind t c p (cell_low store b own kind t c k)) r.2))

  is_held : (kind t c : ℕ) → t < end → (b : Block) → Mem b blocks → HoldsCell kind t c b → (o : Operation) × Mem o h × CoversBy kind t c o
  is_held kind t c p b m k =
      let v = held_value kind t c p b m k in
      let last = value_law.some_then h kind t c v.0 v.2 in
      (last.call, last_mem h kind t c v.0 last, last.covered)

  is_kept : (kind t c : ℕ) → t < end → (o : Operation) → Mem o h → CoversBy kind t c o → (b : Block) × Mem b blocks × HoldsCell kind t c b
  unfolding Option-to_list
  is_kept kind t c p o m k = go (value_at h kind t c) refl
    where
      low : c < 2 ^ 64
      low = omega (arith, all_mem wraps m, k.covers.has.below)

      go : (x : Option ℕ) → value_at h kind t c ≡ x → (b : Block) × Mem b blocks × HoldsCell kind t c b
      go none e = absurd (all_mem (value_law.none_then h kind t c e) m k)
      go (some x) e =
          let r = seen-some t (cell_place kind c) x blocks (cells kind t c p low ∙ ap Option-to_list e) in
          (r.0, r.1, holds_cell store r.0 (all_mem sound r.1).stretch kind t c low r.2)

  pub faithful : Apart blocks → Faithful end blocks h
  faithful apart = record {
    held = is_held;
    kept = is_kept;
    byte = λ kind t c p b m k. let v = held_value kind t c p b m k in v.1 ∙ sym v.2;
    apart =
        pairs_both (λ x y g k f kind t c p q. f t (cell_place kind c) (cell_holds store x g.stretch kind t c p) (cell_holds store y k.stretch kind t c q)) sound apart;
  }

-- ── by kind code, then by cell ──

-- pieces that ascend by place ascend by kind code, then by cell
places_order : (e : ℕ) (store : List ℕ) (p q : Piece) → SoundStretch p.kind store p.stretch → SoundStretch q.kind store q.stretch → ends p.stretch ≤ q.stretch.first
    → ByKindAndCell (block_of e p) (block_of e q)
places_order e store p q g k h =
    elim (lt_or_le p.kind q.kind) [
      | inl a ↦ inl a
      | inr a ↦ elim (eq_or_ne p.kind q.kind) [
        | inl s ↦ (let same = ap line_of s in inr (s, omega (arith, g.from_line, k.from_line)))
        | inr n ↦ absurd (omega (arith, line_next q.kind p.kind (omega arith), g.from_line, g.some_cell, k.no_wrap, k.some_cell))
      ]
    ]

-- For every opening that is taken and every list of calls.
pub every_list : (a : Opening) → open_answer a ≡ accepted tt → (ks : List Call) → EveryList a ks
every_list a e ks = record { order = ordered; law = the_law a e ks; faithful = done }
  where
    l : Ledger
    l = after_all (opened a) ks

    h : List Operation
    h = history [] (opened a) ks

    same_end : l.opening.end ≡ a.end
    same_end = ap (λ (x : Opening). x.end) (opening_kept ks (opened a) ∙ opened_opening a)

    ordered : Pairs (λ (p q : Piece). ByKindAndCell (block_of a.end p) (block_of a.end q)) l.now.pieces
    ordered =
        let board = (the_law a e ks).sound.sound.board in
        pairs_both (λ p q g k h. places_order a.end l.now.store p q g.stretch k.stretch h) board.pieces board.in_order

    no_pieces : (t : Option (List Tree)) → is_some t ≡ true → SoundTrees l t → l.now.pieces ≡ []
    no_pieces none x s = absurd (false≢true x)
    no_pieces (some t) x s = s.no_pieces

    done : finished l ≡ true → Faithful a.end l.now.blocks h
    done x =
        let law = the_law a e ks in
        let all : settled l.opening.end l.now ≡ l.now.blocks = nothing_more l.opening.end l.now (no_pieces l.trees x law.sound.sound.closed) in
        subst (λ (end : ℕ). Faithful end l.now.blocks h) same_end
        (faithful l.opening.kinds l.opening.end l.now.store l.now.blocks h law.sound.sound.board.blocks law.no_wraps
        (λ kind t c p low. subst (λ (bs : List Block). seen t (cell_place kind c) bs ≡ Option-to_list (value_at h kind t c)) all (law.cells kind t c p low))
        (subst Apart all law.sound.apart))
