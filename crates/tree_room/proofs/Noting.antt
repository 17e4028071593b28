-- The ticks of an open index are those of the accepted calls: a piece was written by one, a block created by one and destroyed by another, all of its kind.
-- Assumes nothing.
use mathlib.Core.Path.{◌≡◌, refl, subst}
use mathlib.Core.Logic.{inl, inr}
use mathlib.Core.Bool.{Bool, true, false, cond}
use mathlib.Core.List.{List, [], ◌∷◌}
use Prim.Native.Nat.{ℕ, ◌+◌, ◌-◌, ◌^◌, ◌≤◌}
use native.Mathlib.Omega.{arith}
use lib.ListN.{length}
use Rattle.lists.specs.Lists.{All, all_nil, Mem, here, there}
use Rattle.lists.proofs.Lists.{all_append, all_map, all_both, all_of_map}
use Rattle.lists.proofs.Numbers.{lt_or_le, eq_or_ne}
use Rattle.history.specs.Words.{Operation, Piece, Block, ends, stretch_of, block_of}
use Rattle.history.specs.Ledger.{Opening, Moment, Ledger, opened, finished, is_read, read_by, update_by, record_by}
use Rattle.history.specs.Results.{Result}
use Rattle.history.specs.Refusals.{accepted, open_answer, record_answer}
use Rattle.history.specs.Calls.{Call, after_all, history}
use Rattle.history.specs.Sound.{SoundStretch, SoundPiece}
use Rattle.history.specs.Law.{LedgerLaw}
use Rattle.history.proofs.ByKind.{line_next}
use Rattle.history.proofs.Parts.{PartOf, all_inside, all_updated}
use Rattle.history.proofs.Passing.{taken}
use Rattle.history.proofs.Reaching.{KeptByCalls, every_board}

-- the tick of one of the calls of the kind
pub record Called (h : List Operation) (kind tick : ℕ) : Type 0 where
  pub call : Operation
  pub member : Mem call h
  pub same_kind : call.kind ≡ kind
  pub when : call.tick ≡ tick

pub record Bounded (h : List Operation) (b : Block) : Type 0 where
  pub created : Called h b.kind b.created
  pub destroyed : Called h b.kind b.destroyed

pub record Noted (m : Moment) (h : List Operation) : Type 0 where
  pub pieces : All (λ (p : Piece). Called h p.kind p.written) m.pieces
  pub blocks : All (Bounded h) m.blocks

-- one call more
called_more : (o : Operation) {h : List Operation} {kind t : ℕ} → Called h kind t → Called (o ∷ h) kind t
called_more o c = record { call = c.call; member = there c.member; same_kind = c.same_kind; when = c.when }

bounded_more : (o : Operation) (h : List Operation) (b : Block) → Bounded h b → Bounded (o ∷ h) b
bounded_more o h b x = record { created = called_more o x.created; destroyed = called_more o x.destroyed }

noted_read : (m : Moment) (h : List Operation) (o : Operation) → Noted m h → Noted (read_by m o) (o ∷ h)
unfolding read_by
noted_read m h o n = record { pieces = all_map (λ p x. called_more o x) n.pieces; blocks = all_map (bounded_more o h) n.blocks }

-- a piece of which a part lies among an operation's cells is of its kind
part_kind : (store : List ℕ) (o : Operation) (p q : Piece) → SoundStretch p.kind store p.stretch → o.first + length o.bytes ≤ 2 ^ 64 - 1
    → PartOf (stretch_of o).first (ends (stretch_of o)) p q → o.kind ≡ p.kind
unfolding stretch_of
part_kind store o p q s wrap part =
    elim (eq_or_ne o.kind p.kind) [
      | inl e ↦ e
      | inr n ↦ elim (lt_or_le p.kind o.kind) [
        | inl below ↦ absurd (omega (arith, line_next p.kind o.kind below, s.no_wrap, part.to_end, part.from_low, part.some_cell))
        | inr above ↦ absurd (omega (arith, line_next o.kind p.kind (omega arith), s.from_line, part.from_first, part.to_high, part.some_cell))
      ]
    ]

noted_update : (kinds : List ℕ) (m : Moment) (h : List Operation) (o : Operation) → All (SoundPiece kinds m) m.pieces → o.first + length o.bytes ≤ 2 ^ 64 - 1 → Noted m h
    → Noted (update_by m o) (o ∷ h)
unfolding update_by
noted_update kinds m h o sound wrap n = record {
  pieces = all_updated o m.pieces Written (λ p. Called (o ∷ h) p.kind p.written) (λ from to p q x w. rw (x.same_tick, x.same_kind) (called_more o w))
      (record { call = o; member = here refl; same_kind = refl; when = refl }) n.pieces;
  blocks = all_append (all_map (bounded_more o h) n.blocks) (all_of_map (block_of o.tick)
      (all_inside Both (λ q. Bounded (o ∷ h) (block_of o.tick q)) (stretch_of o).first (ends (stretch_of o)) m.pieces
      (λ p q x w. record {
        created = rw (x.same_tick, x.same_kind) (called_more o w.0);
        destroyed = rw x.same_kind (record { call = o; member = here refl; same_kind = part_kind m.store o p q w.1.stretch wrap x; when = refl });
      }) (all_both (λ p w g. (w, g)) n.pieces sound)));
}
  where
    Written : Piece → Type 0
    Written p = Called h p.kind p.written

    Both : Piece → Type 0
    Both p = Called h p.kind p.written × SoundPiece kinds m p

-- ── every list of calls ──

noted_record : (l : Ledger) (h : List Operation) (scratch : ℕ) (o : Operation) {r : Result} → record_answer l scratch o ≡ accepted r → LedgerLaw l h → Noted l.now h
    → Noted (record_by l o).now (o ∷ h)
unfolding record_by
noted_record l h scratch o e law n = go (is_read l.now o)
  where
    go : (r : Bool) → Noted (cond r (read_by l.now o) (update_by l.now o)) (o ∷ h)
    go true = noted_read l.now h o n
    go false = noted_update l.opening.kinds l.now h o law.sound.sound.board.pieces (taken l scratch o e).no_wrap n

-- while the index is open
abbrev NotedOpen : (closed : Bool) → Opening → Moment → List Operation → Type 0
NotedOpen false a m h = Noted m h
NotedOpen true a m h = Unit {0}

noted_kept : KeptByCalls NotedOpen
unfolding opened
noted_kept = record { opens = λ a e. record { pieces = all_nil; blocks = all_nil }; records = λ l h scratch o e law n. noted_record l h scratch o e law n; finishes = λ l h e law n. tt }

pub noted_ticks : (a : Opening) → open_answer a ≡ accepted tt → (ks : List Call) → finished (after_all (opened a) ks) ≡ false → Noted (after_all (opened a) ks).now (history [] (opened a) ks)
noted_ticks a opens ks still =
    let l = after_all (opened a) ks in
    subst (λ (b : Bool). NotedOpen b l.opening l.now (history [] (opened a) ks)) still (every_board NotedOpen noted_kept a opens ks)
