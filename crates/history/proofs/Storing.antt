-- Bytes in the store: a part of what is stored is stored, and what is stored stays so when the store grows. Assumes nothing.
use mathlib.Core.Path.{sym, ◌∙◌, ap}
use mathlib.Core.List.{List, ◌++◌}
use Prim.Native.Nat.{ℕ, ◌+◌, ◌-◌}
use native.Mathlib.Omega.{arith}
use lib.ListN.{length, take, drop, length-append}
use lib.Seq.{drop-append_seam, take-length}
use Rattle.lists.proofs.Parts.{part-part, part-append}
use Rattle.history.specs.Words.{Stretch, Operation, Piece, size, stretch_of}
use Rattle.history.specs.Sound.{Stored}
use Rattle.history.proofs.Parts.{PartOf}

-- ── stored stretches ──

-- a part of a piece is stored where the piece is
pub stored_part : (store : List ℕ) (from to : ℕ) (p q : Piece) → PartOf from to p q → Stored store p.stretch → Stored store q.stretch
stored_part store from to p q x s =
    let d = q.stretch.first - p.stretch.first in
    record {
      offset = s.offset + d;
      inside = omega (arith, x.from_first, x.to_end, s.inside);
      bytes =
          x.same_bytes
          ∙ ap (λ (r : List ℕ). take (size q.stretch) (drop d r)) s.bytes
          ∙ part-part s.offset (size p.stretch) d (size q.stretch) store (omega (arith, x.from_first, x.to_end));
    }

-- and stays so when bytes are appended
pub stored_append : (store more : List ℕ) (s : Stretch) → Stored store s → Stored (store ++ more) s
stored_append store more s x =
    record {
      offset = x.offset;
      inside = omega (arith, x.inside, length-append store more);
      bytes = x.bytes ∙ sym (part-append x.offset (size s) store more x.inside);
    }

-- the operation's own bytes are stored where they enter
pub stored_new : (store : List ℕ) (o : Operation) → Stored (store ++ o.bytes) (stretch_of o)
unfolding stretch_of
stored_new store o =
    record {
      offset = length store;
      inside = omega (arith, length-append store o.bytes);
      bytes = sym (ap (λ (r : List ℕ). take (length o.bytes) r) (drop-append_seam store o.bytes) ∙ take-length o.bytes);
    }
