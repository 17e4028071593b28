-- The loop of `record_all`: what is played from a position on completes what was played before it. Assumes nothing.
use mathlib.Core.Path.{◌≡◌, refl, sym, subst}
use mathlib.Core.List.{List, [], ◌∷◌, ◌++◌, append-nil, append_assoc}
use Prim.Native.Nat.{ℕ, suc, ◌+◌, ◌-◌, ◌*◌, ◌/◌, ◌^◌, ◌≤◌, ◌<◌}
use native.Mathlib.Omega.{arith}
use lib.ListN.{length, take, drop}
use lib.Seq.{sets}
use Rattle.history.specs.Results.{Result}
use Rattle.history.specs.Refusals.{Answer}
use Rattle.layout.specs.Tables.{Tables, tables}
use Rattle.refusals.specs.declared.Refusal.{Refusal}
use Rattle.refusals.specs.Numbers.{number_of, answer_by}
use Rattle.index_record.specs.Calls.{operation, recorded}
use Rattle.index_test.specs.Board.{Outcome}
use Rattle.index_test.specs.declared.State.{State}
use Rattle.index_tested.specs.Kept.{Kept}
use Rattle.index_tested.proofs.Keeping.{test_keeps}
use Rattle.call_lists.specs.Operations.{ReadAs, ItemRead}
use Rattle.call_lists.specs.declared.Item.{Item}
use Rattle.std.specs.Prelude.{Option, Some, None, Ok, Err}
use Rattle.std.specs.Prelude.{Result as Told}
use Rattle.call_lists.proofs.Threes.{Shown, shown-none, shown-length, shown_more}
use Rattle.record_all.specs.Many.{shown_of, AnswerPut, Plays, plays_full, plays_end, plays_more, RecordedAll, RecordedOne}

-- ── one answer ──

module _ {answers answers' : List ℕ} {at : ℕ} {r : Told (Option ℕ) Refusal} where
  pub answer_read : {o : Option ℕ} → r ≡ Ok o → o ≡ None → answers' ≡ sets answers at (0 ∷ 0 ∷ 0 ∷ []) → AnswerPut r answers at answers'
  answer_read e f p = rw (e, f) (record { is = p })

  pub answer_update : {cell : ℕ} {o : Option ℕ} → r ≡ Ok o → o ≡ Some cell → answers' ≡ sets answers at (0 ∷ 1 ∷ cell ∷ []) → AnswerPut r answers at answers'
  answer_update e f p = rw (e, f) (record { is = p })

  pub answer_refused : {x : Refusal} {n : ℕ} → r ≡ Err x → n ≡ number_of x → answers' ≡ sets answers at (n ∷ 0 ∷ 0 ∷ []) → AnswerPut r answers at answers'
  answer_refused e m p = rw e (record { is = rw m at p })

-- ── between turns ──

-- `count` operations have been played up to a position, and whatever is played from there on completes them
pub record Turning (s : State) (scratch kind : ℕ) (list : List ℕ) (t₀ t : Tables) (answers₀ answers : List ℕ) (most count at : ℕ) : Type 0 where
  pub given : List (Answer Result)
  pub kept : Kept s t
  pub shown : Shown shown_of given answers₀ answers count
  pub places : most ≡ length answers₀ / 3
  pub few : length answers₀ < 2 ^ 64
  pub left : ℕ
  pub room : count + left ≡ most
  pub whole : (more : List (Answer Result)) (next : ℕ) (t' : Tables) → Plays scratch kind list left at t more next t' → Plays scratch kind list (length answers₀ / 3) 0 t₀ (given ++ more) next t'

pub turn_first : {s : State} {scratch kind most : ℕ} {list answers : List ℕ} {t : Tables} → Outcome s t → length answers < 2 ^ 64 → most ≡ length answers / 3
    → Turning s scratch kind list t t answers answers most 0 0
turn_first {s} {most = most} {answers} {t} told few e = record {
  given = [];
  kept = test_keeps s t told;
  shown = shown-none;
  places = e;
  few = few;
  left = length answers / 3;
  room = omega (arith, e);
  whole = λ more next t' p. p;
}

pub turn_start : {s : State} {scratch kind : ℕ} {list answers : List ℕ} {t : Tables} → Outcome s t → length answers < 2 ^ 64
    → Turning s scratch kind list t t answers answers (length answers / 3) 0 0
turn_start told few = turn_first told few refl

module _ {s : State} {scratch kind : ℕ} {list : List ℕ} {t₀ t : Tables} {answers₀ answers : List ℕ} {most count at : ℕ}
    (turn : Turning s scratch kind list t₀ t answers₀ answers most count at) where
  ended : Plays scratch kind list turn.left at t [] at t → RecordedAll scratch kind list t₀ t answers₀ answers count at
  ended p = record {
    given = turn.given;
    calls = subst (λ (g : List (Answer Result)). Plays scratch kind list (length answers₀ / 3) 0 t₀ g at t) (append-nil turn.given) (turn.whole [] at t p);
    shown = turn.shown.put;
    counted = turn.shown.counted;
  }

  -- there is a place for one answer more
  pub turn_room : count < most → 3 * count + 3 ≤ length answers
  turn_room h = omega (arith, shown-length turn.shown, turn.places)

  pub turn_count : count < most → count + 1 < 2 ^ 64
  turn_count h = omega (arith, turn.places, turn.few)

  -- no place is left
  pub turn_full : most ≤ count → RecordedAll scratch kind list t₀ t answers₀ answers most at
  turn_full h =
      let all : most ≡ count = omega (arith, turn.room) in
      let none : turn.left ≡ 0 = omega (arith, turn.room) in
      rw all (ended (subst (λ (n : ℕ). Plays scratch kind list n at t [] at t) (sym none) plays_full))

  -- no whole operation is left
  pub turn_end : ItemRead list at None → RecordedAll scratch kind list t₀ t answers₀ answers count at
  turn_end i = ended (plays_end i.says.1)

-- what an operation of the list is good for
module _ {list : List ℕ} {at : ℕ} {r : Item} (i : ItemRead list at (Some r)) where
  item_says : ReadAs (Some r) list at
  item_says = i.says

  pub item_forward : r.start ≤ r.next
  item_forward = item_says.1

  pub item_inside : r.next ≤ length list
  item_inside = item_says.2

module _ {s : State} {scratch kind : ℕ} {list : List ℕ} {t₀ : Tables} {pieces blocks store nodes entries answers₀ answers : List ℕ} {most count at : ℕ}
    (turn : Turning s scratch kind list t₀ (tables pieces blocks store nodes entries) answers₀ answers most count at)
    {r : Item} (i : ItemRead list at (Some r)) (more : count < most) where
  -- one operation more
  pub turn_on : {pieces' blocks' store' answers' : List ℕ}
      → RecordedOne s pieces blocks store pieces' blocks' store' scratch (operation kind r.tick r.first (take (r.next - r.start) (drop r.start list))) answers (3 * count) answers'
      → Turning s scratch kind list t₀ (tables pieces' blocks' store' nodes entries) answers₀ answers' most (count + 1) r.next
  turn_on {pieces'} {blocks'} {store'} {answers'} d =
      let a = answer_by recorded d.answer in
      let t₁ = tables pieces' blocks' store' nodes entries in
      let one = d.tested.done nodes entries turn.kept in
      let one_left : turn.left ≡ suc (turn.left - 1) = omega (arith, turn.room) in
      record {
        given = turn.given ++ a ∷ [];
        kept = one.1;
        shown = shown_more turn.shown a d.put.is;
        places = turn.places;
        few = turn.few;
        left = turn.left - 1;
        room = omega (arith, turn.room);
        whole = λ others after t' p.
            subst (λ (g : List (Answer Result)). Plays scratch kind list (length answers₀ / 3) 0 t₀ g after t') (sym (append_assoc turn.given (a ∷ []) others))
            (turn.whole (a ∷ others) after t'
            (subst (λ (n : ℕ). Plays scratch kind list n at (tables pieces blocks store nodes entries) (a ∷ others) after t') (sym one_left)
            (plays_more (item_says i).0 one.0 p)));
      }
