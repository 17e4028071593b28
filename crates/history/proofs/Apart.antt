-- Where no cell shows more than one byte, no two blocks share a cell at a tick. Assumes nothing.
use mathlib.Core.Path.{◌≡◌, ◌∙◌, ap}
use mathlib.Core.List.{List, [], ◌∷◌, Option-to_list}
use Prim.Native.Nat.{ℕ, ◌+◌, ◌≤◌, ◌<◌}
use native.Mathlib.Omega.{arith}
use lib.ListN.{length, length-append}
use Rattle.history.specs.Words.{Holds, Block}
use Rattle.history.specs.Reads.{shows, seen}
use Rattle.lists.specs.Lists.{All, all_nil, all_cons, pairs_nil, pairs_cons}
use Rattle.history.specs.Rules.{Apart}
use Rattle.history.proofs.Seen.{seen_cons, holds_shows}

-- how many bytes a cell shows
count : ℕ → ℕ → List Block → ℕ
count t c bs = length (seen t c bs)

count_cons : (t c : ℕ) (b : Block) (bs : List Block) → count t c (b ∷ bs) ≡ length (Option-to_list (shows t c b)) + count t c bs
unfolding count
count_cons t c b bs = ap length (seen_cons t c b bs) ∙ length-append (Option-to_list (shows t c b)) (seen t c bs)

-- a block that holds a cell shows a byte
holds_one : (t c : ℕ) (b : Block) → Holds t c b → length (Option-to_list (shows t c b)) ≡ 1
unfolding Option-to_list
holds_one t c b h = rw (holds_shows t c b h)

-- a block in whose cells the others show nothing
alone : (b : Block) (bs : List Block) → ((t c : ℕ) → Holds t c b → count t c bs ≤ 0) → All (λ (x : Block). (t c : ℕ) → Holds t c b → Holds t c x → ⊥) bs
alone b [] h = all_nil
alone b (x ∷ xs) h =
    all_cons
    (λ t c p (q : Holds t c x). omega (arith, h t c p, count_cons t c x xs, holds_one t c x q))
    (alone b xs (λ t c p. omega (arith, h t c p, count_cons t c x xs)))

pub apart : (E : ℕ) {bs : List Block} → All (λ (b : Block). b.destroyed ≤ E) bs → ((t c : ℕ) → t < E → length (seen t c bs) ≤ 1) → Apart bs
unfolding count
apart E all_nil h = pairs_nil
apart E (all_cons {x = b} {xs = bs} d ds) h =
    pairs_cons
    (alone b bs (λ t c p. omega (arith, h t c (omega (arith, p.alive)), count_cons t c b bs, holds_one t c b p)))
    (apart E ds (λ t c p. omega (arith, h t c p, count_cons t c b bs)))
