-- The returns of `block_closed`: over a closed index they are the ledger's block. Assumes nothing.
use mathlib.Core.Path.{◌≡◌, refl, ap, ◌∙◌, subst}
use mathlib.Core.List.{List}
use Prim.Native.Nat.{ℕ, suc, ◌+◌, ◌≤◌, ◌<◌}
use native.Mathlib.Omega.{arith}
use native.Mathlib.Numerals.{add-one}
use lib.ListN.{length, get_or}
use Rattle.history.specs.Words.{Block, cell_place, cell_of}
use Rattle.history.specs.Tree.{no_block}
use Rattle.history.specs.Reads.{block_by}
use Rattle.history.specs.Refusals.{Answer, accepted, refused}
use Rattle.tables.specs.Columns.{block_column, head_count}
use Rattle.block_table.specs.Blocks.{block_of_row, length_at, created_at, destroyed_at, offset_at, owner_at, first_cell_at}
use Rattle.block_table.proofs.Blocks.{blocks_at, bytes_length}
use Rattle.layout.specs.Tables.{Tables, tables, head_at}
use Rattle.layout.specs.Relations.{Fields, fields_at, BlockHanded}
use Rattle.layout.proofs.Pieces.{used_fits}
use Rattle.layout.proofs.ReadLaws.{block_there, block_15, block_refused, closed_refuses}
use Rattle.index_read.specs.Reads.{BlockClosed}

-- ── block by number ──

pub block_none : {blocks : List ℕ} {count k : ℕ} → count ≡ block_column blocks 0 head_count → count ≤ k → BlockClosed blocks k (refused 15)
block_none {blocks} {count} {k} e h =
    record { given = λ pieces store nodes entries. closed_refuses (λ l enc done. block_15 enc done k (omega (arith, enc.count))) block_refused }

-- the fields of a row
abbrev fields_of : (blocks : List ℕ) (link : ℕ) → Fields
fields_of blocks link =
    record {
      kind = owner_at blocks link;
      first = first_cell_at blocks link;
      length = length_at blocks link;
      created = created_at blocks link;
      destroyed = destroyed_at blocks link;
      offset = offset_at blocks link;
    }

-- they are those of its block, if its bytes are in the store
row_fields : (store blocks : List ℕ) (link : ℕ) → offset_at blocks link + length_at blocks link ≤ length store
    → fields_of blocks link ≡ fields_at (offset_at blocks link) (block_of_row store blocks link)
unfolding block_of_row
row_fields store blocks link h =
    let cell : cell_of (owner_at blocks link) (cell_place (owner_at blocks link) (first_cell_at blocks link)) ≡ first_cell_at blocks link = omega arith in
    rw (cell, bytes_length store blocks link h)

row_handed : (t : Tables) (k : ℕ) → offset_at t.blocks (suc k) + length_at t.blocks (suc k) ≤ length t.store
    → BlockHanded t k (accepted (fields_of t.blocks (suc k))) (accepted (block_of_row t.store t.blocks (suc k)))
unfolding block_of_row
row_handed t k h = record {
  answered = ap {B = Answer Fields} accepted (row_fields t.store t.blocks (suc k) h);
  bytes_there = refl;
  whole = λ f e. subst (λ (x : Fields). x.offset + x.length ≤ length t.store) (inner e) h;
}
  where
    inner : {f g : Fields} → ◌≡◌ {A = Answer Fields} (accepted f) (accepted g) → f ≡ g
    inner p = cc

row_given : (blocks : List ℕ) (k : ℕ) → k < block_column blocks 0 head_count → BlockClosed blocks k (accepted (fields_of blocks (suc k)))
row_given blocks k h = record {
  given = λ pieces store nodes entries. record {
    closed = λ l enc s done.
        let t = tables pieces blocks store nodes entries in
        let fits : offset_at blocks (suc k) + length_at blocks (suc k) ≤ length store =
        omega (arith, enc.blocks_stored.inside (suc k) (omega arith) (omega arith), used_fits t l enc) in
        let is : block_by l k ≡ block_of_row store blocks (suc k) =
        ap (λ (bs : List Block). get_or bs k no_block) enc.blocks ∙ blocks_at store blocks (head_at t head_count) k no_block h in
        rw (block_there enc done k (omega (arith, enc.count)), is) (row_handed t k fits);
  };
}

pub block_some : {blocks : List ℕ} {count k link kind first length' created destroyed offset : ℕ} → count ≡ block_column blocks 0 head_count → k < count → link ≡ k + 1
    → kind ≡ owner_at blocks link → first ≡ first_cell_at blocks link → length' ≡ length_at blocks link → created ≡ created_at blocks link
    → destroyed ≡ destroyed_at blocks link → offset ≡ offset_at blocks link
    → BlockClosed blocks k (accepted (record { kind = kind; first = first; length = length'; created = created; destroyed = destroyed; offset = offset }))
block_some {blocks} {count} {k} {link} e h at a b c d x o =
    let row : link ≡ suc k = at ∙ add-one k in
    rw (a, b, c, d, x, o, row) (row_given blocks k (omega arith))

pub ruleset giving = (block_none, block_some, arith)
