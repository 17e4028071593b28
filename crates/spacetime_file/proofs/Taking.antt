-- What the loader takes and what it refuses; a loaded index writes the bytes read. Assumes nothing.
use mathlib.Core.Path.{◌≡◌, refl, sym, ap, ◌∙◌, subst}
use mathlib.Core.Bool.{Bool, true, false, cond}
use mathlib.Core.List.{List}
use Prim.Native.Nat.{ℕ, ◌-◌, ◌≤◌}
use native.Mathlib.Omega.{arith}
use lib.Dec.{ltb}
use lib.ListN.{length, take, drop, length-take, length-drop, length-replicate}
use lib.Seq.{sets}
use Rattle.history.specs.Lent.{Lent, piece_head}
use Rattle.history.specs.Ledger.{Ledger}
use Rattle.history.specs.Refusals.{Answer, accepted}
use Rattle.history.specs.Sound.{Sound}
use Rattle.history.specs.File.{File, Read, got, fault, Loaded, load, loaded_from, loaded_ledger, file_bytes, file_by}
use Rattle.history.proofs.FileYields.{Yielded, spans_fits}
use Rattle.history.proofs.FileRoundTrip.{FileFits, gives_file}
use Rattle.history.proofs.FileLoad.{Accepted, LoadedOf, load-taken, load_accepted, loaded_written, read_inside}
use Rattle.history.proofs.FileSound.{loaded_sound, loaded_file}
use Rattle.layout.specs.Tables.{Tables, lengths_of}
use Rattle.layout.specs.Encodes.{Encodes}
use Rattle.layout.specs.Files.{LoadedTables, LoadLeaves, LoadedBy, position_of, after_fault, zeroed_tables}
use Rattle.layout.proofs.Lengths.{heads_fit}
use Rattle.spacetime_file.specs.Law.{IsFile, ClosedIn, LoadedAndWritten, RulesHold, TakenAndNotRefused}
use Rattle.spacetime_file.proofs.Closed.{file_written, file_refused}
use Rattle.spacetime_file.proofs.Numbering.{accepted_refused, accepted_same}
use Rattle.spacetime_file.proofs.Saving.{loaded_encodes}

-- ── an accepted load ──

-- what an accepted load gave, and what it left
record Took (file : List ℕ) (at next : ℕ) (t t' : Tables) : Type 0 where
  index : Loaded
  is : load (lengths_of t) file at ≡ got index next
  left : LoadedTables index t t'

took : {file : List ℕ} {at next : ℕ} {t t' : Tables} → LoadedBy file at t t' (accepted next) → Took file at next t t'
unfolding position_of
took {file} {at} {next} {t} {t'} d = go (load (lengths_of t) file at) refl d.answered d.left
  where
    go : (r : Read Loaded) → load (lengths_of t) file at ≡ r → accepted next ≡ position_of r → LoadLeaves r t t' → Took file at next t t'
    go (got x m) q e left = record { index = x; is = q ∙ ap (got x) (sym (accepted_same e)); left = left }
    go (fault n) q e left = absurd (accepted_refused e)

module _ {file : List ℕ} {at next : ℕ} {t t' : Tables} (small : IsFile file) (head : piece_head ≤ length t.pieces) (k : Took file at next t t') where
  abbrev ledger : Ledger
  ledger = loaded_ledger (lengths_of t') k.index

  stands : Encodes t' ledger
  stands = loaded_encodes k.index head k.left

  sound : Sound ledger
  sound = subst (λ (n : Lent). Sound (loaded_ledger n k.index)) (sym k.left.lengths) (loaded_sound (lengths_of t) file small at k.index next k.is)

-- ── loaded and written ──

-- what is loaded is of a known kind
kind_low : (n : Lent) (file : List ℕ) → IsFile file → (at : ℕ) (x : Loaded) (next : ℕ) → load n file at ≡ got x next → x.kind ≤ 4
kind_low n file small at x next e =
    let z : LoadedOf n file at x next = load_accepted n file at x next e in
    let begun = read_inside file at z.said next z.read in
    let y : Yielded file (λ g w. FileFits g × (w ≡ file_bytes g)) at z.said next = (gives_file file small).yields at z.said next begun z.read in
    rw z.same y.says.0.kindly

-- the bytes read are in the file
read_many : (n : Lent) (file : List ℕ) → IsFile file → (at : ℕ) (x : Loaded) (next : ℕ) → load n file at ≡ got x next → length (take (next - at) (drop at file)) ≡ next - at
read_many n file small at x next e =
    let z : LoadedOf n file at x next = load_accepted n file at x next e in
    let begun = read_inside file at z.said next z.read in
    let y : Yielded file (λ g w. FileFits g × (w ≡ file_bytes g)) at z.said next = (gives_file file small).yields at z.said next begun z.read in
    omega (arith, length-take (next - at) (drop at file), length-drop at file, spans_fits y.spans, begun)

pub loaded_and_written : LoadedAndWritten
loaded_and_written file at next t t' small head d out out' wrote w =
    let k = took d in
    let c : ClosedIn t' (ledger small head k) = record { encodes = stands small head k; sound = sound small head k; closed = refl } in
    let bytes : file_by (ledger small head k) ≡ take (next - at) (drop at file) =
    loaded_file (lengths_of t') k.index (kind_low (lengths_of t) file small at k.index next k.is) ∙ loaded_written (lengths_of t) file small at k.index next k.is in
    let many : length (file_by (ledger small head k)) ≡ next - at = ap length bytes ∙ read_many (lengths_of t) file small at k.index next k.is in
    record {
      held = λ h. let f = file_written c w (omega arith) in (f.0 ∙ ap {B = Answer ℕ} accepted many, f.1 ∙ ap (λ (x : List ℕ). sets out 0 x) bytes);
      no_room = λ h. file_refused c w (omega arith);
    }

-- ── what the loader takes ──

rules_accept : (n : Lent) (f : File) → RulesHold n f → Accepted n f
rules_accept n f h = record { room = h.rule_20; halves = h.rule_21; blocks = h.rule_22; entries = h.rule_23; disjoint = h.rule_24 }

accept_rules : (n : Lent) (f : File) → Accepted n f → RulesHold n f
accept_rules n f h = record { rule_20 = h.room; rule_21 = h.halves; rule_22 = h.blocks; rule_23 = h.entries; rule_24 = h.disjoint }

-- load changes no length
pieces_kept : (r : Read Loaded) (t t' : Tables) → LoadLeaves r t t' → length t'.pieces ≡ length t.pieces
unfolding after_fault
pieces_kept (got x next) t t' d = ap length d.pieces ∙ length-replicate (length t.pieces) 0
pieces_kept (fault n) t t' e = ap (λ (u : Tables). length u.pieces) e ∙ go (ltb 20 n)
  where
    go : (z : Bool) → length (cond z (zeroed_tables t) t).pieces ≡ length t.pieces
    go true = length-replicate (length t.pieces) 0
    go false = refl

pub taken_and_not_refused : TakenAndNotRefused
unfolding position_of
taken_and_not_refused file at t t' answer small d = record {
  taken = λ next e.
      let k = took (subst (λ (a : Answer ℕ). LoadedBy file at t t' a) e d) in
      let z = load_accepted (lengths_of t) file at k.index next k.is in
      (z.said, z.read, accept_rules (lengths_of t) z.said z.rules);
  not_refused = λ f next read rules. d.answered ∙ ap position_of (load-taken (lengths_of t) file at f next read (rules_accept (lengths_of t) f rules));
  stands = λ f next read rules.
      let left : LoadedTables (loaded_from f) t t' =
      subst (λ (r : Read Loaded). LoadLeaves r t t') (load-taken (lengths_of t) file at f next read (rules_accept (lengths_of t) f rules)) d.left in
      left.stands;
  formed = λ next e head.
      let k = took (subst (λ (a : Answer ℕ). LoadedBy file at t t' a) e d) in
      record { ledger = ledger small head k; encodes = stands small head k; sound = sound small head k };
  too_short = λ short w.
      let heads = heads_fit (lengths_of t') w.encodes.heads in
      omega (arith, heads.pieces, pieces_kept (load (lengths_of t) file at) t t' d.left);
}
