-- The returns of `byte` and `number`. Assumes nothing.
use mathlib.Core.Path.{◌≡◌, ◌∙◌, ap}
use mathlib.Core.List.{List}
use Prim.Native.Nat.{ℕ}
use lib.ListN.{length}
use lib.Seq.{sets, length-sets}
use Rattle.lists.specs.Puts.{behind, Put}
use Rattle.history.specs.File.{bytes_of}
use Rattle.history.proofs.FileNumbers.{bytes_of-length}

pub put_field : {out out' : List ℕ} {at next : ℕ} (width value : ℕ) → out' ≡ sets out at (bytes_of width value) → next ≡ behind (length out') at width
    → Put out at (bytes_of width value) out' next
put_field {out} {out'} {at} {next} width value e f =
    let same : length out' ≡ length out = ap length e ∙ length-sets out at (bytes_of width value) in
    record { stands = e; ends = rw (bytes_of-length width value, ← same) f }
