-- One read after another: where a read has left its reader the next one goes on. Assumes nothing.
use mathlib.Core.Path.{◌≡◌, refl, ap}
use Prim.Native.Nat.{ℕ}
use Rattle.history.specs.File.{Read, got, fault, onward, ◌>>=◌}
use Rattle.history.specs.File.{Reader as Reading}
use Rattle.fields.specs.Fields.{Moves}
use Rattle.fields.specs.declared.Reader.{Reader}

module _ {A : Type 0} {reading : Reading A} {answer : ℕ → Read A} {before after : Reader} (m : Moves reading answer before after) where
  -- the file is the same
  pub same_bytes : after.file.now ≡ before.file.now
  same_bytes = ap (λ file. file.now) m.same_file

  module _ {C : Type 0} (k : A → Reading C) where
    -- with what was given the reading goes on from there
    pub goes_on : {x : A} {y : Read C} → answer after.at ≡ got x after.at → y ≡ k x after.file.now after.at → y ≡ (reading >>= k) before.file.now before.at
    unfolding ◌>>=◌ onward
    goes_on {x} {y} a e = rw (← m.is, a, ← same_bytes) e

    -- where nothing was given it ends
    pub ends : {n : ℕ} → answer after.at ≡ fault n → fault n ≡ (reading >>= k) before.file.now before.at
    unfolding ◌>>=◌ onward
    ends a = rw (← m.is, a) refl
