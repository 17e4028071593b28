-- What is put into an output. Definitions alone.
use Rattle.std.specs.Prelude.{◌≡◌, List, ℕ}
use Rattle.lists.specs.Puts.{Put}
use Rattle.board_text.specs.declared.Output.{Output}

-- A text put behind what was put before; the buffer is still the lent one.
pub record Wrote (old : Output) (text : List ℕ) (new : Output) : Type 0 where
  pub same_loan : new.buffer.ghost_name ≡ old.buffer.ghost_name
  pub put : Put old.buffer.now old.at text new.buffer.now new.at
