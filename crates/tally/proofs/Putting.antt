-- The text of a line, put part after part. Assumes nothing.
use Rattle.std.proofs.Common.{List, [], ◌∷◌, ℕ}
use Rattle.board_text.specs.declared.Output.{Output}
use Rattle.board_text.specs.Wrote.{Wrote}
use Rattle.board_text.proofs.Lines.{wrote_append}
use Rattle.history.specs.Printed.{decimal, newline}
use Rattle.tally.specs.declared.Tally.{Tally}
use Rattle.tally.specs.Lines.{count_text, compared_text, differ_text, tally_line}

pub count_put : {line mid after : Output} (count : ℕ) {words : List ℕ} → Wrote line (decimal count []) mid → Wrote mid words after
    → Wrote line (count_text count words) after
unfolding count_text
count_put count a b = wrote_append a b

pub line_put : {line l₁ l₂ l₃ after : Output} (tally : Tally) (words : List ℕ) → Wrote line (count_text tally.compared compared_text) l₁
    → Wrote l₁ (count_text tally.differ differ_text) l₂ → Wrote l₂ (count_text tally.refused words) l₃ → Wrote l₃ (newline ∷ []) after
    → Wrote line (tally_line tally words) after
unfolding tally_line
line_put tally words a b c d = wrote_append a (wrote_append b (wrote_append c d))
