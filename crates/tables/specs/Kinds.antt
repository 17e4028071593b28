-- The code of each kind. Definitions alone.
use Rattle.std.specs.Prelude.{◌≡◌, ℕ, ◌<◌, ◌≤◌, Result, MatchResult}
use Rattle.tables.specs.declared.kind.Kind.{Kind}
use Rattle.tables.specs.declared.kind.Kind.TheVariants.{Constant, Memory, Register, Unique, Other}
use Rattle.tables.specs.declared.kind.NoKind.{NoKind}

abbrev pub code_of : Kind → ℕ
code_of Constant = 0
code_of Memory = 1
code_of Register = 2
code_of Unique = 3
code_of Other = 4

-- the kind of a code; none above 4
abbrev pub Decodes : ℕ → Result Kind NoKind → Type 0
Decodes code r = MatchResult r (λ kind. (code_of kind ≡ code) × (code ≤ 4)) (λ _. 4 < code)
