-- `hours::special_hours`: the first special day of this number.
use mathlib.Core.Path.{◌≡◌}
use borrow.Author.Rules.{rules}
use borrow.Author.Tests.{tests}
use Rattle.std.proofs.lemmas.Iterator.{first_from_Range}
use Rattle.history.specs.Hours.{special_at}
use Rattle.hours.proofs.Opening.{special_told}
use Rattle.hours.proofs.special_hours.Goals as goal

pub returns : goal.returns
returns c =
    special_told c.args.calendar.now c.args.day _ (search rules) c.find.result c.map.result _
    (first_from_Range _ _ _ _ (λ k. (special_at c.args.calendar.now k).day ≡ c.args.day) (λ k. (special_at c.args.calendar.now k).day ≡ c.args.day → ⊥) c.find.ensures.ran
    (λ x q k. search (rules, tests)) (λ x q k. (search rules, search (rules, tests))))
    c.map.ensures.cases
    (λ k y g. search rules)
