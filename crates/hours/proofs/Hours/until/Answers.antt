-- `hours::Hours::until`: the first window that covers the minute.
use Prim.Native.Nat.{◌-◌}
use mathlib.Core.Path.{◌≡◌, refl}
use mathlib.Core.Bool.{true}
use borrow.Author.Rules.{rules}
use borrow.Author.Tests.{tests}
use Rattle.std.proofs.lemmas.Iterator.{first_from_find, YieldsList-from_map_by, YieldsList-from_range}
use Rattle.history.specs.Hours.{window_at, covers}
use Rattle.hours.specs.Reach.{the_window}
use Rattle.hours.proofs.Opening.{Spares, until_told}
use Rattle.hours.proofs.Hours.until.Goals as goal

pub returns : goal.returns
returns c =
    until_told c.args.self.now.calendar.now c.args.self.now.at c.args.minute c.min-count.result (search rules) c.find.result c.map-2.result _
    (first_from_find _ _ _ (λ w. covers c.args.minute w ≡ true) (Spares c.args.minute) c.find.ensures.ran
    (YieldsList-from_map_by _ the_window (window_at c.args.self.now.calendar.now c.args.self.now.at) (YieldsList-from_range 0 c.min-count.result (c.min-count.result - 0) (search rules) refl) refl (λ x r q k. search (rules, tests)))
    (λ x q k. search (rules, tests)) (λ x q k. (search rules, search (rules, tests))))
    c.map-2.ensures.cases
    (λ w y g. search rules)
