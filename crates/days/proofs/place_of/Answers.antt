-- `days::place_of`: at the start nothing is walked.
use borrow.Author.Rules.{rules}
use Rattle.days.proofs.Places.{walks_start}
use Rattle.days.proofs.place_of.Goals as goal

pub loop-k-init : goal.loop-k-init
loop-k-init c = walks_start c.args.list.now c.args.minute c.requires (search rules)
