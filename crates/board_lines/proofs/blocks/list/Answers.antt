use Rattle.std.proofs.Common.{rules}
use Rattle.board_lines.proofs.Listing.{listing_none, listing-on, listing_all}
use Rattle.board_lines.proofs.blocks.list.Goals as goal

pub loop-number-init : goal.loop-number-init
loop-number-init c = listing_none _ _ _

pub loop-number-preserved : goal.loop-number-preserved
loop-number-preserved c = search (rules, listing-on)

pub returns : goal.returns
returns c = search (rules, listing_all)
