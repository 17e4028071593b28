-- `board_lines::blocks::list_one` meets its contract: each arm is a step of `listing_one`. Assumes nothing.
use Rattle.board_lines.proofs.Listing.{listing_one}
use Rattle.board_lines.proofs.blocks.list_one.Goals as goal

pub returns-in-Err : goal.returns-in-Err
returns-in-Err c = search listing_one

pub returns-in-Ok : goal.returns-in-Ok
returns-in-Ok c = search listing_one
