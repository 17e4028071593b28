-- `calendar_table::numbers`: all behind the flag.
use Rattle.std.proofs.Common.{rules}
use Rattle.calendar_table.proofs.Calendars.{numbers_some}
use Rattle.calendar_table.proofs.numbers.Goals as goal

pub returns-in-Some : goal.returns-in-Some
returns-in-Some c = numbers_some c.args.blocks.now c.in-Some.numbers.now (search rules)
