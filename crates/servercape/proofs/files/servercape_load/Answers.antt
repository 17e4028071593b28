-- `servercape::files::servercape_load` meets its contract: taken or refused. Assumes nothing.
use Rattle.servercape.proofs.Answering.{handed_0, handed_n, by_number}
use Rattle.servercape.proofs.files.servercape_load.Goals as goal

pub returns-in-Ok : goal.returns-in-Ok
returns-in-Ok c = by_number (λ n. n) c.deserialize.result c.deserialize.ensures (handed_0 c.in-Ok.is)

pub returns-in-Err : goal.returns-in-Err
returns-in-Err c = by_number (λ n. n) c.deserialize.result c.deserialize.ensures (handed_n c.in-Err.is c.from.ensures)
