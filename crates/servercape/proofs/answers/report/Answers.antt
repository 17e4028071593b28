use Rattle.servercape.proofs.Answering.{handing}
use Rattle.servercape.proofs.answers.report.Goals as goal

pub returns-in-Ok : goal.returns-in-Ok
returns-in-Ok c = search handing

pub returns-in-Err : goal.returns-in-Err
returns-in-Err c = search handing
