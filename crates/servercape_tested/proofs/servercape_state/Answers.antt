-- `servercape_tested::servercape_state` meets its contract: the number of the state that the test found. Assumes nothing.
use Rattle.servercape_tested.proofs.Numbering.{state_told}
use Rattle.servercape_tested.proofs.servercape_state.Goals as goal

pub returns : goal.returns
returns c = state_told c.test.result c.test.ensures c.from.ensures
