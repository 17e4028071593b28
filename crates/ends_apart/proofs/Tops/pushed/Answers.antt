-- the kind's top rises to the end
use Rattle.ends_apart.proofs.Topping.{pushed_done}
use Rattle.ends_apart.proofs.Tops.pushed.Goals as goal

pub returns : goal.returns
returns c = pushed_done c.top_of.ensures c.max.ensures c.raised.ensures
