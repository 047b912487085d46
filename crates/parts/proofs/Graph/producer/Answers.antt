-- `parts::Graph::producer` meets its contract. Assumes nothing.
use Rattle.meaning.specs.Graph.{producer}
use Rattle.parts.proofs.Graph.producer.Goals as goal

pub returns : goal.returns
unfolding producer
returns c = c.byte.ensures.right
