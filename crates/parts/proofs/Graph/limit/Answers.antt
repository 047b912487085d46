-- `parts::Graph::limit` meets its contract. Assumes nothing.
use mathlib.Core.Path.{refl, sym}
use Rattle.meaning.specs.Graph.{limit, byte_at}
use Rattle.numbers.proofs.ByteLaws.{byte_past}
use Rattle.parts.proofs.Graph.limit.Goals as goal

pub returns-then-k-self : goal.returns-then-k-self
unfolding limit byte_at
returns-then-k-self c = refl

pub returns-else-k-self : goal.returns-else-k-self
unfolding limit
returns-else-k-self c = sym (byte_past _ _ c.if-k-self.false)
