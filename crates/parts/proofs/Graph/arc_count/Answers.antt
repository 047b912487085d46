-- `parts::Graph::arc_count` meets its contract. Assumes nothing.
use mathlib.Core.Path.{refl}
use Rattle.meaning.specs.Graph.{arc_count, arc_bytes}
use Rattle.parts.proofs.Graph.arc_count.Goals as goal

pub returns : goal.returns
unfolding arc_count arc_bytes
returns c = refl
