-- `parts::Graph::counts` meets its contract. Assumes nothing.
use mathlib.Core.Path.{refl}
use Rattle.meaning.specs.Graph.{class_count, control_count}
use Rattle.parts.proofs.Graph.counts.Goals as goal

pub returns : goal.returns
unfolding class_count control_count
returns c =
    record { operations = c.operation_count.ensures; classes = refl; controls = refl; arcs = c.arc_count.ensures }
