-- `parts::maxima` meets its contract. Assumes nothing.
use mathlib.Core.Path.{refl}
use Rattle.meaning.specs.Graph.{most_operations, most_classes, most_controls, most_arcs}
use Rattle.parts.proofs.maxima.Goals as goal

pub returns : goal.returns
unfolding most_operations most_classes most_controls most_arcs
returns c = record { operations = refl; classes = refl; controls = refl; arcs = refl }
