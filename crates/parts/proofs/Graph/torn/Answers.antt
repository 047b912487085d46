-- `parts::Graph::torn` meets its contract. Assumes nothing.
use native.Mathlib.Omega.{arith}
use mathlib.Core.Path.{refl}
use Rattle.meaning.specs.Graph.{operation_bytes, arc_bytes}
use Rattle.meaning.specs.Writer.{torn}
use Rattle.parts.proofs.Graph.torn.Goals as goal

pub nonzero_rem-result : goal.nonzero_rem-result
unfolding operation_bytes
nonzero_rem-result c = omega (arith, c.operation_bytes.ensures)

pub returns : goal.returns
unfolding torn arc_bytes
returns c = rw c.operation_bytes.ensures refl
