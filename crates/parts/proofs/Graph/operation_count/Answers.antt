-- `parts::Graph::operation_count` meets its contract. Assumes nothing.
use native.Mathlib.Omega.{arith}
use mathlib.Core.Path.{refl}
use Rattle.meaning.specs.Graph.{operation_count, operation_bytes}
use Rattle.parts.proofs.Graph.operation_count.Goals as goal

pub nonzero_div-result : goal.nonzero_div-result
unfolding operation_bytes
nonzero_div-result c = omega (arith, c.operation_bytes.ensures)

pub returns : goal.returns
unfolding operation_count operation_bytes
returns c = rw c.operation_bytes.ensures refl
