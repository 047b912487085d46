-- `parts::operation_bytes` meets its contract. Assumes nothing.
use mathlib.Core.Path.{refl}
use Rattle.meaning.specs.Graph.{operation_bytes}
use Rattle.parts.proofs.operation_bytes.Goals as goal

pub returns : goal.returns
unfolding operation_bytes
returns c = refl
