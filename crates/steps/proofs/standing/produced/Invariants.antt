-- `steps::standing::produced` meets its contract. The loop's invariant: the controls before b are gathered. Assumes nothing.
use mathlib.Core.Path.{◌≡◌}
use mathlib.Core.Bool.{◌&&◌}
use lib.Dec.{ltb}
use Rattle.machine.specs.Sets.{has, mask_below}
use Rattle.meaning.specs.Graph.{producer}
use Rattle.parts.specs.Fields.{graph_in}
use Rattle.steps.proofs.standing.produced.Given as goal

abbrev pub invariant-loop-b : goal.invariant-loop-b
invariant-loop-b l = l.found ≡ mask_below 32 (λ i. ltb i l.b && has l.set (producer (graph_in l.graph) i))
