-- `steps::standing::Standing::sorted` meets its contract. The loop's invariant: the operations before j are with their classes, and those of them that are
-- excluded are gathered. Assumes nothing.
use mathlib.Core.Path.{◌≡◌}
use mathlib.Core.Bool.{◌&&◌}
use lib.Dec.{ltb}
use Rattle.machine.specs.Sets.{mask_below}
use Rattle.meaning.specs.Steps.{excluded}
use Rattle.parts.specs.Fields.{graph_in}
use Rattle.steps.proofs.Eights.{classes_to}
use Rattle.steps.proofs.standing.Standing.sorted.Given as goal

abbrev pub invariant-loop-j : goal.invariant-loop-j
invariant-loop-j l =
    let g = graph_in l.self.graph.now in
    let s = l.self.state in
    (l.classes ≡ classes_to g l.j) × (l.excluded ≡ mask_below 32 (λ i. ltb i l.j && excluded g s.done s.values i))
