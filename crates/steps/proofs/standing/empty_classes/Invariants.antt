-- `steps::standing::empty_classes` meets its contract. The loop's invariant: the classes before k have their limits. Assumes nothing.
use mathlib.Core.Path.{◌≡◌}
use Rattle.parts.specs.Fields.{graph_in}
use Rattle.steps.specs.Moves.{eight}
use Rattle.steps.proofs.Eights.{limits_to}
use Rattle.steps.proofs.standing.empty_classes.Given as goal

abbrev pub invariant-loop-k : goal.invariant-loop-k
invariant-loop-k l = l.classes ≡ eight (limits_to (graph_in l.graph) l.k)
