-- `steps::standing::Standing::pulls` meets its contract. The loop's invariant: the targets of the arcs before a that hold back or demand are
-- gathered. Assumes nothing.
use mathlib.Core.Path.{◌≡◌}
use Rattle.parts.specs.Fields.{graph_in}
use Rattle.steps.specs.Moves.{waiting, demanding, targets}
use Rattle.steps.proofs.standing.Standing.pulls.Given as goal

abbrev pub invariant-loop-a : goal.invariant-loop-a
invariant-loop-a l =
    let g = graph_in l.self.graph.now in
    let s = l.self.state in
    (l.held ≡ targets g l.a (waiting g s.done s.values)) × (l.demanded ≡ targets g l.a (demanding g s.done))
