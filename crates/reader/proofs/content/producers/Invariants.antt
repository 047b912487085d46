-- `reader::content::producers` meets its contract. The inner loop looks for an earlier control of the same operation, so
-- what it finds is the second part of whether control b is at fault. Assumes nothing.
use Prim.Native.Nat.{ℕ, ◌-◌, ◌≤◌}
use mathlib.Core.Bool.{Bool, false}
use lib.Dec.{eqb}
use lib.ListN.{length}
use Rattle.machine.proofs.Loops.{SoFar}
use Rattle.meaning.specs.Graph.{Graph, producer}
use Rattle.parts.specs.Fields.{graph_in}
use Rattle.reader.specs.Reading.{fault_at}
use Rattle.reader.proofs.content.producers.Given as goal

-- control d has the operation of control b
abbrev pub same : Graph → ℕ → ℕ → Bool
same g b d = eqb (producer g d) (producer g b)

abbrev pub invariant-earlier : goal.invariant-earlier
invariant-earlier l = (l.d ≤ l.b) × SoFar (same (graph_in l.graph) l.b) false l.d

abbrev pub decreases-earlier : goal.decreases-earlier
decreases-earlier l = l.b - l.d

abbrev pub invariant-controls : goal.invariant-controls
invariant-controls l =
    let g = graph_in l.graph in
    (l.b ≤ length l.graph.controls.now) × SoFar (fault_at 8 g) false l.b

abbrev pub decreases-controls : goal.decreases-controls
decreases-controls l = length l.graph.controls.now - l.b
