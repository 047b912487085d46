-- `reader::content::branches` meets its contract. The inner loop looks for a control at which the path of operation j is
-- stray, so what it finds is whether j is at fault. Assumes nothing.
use Prim.Native.Nat.{◌-◌, ◌≤◌}
use mathlib.Core.Bool.{false}
use lib.ListN.{length}
use Rattle.machine.proofs.Loops.{SoFar}
use Rattle.meaning.specs.Graph.{stray_path, operation_count}
use Rattle.parts.specs.Fields.{graph_in}
use Rattle.reader.specs.Reading.{fault_at}
use Rattle.reader.proofs.content.branches.Given as goal

abbrev pub invariant-controls : goal.invariant-controls
invariant-controls l =
    let g = graph_in l.graph in
    (l.x ≤ length l.graph.controls.now) × SoFar (stray_path g l.j) false l.x

abbrev pub decreases-controls : goal.decreases-controls
decreases-controls l = length l.graph.controls.now - l.x

abbrev pub invariant-operations : goal.invariant-operations
invariant-operations l =
    let g = graph_in l.graph in
    (l.j ≤ operation_count g) × SoFar (fault_at 9 g) false l.j

abbrev pub decreases-operations : goal.decreases-operations
decreases-operations l = operation_count (graph_in l.graph) - l.j
