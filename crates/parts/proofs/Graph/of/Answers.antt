-- `parts::Graph::of` meets its contract. Assumes nothing.
use native.Mathlib.Omega.{arith}
use mathlib.Core.Path.{refl}
use Rattle.meaning.specs.Graph.{content, operations_start, controls_start, arcs_start, file_end}
use Rattle.parts.proofs.Graph.of.Goals as goal

pub cut-requires : goal.cut-requires
unfolding operations_start
cut-requires c = omega (arith, c.of_header-starts.ensures.operations.right)

pub cut-requires-2 : goal.cut-requires-2
unfolding controls_start
cut-requires-2 c =
    let s = c.of_header-starts.ensures in
    omega (arith, s.operations.right, s.controls.right)

pub cut-requires-3 : goal.cut-requires-3
unfolding arcs_start
cut-requires-3 c =
    let s = c.of_header-starts.ensures in
    omega (arith, s.controls.right, s.arcs.right)

pub cut-requires-4 : goal.cut-requires-4
unfolding file_end
cut-requires-4 c =
    let s = c.of_header-starts.ensures in
    omega (arith, s.arcs.right, s.end.right)

pub returns-clause-cut : goal.returns-clause-cut
unfolding content
returns-clause-cut c =
    let s = c.of_header-starts.ensures in
    record {
      limits = rw (← s.operations.right) c.cut.ensures;
      operations = rw (← s.operations.right, ← s.controls.right) c.cut-2.ensures;
      controls = rw (← s.controls.right, ← s.arcs.right) c.cut-3.ensures;
      arcs = rw (← s.arcs.right, ← s.end.right) c.cut-4.ensures;
    }

pub returns-clause-graph : goal.returns-clause-graph
unfolding content
returns-clause-graph c =
    let s = c.of_header-starts.ensures in
    rw (
      c.cut.ensures.holds,
      c.cut-2.ensures.holds,
      c.cut-3.ensures.holds,
      c.cut-4.ensures.holds,
      c.edition.ensures.right,
      s.operations.right,
      s.controls.right,
      s.arcs.right,
      s.end.right,
    ) refl
