-- `reader::content::branches` meets its contract. The inner loop looks for a control at which the path of operation j is
-- stray, so what it finds is whether j is at fault. Assumes nothing.
use native.Mathlib.Omega.{arith}
use mathlib.Core.Path.{sym, ◌∙◌}
use borrow.Author.Count.{below_more}
use Rattle.machine.proofs.Loops.{any_found, any_none}
use Rattle.machine.proofs.Refusals.{refused-at, taken-after}
use Rattle.meaning.specs.Graph.{content_lines, control_count, stray_path}
use Rattle.parts.specs.Fields.{graph_in}
use Rattle.refusals.specs.Faults.{number_of, verdict_of, fault_verdict}
use Rattle.reader.specs.Reading.{line_of}
use Rattle.reader.proofs.content.branches.Goals as goal

pub controls-preserved : goal.controls-preserved
controls-preserved c =
    (omega arith, below_more _ _ c.controls.invariant.1 (sym c.stray.ensures ∙ c.if-stray.false))

pub operations-preserved : goal.operations-preserved
unfolding line_of content_lines control_count
operations-preserved c =
    let g = graph_in c.args.graph.now in (
      omega (arith, c.operation_count.ensures, c.if-j-operation_count.false),
      below_more _ _ c.operations.invariant.1
          (any_none (stray_path g c.operations.j) (control_count g) c.controls.x (omega (arith, c.if-x-graph.true)) c.controls.invariant.1),
    )

pub returns-then-j-operation_count : goal.returns-then-j-operation_count
unfolding line_of content_lines verdict_of
returns-then-j-operation_count c =
    sym (taken-after _ _ c.operations.invariant.1 (omega (arith, c.operation_count.ensures, c.if-j-operation_count.true)))

pub returns-then-stray : goal.returns-then-stray
unfolding line_of content_lines control_count number_of verdict_of fault_verdict
returns-then-stray c =
    let g = graph_in c.args.graph.now in
    sym (refused-at _ _ c.operations.invariant.1 (omega (arith, c.operation_count.ensures, c.operations.invariant.0, c.if-j-operation_count.false))
    (any_found (stray_path g c.operations.j) (control_count g) c.controls.x (omega (arith, c.controls.invariant.0, c.if-x-graph.false)) (sym c.stray.ensures ∙ c.if-stray.true)))
