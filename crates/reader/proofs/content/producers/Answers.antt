-- `reader::content::producers` meets its contract. The inner loop looks for an earlier control of the same operation, so
-- what it finds is the second part of whether control b is at fault. Assumes nothing.
use native.Mathlib.Omega.{arith}
use mathlib.Core.Path.{refl, sym}
use mathlib.Core.Bool.{or-true}
use borrow.Author.Count.{below_more}
use borrow.Author.Tests.{le-leb, lt-leb, eq-eqb, ne_eqb}
use Rattle.machine.proofs.Loops.{any_found, any_none}
use Rattle.machine.proofs.Refusals.{refused-at, taken-after}
use Rattle.meaning.specs.Graph.{content_lines, control_count}
use Rattle.parts.specs.Fields.{graph_in}
use Rattle.refusals.specs.Faults.{number_of, verdict_of, fault_verdict}
use Rattle.reader.specs.Reading.{line_of}
use Rattle.reader.proofs.content.producers.Goals as goal
use Rattle.reader.proofs.content.producers.Invariants.{same}

pub earlier-preserved : goal.earlier-preserved
earlier-preserved c = (
  omega arith,
  below_more _ _ c.earlier.invariant.1
      (rw (← c.producer-in-earlier.ensures, ← c.producer-in-earlier-2.ensures) (ne_eqb _ _ c.if-producer.false)),
)

pub controls-preserved : goal.controls-preserved
unfolding line_of content_lines
controls-preserved c =
    let none = any_none (same (graph_in c.args.graph.now) c.controls.b) c.controls.b c.earlier.d (omega (arith, c.if-d-b.true)) c.earlier.invariant.1 in (
      omega arith,
      below_more _ _ c.controls.invariant.1
          (rw (none, ← c.operation_count.ensures, ← c.producer.ensures, lt-leb _ _ c.if-operation_count-producer.false) refl),
    )

pub returns-then-b-graph : goal.returns-then-b-graph
unfolding line_of content_lines control_count verdict_of
returns-then-b-graph c = sym (taken-after _ _ c.controls.invariant.1 (omega (arith, c.if-b-graph.true)))

pub returns-then-operation_count-producer : goal.returns-then-operation_count-producer
unfolding line_of content_lines control_count number_of verdict_of fault_verdict
returns-then-operation_count-producer c =
    sym (refused-at _ _ c.controls.invariant.1 (omega (arith, c.controls.invariant.0, c.if-b-graph.false))
    (rw (← c.operation_count.ensures, ← c.producer.ensures, le-leb _ _ c.if-operation_count-producer.true) refl))

pub returns-then-producer : goal.returns-then-producer
unfolding line_of content_lines control_count number_of verdict_of fault_verdict
returns-then-producer c =
    let found = any_found (same (graph_in c.args.graph.now) c.controls.b) c.controls.b c.earlier.d (omega (arith, c.earlier.invariant.0, c.if-d-b.false))
    (rw (← c.producer-in-earlier.ensures, ← c.producer-in-earlier-2.ensures) (eq-eqb _ _ c.if-producer.true)) in
    sym (refused-at _ _ c.controls.invariant.1 (omega (arith, c.controls.invariant.0, c.if-b-graph.false)) (rw (found, or-true) refl))
