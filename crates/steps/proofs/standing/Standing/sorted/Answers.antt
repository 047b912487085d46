-- `steps::standing::Standing::sorted` meets its contract. The loop's invariant: the operations before j are with their classes, and those of them that are
-- excluded are gathered. Assumes nothing.
use Prim.Native.Nat.{ℕ}
use native.Mathlib.Omega.{arith}
use mathlib.Core.Path.{◌≡◌, ◌∙◌, ap, ap₂}
use mathlib.Core.Bool.{◌&&◌}
use mathlib.Core.List.{List}
use lib.Dec.{ltb}
use Rattle.machine.specs.Sets.{mask_below}
use Rattle.masks.proofs.Gather.{gather_start, gather_turn}
use Rattle.meaning.specs.Graph.{operation_count}
use Rattle.meaning.specs.Steps.{lost, excluded}
use Rattle.parts.specs.Fields.{graph_in}
use Rattle.steps.specs.Moves.{among, joined, class_at, of_class}
use Rattle.steps.specs.declared.Class.{Class}
use Rattle.steps.proofs.Eights.{classes_to, classes_start, classes_turn}
use Rattle.steps.proofs.standing.Standing.sorted.Goals as goal

pub loop-j-init : goal.loop-j-init
loop-j-init c =
    let g = graph_in c.args.self.now.graph.now in
    let s = c.args.self.now.state in
    (c.empty_classes-classes.ensures ∙ classes_start g, gather_start 32 (excluded g s.done s.values))

pub loop-j-preserved : goal.loop-j-preserved
unfolding excluded
loop-j-preserved c =
    let g = graph_in c.args.self.now.graph.now in
    let s = c.args.self.now.state in
    let l = c.loop-j in
    let old = l.invariant in
    let here = c.operation-operation.ensures in (
      c.join.ensures ∙ ap₂ (λ (m : List Class) (k : ℕ). joined m k l.j) old.0 here.class ∙ classes_turn g l.j,
      gather_turn 32 l.excluded c.with-excluded.result l.j c.lost.result c.with-excluded.ensures (excluded g s.done s.values)
          old.1 (c.lost.ensures ∙ ap (lost g s.done s.values) here.path),
    )

pub returns : goal.returns
unfolding classes_to class_at of_class among
returns c =
    let g = graph_in c.args.self.now.graph.now in
    let s = c.args.self.now.state in
    let all : c.loop-j.j ≡ operation_count g = omega arith in
    let old = c.loop-j.invariant in
    record {
      excluded = old.1 ∙ ap (λ (k : ℕ). mask_below 32 (λ i. ltb i k && excluded g s.done s.values i)) all;
      classes = old.0 ∙ ap (classes_to g) all;
    }
