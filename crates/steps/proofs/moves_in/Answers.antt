-- `steps::moves_in` meets its contract. Assumes nothing.
use Prim.Native.Nat.{ℕ, ◌^◌, ◌<◌}
use native.Mathlib.Omega.{arith}
use mathlib.Core.Path.{◌≡◌, ◌∙◌, ap}
use lib.Dec.{ltb}
use Rattle.machine.specs.Sets.{mask_below}
use Rattle.meaning.specs.Graph.{class_count, operation_count}
use Rattle.parts.specs.Fields.{graph_in}
use Rattle.steps.specs.Moves.{step_count, moves_in}
use Rattle.steps.proofs.Rules.{undone_mask, held-mask, demanded-mask}
use Rattle.steps.proofs.moves_in.Goals as goal

pub returns : goal.returns
unfolding moves_in class_count
returns c =
    let a = c.args in
    let g = graph_in a.graph.now in
    let count = c.operation_count-n.ensures in
    let all : c.below-all.result ≡ mask_below 32 (λ j. ltb j (operation_count g)) =
    c.below-all.ensures ∙ ap (λ (n : ℕ). mask_below 32 (λ j. ltb j n)) count in
    let its = c.of-standing.ensures in
    let pulled = rw (its.0, its.1) at c.pulls-pulls.ensures in
    let sorted = rw (its.0, its.1) at c.sorted-sorted.ensures in
    let d : a.s.done < 2 ^ 32 = omega arith in
    λ i. record {
      steps = (c.step_count.ensures ∙ ap step_count count) i;
      undone = undone_mask g c.below-all.result all a.s.done d i;
      held = held-mask g c.below-all.result all a.s.done a.s.values c.pulls-pulls.result.held pulled.held i;
      excluded = sorted.excluded i;
      demanded = demanded-mask g c.below-all.result all a.s.done a.s.values c.pulls-pulls.result.demanded
          pulled.demanded i;
      class_count = c.min.ensures i;
      classes = sorted.classes i;
    }
