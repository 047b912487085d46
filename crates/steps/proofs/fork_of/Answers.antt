-- `steps::fork_of` meets its contract. Assumes nothing.
use Prim.Native.Nat.{ℕ, ◌-◌, ◌^◌, ◌<◌}
use native.Mathlib.Omega.{arith}
use mathlib.Core.Path.{◌∙◌, ap, ap₂}
use lib.Bits.{bit_and}
use lib.Dec.{ltb}
use Rattle.machine.specs.Sets.{mask_below}
use Rattle.parts.specs.Fields.{graph_in, state_of}
use Rattle.steps.specs.Forks.{fork_of}
use Rattle.steps.proofs.After.{done-mask, begun-mask}
use Rattle.steps.proofs.fork_of.Goals as goal

pub returns : goal.returns
unfolding fork_of
returns c =
    let a = c.args in
    let g = graph_in a.graph.now in
    let d : a.s.done < 2 ^ 32 = omega arith in
    λ i. record {
      begun = (ap₂ (λ (p q : ℕ). bit_and p (2 ^ 32 - 1 - q)) c.produced.ensures c.produced-resolved.ensures
          ∙ begun-mask g (state_of a.s) a.step) i;
      done = done-mask g (state_of a.s) a.step 0 c.below.result d c.ranges.step.fits
          (c.below.ensures ∙ ap (λ (n : ℕ). mask_below 32 (λ j. ltb j n)) c.operation_count.ensures) i;
      kept = ap (λ (p : ℕ). bit_and p a.s.values) c.produced-resolved.ensures i;
    }
