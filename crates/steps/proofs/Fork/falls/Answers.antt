-- `steps::Fork::falls` meets its contract. Assumes nothing.
use Prim.Native.Nat.{◌^◌, ◌<◌}
use native.Mathlib.Omega.{arith}
use Rattle.masks.proofs.Bits.{lack_test}
use Rattle.steps.specs.Forks.{falls}
use Rattle.steps.proofs.Fork.falls.Goals as goal

pub returns : goal.returns
unfolding falls
returns c =
    let b : c.args.self.begun < 2 ^ 32 = omega arith in
    lack_test 32 c.args.word c.args.self.begun c.ranges.word.fits b
