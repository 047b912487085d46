-- `masks::lacks` meets its contract. Assumes nothing.
use Rattle.masks.proofs.Bits.{lacking}
use Rattle.masks.proofs.lacks.Goals as goal

pub returns : goal.returns
returns c =
    let a = c.args in
    let f = c.ranges in
    lacking 32 a.n a.a a.b c.below.result f.a.fits f.b.fits c.below.ensures
