-- `masks::share` meets its contract. Assumes nothing.
use Rattle.masks.proofs.Bits.{shared}
use Rattle.masks.proofs.share.Goals as goal

pub returns : goal.returns
returns c =
    let a = c.args in
    shared 32 a.n a.a a.b c.below.result c.ranges.a.fits c.below.ensures
