-- `masks::count` meets its contract. Assumes nothing.
use Rattle.masks.proofs.Bits.{ones_count}
use Rattle.masks.proofs.count.Goals as goal

pub returns : goal.returns
returns c = ones_count 32 c.args.m c.ranges.m.fits
