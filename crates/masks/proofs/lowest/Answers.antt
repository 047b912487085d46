-- `masks::lowest` meets its contract. Assumes nothing.
use Rattle.masks.proofs.Bits.{first_member}
use Rattle.masks.proofs.lowest.Goals as goal

pub returns : goal.returns
returns c = first_member 32 c.args.m c.ranges.m.fits
