-- `masks::with` meets its contract. Assumes nothing.
use Rattle.masks.proofs.Bits.{joined, joined_none}
use Rattle.masks.proofs.with.Goals as goal

pub returns-then-j-lt32 : goal.returns-then-j-lt32
returns-then-j-lt32 c =
    rw c.from.ensures (joined 32 c.args.m c.args.j c.args.on c.ranges.m.fits c.if-j-lt32.true)

pub returns-else-j-lt32 : goal.returns-else-j-lt32
returns-else-j-lt32 c =
    joined_none 32 c.args.m c.args.j c.args.on c.ranges.m.fits c.if-j-lt32.false
