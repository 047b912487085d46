-- `masks::has` meets its contract. Assumes nothing.
use Prim.Native.Nat.{ℕ, ◌^◌, ◌/◌}
use mathlib.Core.Path.{refl, ap}
use borrow.Author.Tests.{le-ltb}
use lib.Bits.{and_mask}
use lib.Dec.{eqb}
use Rattle.machine.specs.Sets.{has}
use Rattle.machine.proofs.Sets.{has-high}
use Rattle.masks.proofs.has.Goals as goal

pub returns-then-j-lt32 : goal.returns-then-j-lt32
unfolding has
returns-then-j-lt32 c = ap (λ (k : ℕ). eqb k 1) (and_mask (c.args.m / 2 ^ c.args.j) 1)

pub returns-else-j-lt32 : goal.returns-else-j-lt32
returns-else-j-lt32 c =
    simp (le-ltb c.args.j 32 c.if-j-lt32.false, has-high c.args.m 32 c.args.j c.ranges.m.fits c.if-j-lt32.false) refl
