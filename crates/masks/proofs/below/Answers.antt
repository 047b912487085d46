-- `masks::below` meets its contract. Assumes nothing.
use Prim.Native.Nat.{ℕ, ◌-◌}
use native.Mathlib.Omega.{arith}
use mathlib.Core.Path.{sym, ◌∙◌, ap}
use borrow.Author.Tests.{lt-ltb}
use lib.Dec.{ltb}
use lib.Pow.{pow_pos}
use Rattle.machine.proofs.Sets.{mask-same}
use Rattle.masks.proofs.Bits.{one_bit, ones_mask}
use Rattle.masks.proofs.below.Goals as goal

pub overflow_sub-result : goal.overflow_sub-result
overflow_sub-result c = omega (arith, one_bit 32 c.args.n c.if-n-lt32.true, pow_pos c.args.n)

pub returns-then-n-lt32 : goal.returns-then-n-lt32
returns-then-n-lt32 c =
    let n = c.args.n in
    ap (λ (k : ℕ). k - 1) (one_bit 32 n c.if-n-lt32.true) ∙ ones_mask 32 n (omega arith)

pub returns-else-n-lt32 : goal.returns-else-n-lt32
returns-else-n-lt32 c =
    let n = c.args.n in
    ones_mask 32 32 (omega arith)
    ∙ mask-same 32 (λ j. ltb j 32) (λ j. ltb j n) (λ j l. lt-ltb j 32 l ∙ sym (lt-ltb j n (omega arith)))
