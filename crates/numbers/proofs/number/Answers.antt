-- `numbers::number` meets its contract. The bytes are read from the last to the first. Assumes nothing.
use native.Mathlib.Nat.{one-le-pow}
use native.Mathlib.Omega.{arith}
use mathlib.Core.Path.{sym}
use Rattle.numbers.proofs.ByteLaws.{number_past, none_read, one_lower, all_read, three_small}
use Rattle.numbers.proofs.number.Goals as goal

pub returns-in_default : goal.returns-in_default
returns-in_default c = record { right = sym (number_past _ _ _ (omega (arith, c.in_default.ensures.lookup.0))); small = one-le-pow _ 256 (omega arith) }

pub loop-j-init : goal.loop-j-init
loop-j-init c = (omega arith, none_read _ _ _ (omega arith))

pub overflow_mul-number : goal.overflow_mul-number
overflow_mul-number c =
    omega (arith, three_small _ _ _ (omega arith) (omega arith) c.loop-j.invariant.1.small)

pub overflow_add-number : goal.overflow_add-number
overflow_add-number c =
    omega (arith, three_small _ _ _ (omega arith) (omega arith) c.loop-j.invariant.1.small)

pub loop-j-preserved : goal.loop-j-preserved
loop-j-preserved c =
    let l = c.loop-j in
    (omega arith, one_lower _ _ _ _ _ (omega arith) l.invariant.0 c.byte.ensures l.invariant.1)

pub returns : goal.returns
returns c = let l = c.loop-j in all_read _ _ _ _ l.j _ (omega arith) c.in-Some.ensures.lookup.0.2 l.invariant.1
