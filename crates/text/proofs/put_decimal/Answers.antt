-- `text::put_decimal` meets its contract. The digits are written from the last to the first. Assumes nothing.
use native.Mathlib.Omega.{arith}
use mathlib.Core.Path.{refl}
use Rattle.text.proofs.Digits.{none_written, one_written}
use Rattle.text.proofs.put_decimal.Goals as goal

pub loop-first-init : goal.loop-first-init
loop-first-init c = (refl, none_written _ c.args.number refl (omega arith))

pub loop-first-preserved : goal.loop-first-preserved
loop-first-preserved c = let l = c.loop-first in (l.invariant.0, one_written l.invariant.1 (omega arith))
