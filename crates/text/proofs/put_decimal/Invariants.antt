-- `text::put_decimal` meets its contract. The digits are written from the last to the first. Assumes nothing.
use mathlib.Core.Path.{◌≡◌}
use Rattle.meaning.specs.Listing.{decimal}
use Rattle.text.proofs.Digits.{Written}
use Rattle.text.proofs.put_decimal.Given as goal

abbrev pub invariant-loop-first : goal.invariant-loop-first
invariant-loop-first l = (l.out ≡ l.initial.out) × Written (decimal l.number) l.digits l.first l.rest
