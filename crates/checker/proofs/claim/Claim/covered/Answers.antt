-- `checker::claim::Claim::covered` meets its contract. Assumes nothing.
use mathlib.Core.Path.{refl, sym}
use Rattle.checker.specs.Rows.{covered}
use Rattle.checker.proofs.claim.Claim.covered.Goals as goal

pub returns-then-complete : goal.returns-then-complete
unfolding covered
returns-then-complete c = rw (← c.complete.ensures, c.if-complete.true) refl

pub returns-else-complete : goal.returns-else-complete
unfolding covered
returns-else-complete c = rw (← c.complete.ensures, c.if-complete.false) (c.has_row.ensures _ (sym c.args.self.now.edition))
