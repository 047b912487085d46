-- `checker::rows::stands_at` meets its contract. Assumes nothing.
use mathlib.Core.Path.{refl}
use Rattle.machine.specs.Tables.{stands_at}
use Rattle.checker.proofs.rows.stands_at.Goals as goal

pub returns : goal.returns
unfolding stands_at
returns c g of = let r = c.row-row.ensures g of in rw (c.same.ensures, r.cycle, r.state) refl
