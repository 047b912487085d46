-- `checker::rows::falls` meets its contract. Assumes nothing.
use native.Mathlib.Omega.{arith}
use mathlib.Core.Path.{◌≡◌}
use Rattle.std.proofs.Common.{rules}
use Rattle.parts.proofs.PartLaws.{row_is}
use Rattle.checker.proofs.RowLaws.{order-first, order-fault}
use Rattle.checker.proofs.rows.falls.Goals as goal

pub returns-then-place-le1 : goal.returns-then-place-le1
returns-then-place-le1 c g of = order-first g _ _ (omega arith)

pub returns : goal.returns
returns c g of =
    let same : c.args.place ≡ c.in-Ok.place = search rules in
    rw same (order-fault g _ _ _ _ _ (omega arith) (omega arith)
    (row_is g _ _ _ (c.row.ensures g of)) (row_is g _ _ _ (c.row-2.ensures g of)) (c.rises.ensures g))
