-- `checker::rows::last_cycle` meets its contract. Assumes nothing.
use Rattle.parts.proofs.PartLaws.{row_is}
use Rattle.checker.proofs.RowLaws.{last_none, last_some}
use Rattle.checker.proofs.rows.last_cycle.Goals as goal

pub returns-then-n-eq0 : goal.returns-then-n-eq0
returns-then-n-eq0 c g of = last_none g _ _ c.row_count-n.ensures.right c.if-n-eq0.true

pub returns : goal.returns
returns c g of =
    last_some g _ _ _ c.row_count-n.ensures.right c.if-n-eq0.false (row_is g _ _ _ (c.row.ensures g of))
