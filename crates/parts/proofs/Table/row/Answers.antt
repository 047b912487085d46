-- `parts::Table::row` meets its contract. Assumes nothing.
use native.Mathlib.Omega.{arith}
use Rattle.meaning.specs.TableFile.{mask_bytes, table_in}
use Rattle.parts.proofs.PartLaws.{mask_whole}
use Rattle.parts.proofs.Table.row.Goals as goal

pub overflow_add-at-4 : goal.overflow_add-at-4
unfolding mask_bytes
overflow_add-at-4 c =
    omega (arith, c.mask_bytes-size.ensures, c.row_start-at.ensures.small)

pub returns : goal.returns
unfolding table_in
returns c g of =
    record {
      cycle = cc;
      state = cc (mask_whole g.edition);
      step = cc (mask_whole g.edition);
      cycle-small = c.byte.ensures.small;
      values-small = c.byte-2.ensures.small;
    }
