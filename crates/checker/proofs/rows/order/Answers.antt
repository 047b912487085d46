-- `checker::rows::order` meets its contract. Assumes nothing.
use Prim.Native.Nat.{ℕ, ◌^◌}
use mathlib.Core.Path.{◌∙◌}
use mathlib.Core.Bool.{Bool, ◌&&◌}
use lib.Dec.{ltb}
use Rattle.std.proofs.Common.{rules}
use Rattle.machine.specs.Tables.{order_line}
use Rattle.meaning.specs.TableFile.{table_in}
use Rattle.refusals.specs.Faults.{number_of}
use Rattle.checker.proofs.Places.{near_places}
use Rattle.checker.proofs.RowLaws.{order}
use Rattle.checker.proofs.rows.order.Goals as goal

pub returns : goal.returns
unfolding number_of order_line table_in
returns c g of =
    let fault : ℕ → Bool = (order g c.args.table.now.bytes.now).fault in
    c.first_fault.ensures (λ p. ltb p (2 ^ 32) && fault p) (λ p r l h. search rules)
    ∙ near_places 16 _ _ fault c.row_count.ensures
