-- `checker::rows::has_row` meets its contract. Assumes nothing.
use Prim.Native.Nat.{ℕ, suc}
use native.Mathlib.Omega.{arith}
use mathlib.Core.Path.{refl, ◌∙◌, ap}
use mathlib.Core.Bool.{Bool}
use Rattle.std.proofs.Common.{rules, tests}
use Rattle.std.proofs.lemmas.Iterator.{YieldsList-from_range}
use Rattle.std.proofs.lemmas.Iterator.Search.{any_from_yields_List}
use Rattle.machine.specs.Sets.{any_below}
use Rattle.machine.specs.Tables.{stands_at, has_row}
use Rattle.meaning.specs.Steps.{machine_of}
use Rattle.meaning.specs.TableFile.{table_in}
use Rattle.parts.specs.Fields.{state_of}
use Rattle.steps.proofs.Ranges.{any_of_range}
use Rattle.checker.proofs.rows.has_row.Goals as goal

pub returns : goal.returns
unfolding has_row table_in
returns c g of =
    let a = c.args in
    let n = c.row_count.result in
    let stands : ℕ → Bool = λ i. stands_at (machine_of g) (table_in g a.table.now.bytes.now) a.t (state_of a.s) (suc i) in
    any_from_yields_List stands _ _ c.any.result c.any.ensures.ran (YieldsList-from_range 0 n n refl (omega arith))
    (λ j b q k. search (rules, tests))
    ∙ any_of_range stands n ∙ ap (λ (m : ℕ). any_below m stands) c.row_count.ensures.right
