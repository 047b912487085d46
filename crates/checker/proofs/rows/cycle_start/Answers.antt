-- `checker::rows::cycle_start` meets its contract. Assumes nothing.
use Prim.Native.Nat.{ℕ}
use native.Mathlib.Omega.{arith}
use mathlib.Core.Path.{refl, ◌∙◌}
use mathlib.Core.Bool.{Bool}
use Rattle.std.proofs.Common.{rules, tests}
use Rattle.std.proofs.lemmas.Iterator.{YieldsList-from_range}
use Rattle.std.proofs.lemmas.Iterator.Consumers.{YieldsList-at, count_from_yields_List, YieldsList-from_filter}
use Rattle.meaning.specs.Graph.{content}
use Rattle.steps.proofs.Ranges.{count_of_range}
use Rattle.checker.proofs.RowLaws.{earlier, start_of_cycle}
use Rattle.checker.proofs.rows.cycle_start.Goals as goal

pub returns : goal.returns
returns c file of =
    let n = c.row_count.result in
    let before : ℕ → Bool = earlier (content file) c.args.table.now.bytes.now c.args.t in
    c.row_start.ensures.right
    ∙ rw (← of) (start_of_cycle file _ _ n _ c.row_count.ensures.right
    (count_from_yields_List c.filter.result c.count-earlier.result c.count-earlier.ensures.ran
    (YieldsList-from_filter _ before (YieldsList-at c.filter.ensures.source (YieldsList-from_range 0 n n refl (omega arith)))
    c.filter.ensures.closure (λ x b q k. search (rules, tests)))
    ∙ count_of_range before n))
