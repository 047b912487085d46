-- `steps::complete` meets its contract. Assumes nothing.
use Prim.Native.Nat.{ℕ}
use native.Mathlib.Omega.{arith}
use mathlib.Core.Path.{refl, ◌∙◌, ap}
use mathlib.Core.Bool.{Bool, ◌||◌}
use Rattle.std.proofs.Common.{rules, tests}
use Rattle.std.proofs.lemmas.Iterator.{YieldsList-from_range}
use Rattle.std.proofs.lemmas.Iterator.Search.{all_from_yields_List}
use Rattle.machine.specs.Sets.{has, all_below}
use Rattle.meaning.specs.Steps.{complete, excluded}
use Rattle.parts.specs.Fields.{graph_in}
use Rattle.steps.proofs.Ranges.{all_of_range}
use Rattle.steps.proofs.complete.Goals as goal

pub returns : goal.returns
unfolding complete
returns c =
    let s = c.args.s in
    let n = c.operation_count.result in
    let finished : ℕ → Bool = λ j. has s.done j || excluded (graph_in c.args.graph.now) s.done s.values j in
    all_from_yields_List finished _ _ c.all.result c.all.ensures.ran (YieldsList-from_range 0 n n refl (omega arith))
    (λ j b q k. search (rules, tests))
    ∙ all_of_range finished n ∙ ap (λ (m : ℕ). all_below m finished) c.operation_count.ensures
