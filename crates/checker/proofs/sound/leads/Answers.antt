-- `checker::sound::leads` meets its contract. Assumes nothing.
use Prim.Native.Nat.{ℕ}
use native.Mathlib.Omega.{arith}
use mathlib.Core.Path.{refl, ◌∙◌, ap}
use mathlib.Core.Bool.{Bool}
use Rattle.std.proofs.Common.{rules, tests}
use Rattle.std.proofs.lemmas.Iterator.{YieldsList-from_range}
use Rattle.std.proofs.lemmas.Iterator.Search.{any_from_yields_List}
use Rattle.machine.specs.Sets.{any_below}
use Rattle.meaning.specs.Steps.{same}
use Rattle.parts.specs.Fields.{state_of}
use Rattle.steps.specs.Forks.{fallen}
use Rattle.steps.proofs.Ranges.{any_of_range}
use Rattle.checker.proofs.sound.leads.Goals as goal

pub returns : goal.returns
unfolding same
returns c =
    let n = c.word_count.result in
    let meets : ℕ → Bool = λ w. same (fallen c.args.fork w) (state_of c.args.s) in
    any_from_yields_List meets _ _ c.any.result c.any.ensures.ran (YieldsList-from_range 0 n n refl (omega arith))
    (λ j b q k. search (rules, tests))
    ∙ any_of_range meets n ∙ ap (λ (m : ℕ). any_below m meets) c.word_count.ensures
