-- `checker::claim::Claim::continues` meets its contract. Assumes nothing.
use Prim.Native.Nat.{ℕ, ◌+◌}
use native.Mathlib.Omega.{arith}
use mathlib.Core.Path.{refl, ◌∙◌, ap}
use mathlib.Core.Bool.{Bool}
use Rattle.std.proofs.Common.{rules, tests}
use Rattle.std.proofs.lemmas.Iterator.{YieldsList-from_range}
use Rattle.std.proofs.lemmas.Iterator.Search.{all_from_yields_List}
use Rattle.machine.specs.Sets.{all_below}
use Rattle.steps.specs.Forks.{fallen}
use Rattle.steps.proofs.Ranges.{all_of_range}
use Rattle.checker.specs.Rows.{covered}
use Rattle.checker.specs.Claims.{graph_of, file_of}
use Rattle.parts.proofs.PartLaws.{row_is}
use Rattle.checker.proofs.SoundLaws.{continues-row}
use Rattle.checker.proofs.claim.Claim.continues.Goals as goal

pub returns : goal.returns
returns c =
    let claim = c.args.self.now in
    let n = c.word_count.result in
    let goes : ℕ → Bool = λ w. covered (graph_of claim) (file_of claim) (c.row-p.result.cycle + 1) (fallen c.fork_of-fork.result w) in
    continues-row _ _ _ _ (row_is _ _ _ _ c.row-p.ensures) claim.taken.within (omega arith) c.fork_of-fork.ensures _
    (all_from_yields_List goes _ _ c.all.result c.all.ensures.ran (YieldsList-from_range 0 n n refl (omega arith))
    (λ j b q k. search (rules, tests))
    ∙ all_of_range goes n ∙ ap (λ (m : ℕ). all_below m goes) c.word_count.ensures)
