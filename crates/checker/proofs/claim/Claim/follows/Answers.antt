-- `checker::claim::Claim::follows` meets its contract. Assumes nothing.
use Prim.Native.Nat.{ℕ, suc}
use native.Mathlib.Omega.{arith}
use mathlib.Core.Path.{refl, ◌∙◌, ap}
use mathlib.Core.Bool.{Bool}
use Rattle.std.proofs.Common.{rules, tests}
use Rattle.std.proofs.lemmas.Iterator.{YieldsList-from_range}
use Rattle.std.proofs.lemmas.Iterator.Search.{any_from_yields_List}
use Rattle.machine.specs.Sets.{any_below}
use Rattle.parts.specs.Fields.{row_of}
use Rattle.checker.specs.Rows.{came_from}
use Rattle.checker.specs.Claims.{graph_of, file_of}
use Rattle.steps.proofs.Ranges.{any_of_range}
use Rattle.parts.proofs.PartLaws.{row_is}
use Rattle.checker.proofs.SoundLaws.{follows-start, follows-row}
use Rattle.checker.proofs.claim.Claim.follows.Goals as goal

pub returns-then-starts : goal.returns-then-starts
returns-then-starts c =
    c.if-starts.true
    ∙ follows-start _ _ _ _ (row_is _ _ _ _ c.row-p.ensures) (rw (← c.start.ensures _, ← c.same.ensures) c.if-starts.true)

pub returns-else-starts : goal.returns-else-starts
returns-else-starts c =
    let claim = c.args.self.now in
    let n = c.row_count.result in
    let leads : ℕ → Bool = λ j. came_from (graph_of claim) (file_of claim) (suc j) (row_of (graph_of claim) c.row-p.result) in
    follows-row _ _ _ _ (row_is _ _ _ _ c.row-p.ensures) _ (rw (← c.start.ensures _, ← c.same.ensures) c.if-starts.false)
    (any_from_yields_List leads _ _ c.any.result c.any.ensures.ran (YieldsList-from_range 0 n n refl (omega arith))
    (λ j b q k. search (rules, tests))
    ∙ any_of_range leads n ∙ ap (λ (m : ℕ). any_below m leads) c.row_count.ensures.right)
