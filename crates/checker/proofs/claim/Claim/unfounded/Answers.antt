-- `checker::claim::Claim::unfounded` meets its contract. Assumes nothing.
use mathlib.Core.Path.{sym, ◌∙◌, ap}
use mathlib.Core.Bool.{not}
use Rattle.parts.proofs.PartLaws.{row_is}
use Rattle.checker.proofs.SoundLaws.{founded}
use Rattle.checker.proofs.claim.Claim.unfounded.Goals as goal

pub returns-then-complete : goal.returns-then-complete
returns-then-complete c =
    c.if-complete.true ∙ sym (founded _ _ _ _ (row_is _ _ _ _ c.row.ensures) _ (sym c.if-complete.true ∙ c.complete.ensures))

pub returns-else-complete : goal.returns-else-complete
returns-else-complete c =
    sym (founded _ _ _ _ (row_is _ _ _ _ c.row.ensures) _ (sym c.if-complete.false ∙ c.complete.ensures)
    ∙ ap not (sym c.follows.ensures))
