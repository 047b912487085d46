-- `checker::rows::layout` meets its contract. Assumes nothing.
use mathlib.Core.Path.{◌∙◌, ap}
use mathlib.Core.Bool.{Bool}
use mathlib.Core.List.{[], ◌∷◌}
use Rattle.machine.specs.Refusals.{placeless, judge}
use Rattle.meaning.specs.TableFile.{layout_line}
use Rattle.refusals.specs.Faults.{number_of}
use Rattle.checker.proofs.rows.layout.Goals as goal

pub returns : goal.returns
unfolding layout_line number_of
returns c = c.refuse_if.ensures ∙ ap (λ (b : Bool). judge (placeless 15 b ∷ [])) c.misshapen.ensures
