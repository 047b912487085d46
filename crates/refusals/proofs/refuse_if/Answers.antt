-- `refusals::refuse_if` meets its contract. Assumes nothing.
use mathlib.Core.Path.{refl, sym, ◌∙◌}
use Rattle.machine.proofs.Refusals.{placeless-first}
use mathlib.Core.List.{[]}
use Rattle.machine.specs.Refusals.{judge}
use Rattle.refusals.specs.Faults.{number_of, verdict_of, fault_verdict}
use Rattle.refusals.proofs.refuse_if.Goals as goal

pub returns-then-found : goal.returns-then-found
unfolding verdict_of fault_verdict
returns-then-found c = sym (placeless-first _ _ _ ∙ rw c.if-found.true refl)

pub returns : goal.returns
unfolding verdict_of judge
returns c = sym (placeless-first (number_of c.args.refusal) c.args.found [] ∙ rw c.if-found.false refl)
