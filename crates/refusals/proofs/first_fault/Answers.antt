-- `refusals::first_fault` meets its contract. Assumes nothing.
use native.Mathlib.Omega.{arith}
use mathlib.Core.Path.{sym, ◌∙◌}
use borrow.Author.Count.{below_none, below_more}
use Rattle.machine.specs.Refusals.{line}
use Rattle.machine.proofs.Refusals.{refused-at, taken-after}
use Rattle.refusals.specs.Faults.{number_of, verdict_of, fault_verdict}
use Rattle.refusals.proofs.first_fault.Goals as goal

pub loop-place-init : goal.loop-place-init
loop-place-init g c = λ fault says. below_none _

pub returns-then-test : goal.returns-then-test
unfolding verdict_of fault_verdict
returns-then-test g c = λ fault says.
    sym (refused-at (line (number_of c.args.refusal) c.args.places fault) c.loop-place.place (c.loop-place.invariant fault says) c.loop-place-test.true (sym (says _ _ c.loop-place-test.true c.test.ensures) ∙ c.if-test.true))

pub loop-place-preserved : goal.loop-place-preserved
loop-place-preserved g c = λ fault says.
    below_more _ _ (c.loop-place.invariant fault says) (sym (says _ _ c.loop-place-test.true c.test.ensures) ∙ c.if-test.false)

pub returns : goal.returns
unfolding verdict_of fault_verdict
returns g c = λ fault says.
    sym (taken-after (line (number_of c.args.refusal) c.args.places fault) c.loop-place.place (c.loop-place.invariant fault says) (omega (arith, c.loop-place-test.false)))
