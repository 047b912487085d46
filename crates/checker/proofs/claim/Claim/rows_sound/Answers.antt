-- `checker::claim::Claim::rows_sound` meets its contract. Assumes nothing.
use native.Mathlib.Omega.{arith}
use mathlib.Core.Path.{◌≡◌, refl, sym, ◌∙◌, ap}
use Rattle.std.proofs.Common.{rules}
use Rattle.std.specs.Prelude.{Err}
use Rattle.machine.specs.Sets.{list_below}
use Rattle.machine.specs.Refusals.{judge}
use Rattle.machine.proofs.Refusals.{list_more, list-refused}
use Rattle.refusals.specs.Faults.{fault_verdict, verdict_of}
use Rattle.checker.proofs.claim.Claim.rows_sound.Goals as goal

pub loop-i-init : goal.loop-i-init
unfolding judge list_below
loop-i-init c = refl

pub returns-in_err-row_sound : goal.returns-in_err-row_sound
unfolding verdict_of fault_verdict
returns-in_err-row_sound c =
    let e : c.from_residual.result ≡ Err c.in_err-row_sound.field-0.0 = search rules in
    rw e (sym (list-refused _ _ _ _ _ (omega (arith, c.row_count-i-end.ensures.right)) c.loop-i.invariant
    (sym c.row_sound.ensures ∙ ap verdict_of c.in_err-row_sound.was)))

pub loop-i-preserved : goal.loop-i-preserved
unfolding verdict_of
loop-i-preserved c = list_more _ _ c.loop-i.invariant (sym c.row_sound.ensures ∙ ap verdict_of c.in_ok-row_sound.was)

pub returns : goal.returns
unfolding verdict_of
returns c =
    let all : c.row_count-i-end.result ≡ c.loop-i.i = omega arith in
    rw (← c.row_count-i-end.ensures.right, all) (sym c.loop-i.invariant)
