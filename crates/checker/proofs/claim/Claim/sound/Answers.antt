-- `checker::claim::Claim::sound` meets its contract. Assumes nothing.
use mathlib.Core.Path.{◌≡◌, refl, sym}
use Rattle.std.proofs.Common.{rules}
use Rattle.std.specs.Prelude.{Err}
use Rattle.machine.proofs.Refusals.{otherwise}
use Rattle.refusals.specs.Faults.{number_of, fault_verdict, verdict_of}
use Rattle.checker.specs.Claims.{graph_of}
use Rattle.checker.proofs.SoundLaws.{sound_verdict, cycles_line}
use Rattle.checker.proofs.claim.Claim.sound.Goals as goal

pub returns-in_err-rows_sound : goal.returns-in_err-rows_sound
unfolding otherwise verdict_of fault_verdict
returns-in_err-rows_sound c =
    let e : c.from_residual.result ≡ Err c.in_err-rows_sound.field-0.0 = search rules in
    rw (sound_verdict, ← c.rows_sound.ensures, c.in_err-rows_sound.was, e) refl

pub returns-in_err-gapless : goal.returns-in_err-gapless
unfolding otherwise verdict_of fault_verdict
returns-in_err-gapless c =
    let e : c.from_residual-in_err-gapless.result ≡ Err c.in_err-gapless.field-0.0 = search rules in
    rw (sound_verdict, ← c.rows_sound.ensures, c.in_ok-rows_sound.was, ← c.gapless.ensures, c.in_err-gapless.was, e) refl

pub returns : goal.returns
unfolding otherwise verdict_of number_of cycles_line
returns c =
    rw (
      sound_verdict,
      ← c.rows_sound.ensures,
      c.in_ok-rows_sound.was,
      ← c.gapless.ensures,
      c.in_ok-gapless.was,
      ← c.cycles.ensures,
      ← c.last_cycle-last.ensures (graph_of c.args.self.now) (sym c.args.self.now.edition),
    ) c.refuse_if.ensures
