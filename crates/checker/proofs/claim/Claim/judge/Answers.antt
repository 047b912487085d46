-- `checker::claim::Claim::judge` meets its contract. Assumes nothing.
use mathlib.Core.Path.{◌≡◌, refl, sym}
use Rattle.std.proofs.Common.{rules}
use Rattle.std.specs.Prelude.{Err}
use Rattle.machine.proofs.Refusals.{otherwise}
use Rattle.refusals.specs.Faults.{fault_verdict, verdict_of}
use Rattle.checker.specs.Claims.{graph_of}
use Rattle.checker.proofs.SoundLaws.{table-verdict}
use Rattle.checker.proofs.claim.Claim.judge.Goals as goal

pub returns-in_err-layout : goal.returns-in_err-layout
unfolding otherwise verdict_of fault_verdict
returns-in_err-layout c =
    let e : c.from_residual.result ≡ Err c.in_err-layout.field-0.0 = search rules in
    rw (table-verdict, ← c.args.self.now.edition, ← c.layout.ensures, c.in_err-layout.was, e) refl

pub returns-in_err-order : goal.returns-in_err-order
unfolding otherwise verdict_of fault_verdict
returns-in_err-order c =
    let of = c.args.self.now.edition in
    let e : c.from_residual-in_err-order.result ≡ Err c.in_err-order.field-0.0 = search rules in
    rw (table-verdict, ← c.order.ensures (graph_of c.args.self.now) (sym of), ← of, ← c.layout.ensures, c.in_ok-layout.was, c.in_err-order.was, e) refl

pub returns : goal.returns
unfolding otherwise verdict_of
returns c =
    let of = c.args.self.now.edition in
    rw (table-verdict, ← c.order.ensures (graph_of c.args.self.now) (sym of), ← c.sound.ensures, ← of, ← c.layout.ensures, c.in_ok-layout.was, c.in_ok-order.was) refl
