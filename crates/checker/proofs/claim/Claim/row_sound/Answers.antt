-- `checker::claim::Claim::row_sound` meets its contract. Assumes nothing.
use mathlib.Core.Path.{◌≡◌, refl}
use mathlib.Core.Bool.{true, false}
use Rattle.std.proofs.Common.{rules}
use Rattle.meaning.specs.Steps.{legal}
use Rattle.parts.specs.Fields.{state_of}
use Rattle.refusals.specs.Faults.{number_of, fault_verdict, verdict_of}
use Rattle.checker.specs.Rows.{unfounded}
use Rattle.checker.specs.Claims.{graph_of, file_of}
use Rattle.checker.proofs.SoundLaws.{row-verdict}
use Rattle.checker.proofs.claim.Claim.row_sound.Goals as goal

pub returns-then-stray : goal.returns-then-stray
unfolding verdict_of fault_verdict number_of
returns-then-stray c =
    let claim = c.args.self.now in
    let strays : unfounded (graph_of claim) (file_of claim) c.args.i ≡ true = search rules in
    rw (row-verdict, strays) refl

pub returns-then-broken : goal.returns-then-broken
unfolding verdict_of fault_verdict number_of
returns-then-broken c =
    let claim = c.args.self.now in
    let row = c.row.ensures in
    let stays : unfounded (graph_of claim) (file_of claim) c.args.i ≡ false = search rules in
    let breaks : legal (graph_of claim) (state_of c.row.result.state) c.row.result.step ≡ false = search rules in
    rw (row-verdict, stays, ← row.state, ← row.step, breaks) refl

pub returns : goal.returns
unfolding verdict_of
returns c =
    let claim = c.args.self.now in
    let row = c.row.ensures in
    let stays : unfounded (graph_of claim) (file_of claim) c.args.i ≡ false = search rules in
    let holds : legal (graph_of claim) (state_of c.row.result.state) c.row.result.step ≡ true = search rules in
    rw (row-verdict, stays, ← row.state, ← row.step, holds) refl
