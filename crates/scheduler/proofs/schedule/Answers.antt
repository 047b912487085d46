-- `scheduler::schedule` meets its contract. Assumes nothing.
use mathlib.Core.Path.{◌≡◌, sym, subst}
use lib.ListN.{length}
use Rattle.std.proofs.Common.{rules}
use Rattle.std.specs.Prelude.{Err}
use Rattle.meaning.specs.Graph.{Graph}
use Rattle.refusals.specs.Faults.{verdict_of}
use Rattle.scheduler.specs.Promise.{SolveGives}
use Rattle.scheduler.proofs.Answering.{promised_refused, promised_taken}
use Rattle.scheduler.proofs.schedule.Goals as goal

pub returns-in_err-taken : goal.returns-in_err-taken
unfolding verdict_of
returns-in_err-taken c =
    let a = c.args in
    let f = c.in_err-taken.field-0.0 in
    let e : c.from_residual.result ≡ Err f = search rules in
    rw e (promised_refused a.graph.now a.slots.now a.table.now f (sym c.in_err-taken.ensures.verdict))

pub returns : goal.returns
unfolding verdict_of
returns c =
    let a = c.args in
    let n = c.in_ok-taken.ensures in
    promised_taken a.graph.now a.slots.now a.table.now c.solve.new.slots c.solve.new.table c.solve.result (sym n.verdict)
    (subst (λ (g : Graph). SolveGives g (length a.slots.now) a.table.now c.solve.new.table c.solve.result) n.graph.graph c.solve.ensures.answered)
    c.solve.ensures.cleared
