-- `checker::check` meets its contract. Assumes nothing.
use mathlib.Core.Path.{◌≡◌, sym, ◌∙◌, ap}
use Rattle.std.proofs.Common.{rules}
use Rattle.std.specs.Prelude.{Err}
use Rattle.refusals.specs.Faults.{verdict_of}
use Rattle.checker.proofs.Verdicts.{graph-refused, table-refused, table-accepted}
use Rattle.checker.proofs.check.Goals as goal

pub returns-in_err-taken : goal.returns-in_err-taken
unfolding verdict_of
returns-in_err-taken c =
    let e : c.from_residual.result ≡ Err c.in_err-taken.field-0.0 = search rules in
    rw e (graph-refused _ _ _ (sym c.take.ensures.verdict ∙ ap verdict_of c.in_err-taken.was))

pub returns-in_err-judge : goal.returns-in_err-judge
unfolding verdict_of
returns-in_err-judge c =
    let e : c.from_residual-in_err-judge.result ≡ Err c.in_err-judge.field-0.0 = search rules in
    rw e (table-refused _ _ _ (sym c.take.ensures.verdict ∙ ap verdict_of c.in_ok-taken.was)
    (rw (← c.in_ok-taken.ensures.graph.graph) (sym c.judge.ensures ∙ ap verdict_of c.in_err-judge.was)))

pub returns : goal.returns
unfolding verdict_of
returns c =
    table-accepted _ _ _ _ (sym c.take.ensures.verdict ∙ ap verdict_of c.in_ok-taken.was)
    (rw (← c.in_ok-taken.ensures.graph.graph) (sym c.judge.ensures ∙ ap verdict_of c.in_ok-judge.was))
    c.cycles.ensures c.row_count.ensures.right
