-- `reader::take` meets its contract. Assumes nothing.
use Rattle.std.proofs.Common.{rules}
use mathlib.Core.Path.{◌≡◌, refl, sym, ◌∙◌, ap, subst}
use Rattle.meaning.specs.Graph.{known, Graph}
use Rattle.meaning.specs.Answers.{is_taken}
use Rattle.meaning.proofs.Taken.{Within}
use Rattle.std.specs.Prelude.{Err}
use Rattle.machine.proofs.Refusals.{otherwise}
use Rattle.refusals.specs.Faults.{verdict_of, fault_verdict}
use Rattle.reader.proofs.Verdicts.{file-verdict, within-file, known-file}
use Rattle.reader.proofs.take.Goals as goal

pub returns-in_err-header-clause-verdict : goal.returns-in_err-header-clause-verdict
unfolding otherwise verdict_of fault_verdict
returns-in_err-header-clause-verdict c =
    let e : c.from_residual.result ≡ Err c.in_err-header.field-0.0 = search rules in
    rw (file-verdict, ← c.header.ensures, c.in_err-header.was, e) refl

pub returns-in_err-judge-clause-verdict : goal.returns-in_err-judge-clause-verdict
unfolding otherwise verdict_of fault_verdict
returns-in_err-judge-clause-verdict c =
    let e : c.from_residual-in_err-judge.result ≡ Err c.in_err-judge.field-0.0 = search rules in
    rw (file-verdict, ← c.header.ensures, c.in_ok-header.was, ← c.of-graph.ensures.graph, ← c.judge.ensures, c.in_err-judge.was, e) refl

pub invariant_of-result : goal.invariant_of-result
unfolding verdict_of is_taken
invariant_of-result c =
    record {
      of_known = ap (λ (g : Graph). known g.edition) c.of-graph.ensures.graph ∙ known-file _ (sym c.header.ensures ∙ ap verdict_of c.in_ok-header.was);
      passes = rw (← c.judge.ensures, c.in_ok-judge.was) refl;
      within = subst Within (sym c.of-graph.ensures.graph) (within-file _ (sym c.header.ensures ∙ ap verdict_of c.in_ok-header.was));
    }

pub returns-clause-verdict : goal.returns-clause-verdict
unfolding otherwise verdict_of
returns-clause-verdict c =
    rw (file-verdict, ← c.header.ensures, c.in_ok-header.was, ← c.of-graph.ensures.graph, ← c.judge.ensures, c.in_ok-judge.was) refl
