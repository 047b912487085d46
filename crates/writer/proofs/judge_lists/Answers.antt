-- `writer::judge_lists` meets its contract: each line counts where those before it pass. Assumes nothing.
use Rattle.std.proofs.Common.{rules}
use mathlib.Core.Path.{◌≡◌, refl}
use mathlib.Core.Bool.{not}
use mathlib.Core.List.{[], ◌∷◌}
use Rattle.std.specs.Prelude.{Err}
use Rattle.machine.specs.Refusals.{placeless, judge}
use Rattle.machine.proofs.Refusals.{otherwise}
use Rattle.meaning.specs.Graph.{Graph, known, too_many, operation_count, class_count, control_count, arc_count}
use Rattle.meaning.specs.Writer.{torn}
use Rattle.parts.specs.Fields.{graph_in}
use Rattle.refusals.specs.Faults.{number_of, verdict_of, fault_verdict}
use Rattle.writer.proofs.Verdicts.{list-verdict}
use Rattle.writer.proofs.judge_lists.Goals as goal

pub returns-in_err-refuse_if : goal.returns-in_err-refuse_if
unfolding otherwise number_of verdict_of fault_verdict
returns-in_err-refuse_if c =
    let g : Graph = graph_in c.args.graph.now in
    let two : verdict_of c.refuse_if.result ≡ judge (placeless 2 (not (known g.edition)) ∷ []) = search rules in
    let e : c.from_residual.result ≡ Err c.in_err-refuse_if.field-0.0 = search rules in
    rw (list-verdict, ← two, c.in_err-refuse_if.was, e) refl

pub returns-in_err-refuse_if-2 : goal.returns-in_err-refuse_if-2
unfolding otherwise number_of verdict_of fault_verdict
returns-in_err-refuse_if-2 c =
    let g : Graph = graph_in c.args.graph.now in
    let two : verdict_of c.refuse_if.result ≡ judge (placeless 2 (not (known g.edition)) ∷ []) = search rules in
    let three : verdict_of c.refuse_if-2.result
    ≡ judge (placeless 3 (too_many g.edition (operation_count g) (class_count g) (control_count g) (arc_count g)) ∷ [])
    = search rules in
    let e : c.from_residual-in_err-refuse_if-2.result ≡ Err c.in_err-refuse_if-2.field-0.0 = search rules in
    rw (list-verdict, ← two, c.in_ok-refuse_if.was, ← three, c.in_err-refuse_if-2.was, e) refl

pub returns : goal.returns
unfolding otherwise number_of verdict_of fault_verdict
returns c =
    let g : Graph = graph_in c.args.graph.now in
    let two : verdict_of c.refuse_if.result ≡ judge (placeless 2 (not (known g.edition)) ∷ []) = search rules in
    let three : verdict_of c.refuse_if-2.result
    ≡ judge (placeless 3 (too_many g.edition (operation_count g) (class_count g) (control_count g) (arc_count g)) ∷ [])
    = search rules in
    let five : verdict_of c.refuse_if-3.result ≡ judge (placeless 5 (torn g.edition g.operations g.arcs) ∷ []) = search rules in
    rw (list-verdict, ← two, c.in_ok-refuse_if.was, ← three, c.in_ok-refuse_if-2.was, ← five) refl
