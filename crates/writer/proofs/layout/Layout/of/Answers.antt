-- `writer::layout::Layout::of` meets its contract. Assumes nothing.
use Rattle.std.proofs.Common.{rules}
use mathlib.Core.Path.{◌≡◌, refl}
use Rattle.std.specs.Prelude.{Err}
use Rattle.meaning.proofs.Writer.{listed_exactly}
use Rattle.parts.specs.Fields.{graph_in}
use Rattle.refusals.specs.Faults.{verdict_of, fault_verdict}
use Rattle.writer.proofs.FileLaws.{file_short}
use Rattle.writer.proofs.layout.Layout.of.Goals as goal

pub returns-in_err-judge_lists-clause-verdict : goal.returns-in_err-judge_lists-clause-verdict
unfolding verdict_of fault_verdict
returns-in_err-judge_lists-clause-verdict c =
    let e : c.from_residual.result ≡ Err c.in_err-judge_lists.field-0.0 = search rules in
    rw (← c.judge_lists.ensures, c.in_err-judge_lists.was, e) refl

pub starts_of-starts-requires : goal.starts_of-starts-requires
unfolding verdict_of
starts_of-starts-requires c = file_short ((listed_exactly (graph_in c.args.graph.now)).0 (search rules))

pub invariant_of-result : goal.invariant_of-result
unfolding verdict_of
invariant_of-result c =
    record { listed = (listed_exactly (graph_in c.args.graph.now)).0 (search rules); stands = c.starts_of-starts.ensures }

pub returns-clause-verdict : goal.returns-clause-verdict
unfolding verdict_of
returns-clause-verdict c = rw (← c.judge_lists.ensures, c.in_ok-judge_lists.was) refl
