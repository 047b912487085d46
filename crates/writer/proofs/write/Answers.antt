-- `writer::write` meets its contract. Assumes nothing.
use Rattle.std.proofs.Common.{rules}
use mathlib.Core.Path.{◌≡◌, refl}
use Rattle.machine.specs.Refusals.{taken, judge}
use Rattle.machine.proofs.Refusals.{otherwise}
use Rattle.meaning.specs.Graph.{Graph, content_lines}
use Rattle.meaning.specs.Writer.{list_lines}
use Rattle.parts.specs.Fields.{graph_in}
use Rattle.refusals.specs.Faults.{number_of, verdict_of, fault_verdict}
use Rattle.writer.proofs.FileLaws.{file_ends}
use Rattle.writer.proofs.Verdicts.{whole-verdict, refused_promised, done_promised}
use Rattle.writer.proofs.write.Goals as goal

pub returns-in_err-layout : goal.returns-in_err-layout
unfolding otherwise verdict_of fault_verdict
returns-in_err-layout c =
    let g : Graph = graph_in c.args.graph.now in
    refused_promised g c.args.output.now c.in_err-layout.field-0.0 (search rules)
    (rw (whole-verdict, ← c.of.ensures.verdict, c.in_err-layout.was) refl)

pub returns-in_err-judge : goal.returns-in_err-judge
unfolding otherwise verdict_of fault_verdict
returns-in_err-judge c =
    let g : Graph = graph_in c.args.graph.now in
    refused_promised g c.args.output.now c.in_err-judge.field-0.0 (search rules)
    (rw (whole-verdict, ← c.of.ensures.verdict, c.in_ok-layout.was, ← c.judge.ensures, c.in_err-judge.was) refl)

pub returns-in_err-refuse_if : goal.returns-in_err-refuse_if
unfolding otherwise number_of verdict_of fault_verdict
returns-in_err-refuse_if c =
    let g : Graph = graph_in c.args.graph.now in
    let same : graph_in c.in_ok-layout.layout.graph ≡ g = search rules in
    let lists : judge (list_lines g) ≡ taken = search rules in
    let content : judge (content_lines g) ≡ taken = search rules in
    refused_promised g c.args.output.now c.in_err-refuse_if.field-0.0 (search rules)
    (rw (whole-verdict, lists, content, ← file_ends same c.in_ok-layout.layout.stands, ← c.refuse_if.ensures, c.in_err-refuse_if.was) refl)

pub returns : goal.returns
unfolding otherwise number_of verdict_of fault_verdict
returns c =
    let g : Graph = graph_in c.args.graph.now in
    let same : graph_in c.in_ok-layout.layout.graph ≡ g = search rules in
    let lists : judge (list_lines g) ≡ taken = search rules in
    let content : judge (content_lines g) ≡ taken = search rules in
    let end = file_ends same c.in_ok-layout.layout.stands in
    done_promised g c.args.output.now
    (rw (whole-verdict, lists, content, ← end, ← c.refuse_if.ensures, c.in_ok-refuse_if.was) refl) end
    (rw (← same) c.put.ensures)
