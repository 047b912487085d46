-- `reader::read_graph` meets its contract. Assumes nothing.
use Rattle.std.proofs.Common.{rules}
use mathlib.Core.Path.{◌≡◌, refl}
use Rattle.std.specs.Prelude.{Err}
use Rattle.meaning.specs.Answers.{reader, reading}
use Rattle.refusals.specs.Faults.{verdict_of, fault_verdict}
use Rattle.reader.specs.Reading.{values_of}
use Rattle.reader.proofs.read_graph.Goals as goal

pub returns-in_err-take : goal.returns-in_err-take
unfolding values_of verdict_of fault_verdict reader reading
returns-in_err-take c =
    let e : c.from_residual.result ≡ Err c.in_err-take.field-0.0 = search rules in
    rw (← c.take.ensures.verdict, c.in_err-take.was, e) refl

pub returns : goal.returns
unfolding values_of verdict_of reader reading
returns c =
    let n = c.of_header.ensures in
    rw (← c.take.ensures.verdict, c.in_ok-take.was, n.operations, n.classes, n.controls, n.arcs) refl
