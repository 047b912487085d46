-- `reader::content::classes` meets its contract. Assumes nothing.
use Rattle.std.proofs.Common.{rules}
use Rattle.meaning.specs.Graph.{content_lines, control_count}
use Rattle.parts.specs.Fields.{graph_in}
use Rattle.refusals.specs.Faults.{number_of}
use Rattle.reader.specs.Reading.{fault_at, line_of}
use Rattle.reader.proofs.content.classes.Goals as goal

pub returns : goal.returns
unfolding content_lines line_of control_count number_of
returns c =
    rw c.operation_count.ensures at c.first_fault.ensures (fault_at 6 (graph_in c.args.graph.now)) (λ p r l h. search rules)
