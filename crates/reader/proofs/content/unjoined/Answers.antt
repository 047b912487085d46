-- `reader::content::unjoined` meets its contract. Assumes nothing.
use mathlib.Core.Path.{refl}
use Rattle.meaning.specs.Graph.{content_lines, control_count}
use Rattle.reader.specs.Reading.{line_of}
use Rattle.reader.proofs.content.unjoined.Goals as goal

pub returns : goal.returns
unfolding content_lines control_count line_of
returns c =
    let arc = c.arc-arc.ensures in
    rw (c.lacks.ensures, c.operation-2.ensures.path, c.operation.ensures.path, arc.source, arc.target, arc.joins) refl
