-- `reader::content::mispathed` meets its contract. Assumes nothing.
use mathlib.Core.Path.{refl}
use Rattle.meaning.specs.Graph.{content_lines, control_count}
use Rattle.reader.specs.Reading.{line_of}
use Rattle.reader.proofs.content.mispathed.Goals as goal

pub returns : goal.returns
unfolding content_lines control_count line_of
returns c = rw (c.misnamed.ensures, c.operation.ensures.path) refl
