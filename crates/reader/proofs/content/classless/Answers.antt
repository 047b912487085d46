-- `reader::content::classless` meets its contract. Assumes nothing.
use mathlib.Core.Path.{refl}
use Rattle.meaning.specs.Graph.{content_lines, class_count}
use Rattle.reader.specs.Reading.{line_of}
use Rattle.reader.proofs.content.classless.Goals as goal

pub returns : goal.returns
unfolding content_lines class_count line_of
returns c = rw c.operation.ensures.class refl
