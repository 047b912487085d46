-- `reader::header::overfull` meets its contract. Assumes nothing.
use mathlib.Core.Path.{refl, ◌∙◌}
use Rattle.meaning.specs.Graph.{file_lines, content}
use Rattle.reader.specs.Reading.{line_of}
use Rattle.reader.proofs.header.overfull.Goals as goal

pub returns : goal.returns
unfolding file_lines content line_of
returns c =
    let n = c.of_header.ensures in
    c.too_many.ensures ∙ rw (c.edition.ensures.right, n.operations, n.classes, n.controls, n.arcs) refl
