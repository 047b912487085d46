-- `reader::header::unmarked` meets its contract. Assumes nothing.
use mathlib.Core.Path.{refl}
use Rattle.meaning.specs.Graph.{file_lines, content}
use Rattle.reader.specs.Reading.{line_of}
use Rattle.reader.proofs.header.unmarked.Goals as goal

pub returns : goal.returns
unfolding file_lines content line_of
returns c = rw (c.known.ensures, c.edition.ensures.right, c.byte-2.ensures.right, c.byte.ensures.right) refl
