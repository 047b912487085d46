-- `reader::header::misplaced` meets its contract. Assumes nothing.
use mathlib.Core.Path.{refl}
use Rattle.meaning.specs.Graph.{file_lines}
use Rattle.reader.specs.Reading.{line_of}
use Rattle.reader.proofs.header.misplaced.Goals as goal

pub returns : goal.returns
unfolding file_lines line_of
returns c =
    let s = c.of_header-starts.ensures in
    rw (
      c.pair-4.ensures.right,
      c.pair-3.ensures.right,
      c.pair-2.ensures.right,
      c.pair.ensures.right,
      s.operations.right,
      s.controls.right,
      s.arcs.right,
    ) refl
