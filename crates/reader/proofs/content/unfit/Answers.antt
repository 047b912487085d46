-- `reader::content::unfit` meets its contract. Assumes nothing.
use mathlib.Core.Path.{refl}
use Rattle.meaning.specs.Graph.{content_lines, control_count}
use Rattle.parts.proofs.PartLaws.{unknown_is}
use Rattle.reader.specs.Reading.{line_of}
use Rattle.reader.proofs.content.unfit.Goals as goal

pub returns : goal.returns
unfolding content_lines control_count line_of
returns c =
    let arc = c.arc-arc.ensures in
    rw (
      c.unordered.ensures,
      c.follows_join.ensures _ _ arc,
      c.misnamed.ensures,
      arc.joins,
      c.is_unknown.ensures,
      arc.kind,
      unknown_is,
      c.operation_count.ensures,
      arc.source,
      arc.target,
    ) refl
