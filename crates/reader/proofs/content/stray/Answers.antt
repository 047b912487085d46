-- `reader::content::stray` meets its contract. Assumes nothing.
use mathlib.Core.Path.{refl}
use Rattle.meaning.specs.Graph.{stray_path, control_count}
use Rattle.reader.proofs.content.stray.Goals as goal

pub returns-then-names : goal.returns-then-names
unfolding stray_path control_count
returns-then-names c =
    rw (
      ← c.operation.ensures.path,
      ← c.names.ensures,
      c.if-names.true,
      c.lacks.ensures,
      c.operation-then-names.ensures.path,
      c.operation.ensures.path,
      c.producer-above.ensures,
    ) refl

pub returns-else-names : goal.returns-else-names
unfolding stray_path
returns-else-names c = rw (← c.operation.ensures.path, ← c.names.ensures, c.if-names.false) refl
