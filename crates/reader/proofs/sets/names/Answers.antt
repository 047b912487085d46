-- `reader::sets::names` meets its contract. Assumes nothing.
use mathlib.Core.Path.{refl}
use Rattle.meaning.specs.Graph.{names}
use Rattle.parts.specs.Fields.{literals_of}
use Rattle.reader.proofs.sets.names.Goals as goal

pub returns : goal.returns
unfolding names literals_of
returns c = rw (c.has-2.ensures, c.has.ensures) refl
