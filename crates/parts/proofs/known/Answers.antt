-- `parts::known` meets its contract. Assumes nothing.
use mathlib.Core.Path.{refl}
use Rattle.meaning.specs.Graph.{known}
use Rattle.parts.proofs.known.Goals as goal

pub returns : goal.returns
unfolding known
returns c = refl
