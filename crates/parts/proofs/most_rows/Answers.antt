-- `parts::most_rows` meets its contract. Assumes nothing.
use mathlib.Core.Path.{refl}
use Rattle.meaning.specs.TableFile.{most_rows}
use Rattle.parts.proofs.most_rows.Goals as goal

pub returns : goal.returns
unfolding most_rows
returns c = refl
