-- `parts::edition` meets its contract. Assumes nothing.
use Rattle.meaning.specs.Graph.{content, edition_of}
use Rattle.parts.proofs.edition.Goals as goal

pub returns : goal.returns
unfolding content edition_of
returns c = c.byte.ensures
