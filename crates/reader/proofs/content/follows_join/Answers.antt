-- `reader::content::follows_join` meets its contract. Assumes nothing.
use mathlib.Core.Path.{refl}
use Rattle.meaning.specs.Graph.{follows_join}
use Rattle.parts.specs.Fields.{literals_of}
use Rattle.parts.proofs.PartLaws.{follow_is}
use Rattle.reader.proofs.content.follows_join.Goals as goal

pub returns : goal.returns
unfolding follows_join literals_of
returns c g a is = rw (c.is_follow.ensures, is.kind, follow_is, ← is.joins) refl
