-- The graph and the table file of a claim.
use Rattle.std.specs.Prelude.{ℕ, List}
use Rattle.meaning.specs.Graph.{Graph}
use Rattle.parts.specs.Fields.{graph_in}
use Rattle.checker.specs.declared.claim.Claim.{Claim}

abbrev pub graph_of : Claim → Graph
graph_of c = graph_in c.taken.graph

abbrev pub file_of : Claim → List ℕ
file_of c = c.table.bytes.now
