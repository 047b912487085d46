-- `parts::Graph::operation` meets its contract. Assumes nothing.
use Prim.Native.Nat.{ℕ}
use mathlib.Core.Path.{◌∙◌, ap}
use mathlib.Core.List.{List, [], ◌∷◌}
use lib.ListN.{get_or}
use Rattle.meaning.specs.Graph.{byte_at}
use Rattle.parts.proofs.PartLaws.{operation_in}
use Rattle.parts.proofs.Graph.operation.Goals.{then-j-self, else-j-self}
use Rattle.parts.proofs.Graph.operation.Goals as goal

pub returns : goal.returns
unfolding byte_at
returns c =
    operation_in _ c.args.j c.record-record.result.now _ c.operation_bytes-size.result _ c.operation_bytes-size.ensures c.record-record.ensures
    (elim c.if-j-self.branch [
      | then-j-self w ↦ w.class-is
      | else-j-self w ↦ w.class-is ∙ ap (λ (l : List ℕ). get_or l 0 0 ∷ get_or l 1 0 ∷ get_or l 2 0 ∷ []) w.padded.ensures
    ])
    c.from.ensures c.from-2.ensures c.from-3.ensures
