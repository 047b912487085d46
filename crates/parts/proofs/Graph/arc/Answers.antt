-- `parts::Graph::arc` meets its contract. Assumes nothing.
use mathlib.Core.Path.{◌∙◌, ap}
use Rattle.meaning.specs.Graph.{byte_at, arc_bytes}
use Rattle.parts.specs.Fields.{kind_of}
use Rattle.parts.proofs.PartLaws.{arc_in}
use Rattle.parts.proofs.Graph.arc.Goals.{then-a-self, else-a-self}
use Rattle.parts.proofs.Graph.arc.Goals as goal

pub returns : goal.returns
unfolding byte_at arc_bytes
returns c =
    arc_in _ c.args.a c.record-record.result.now _ _ c.record-record.ensures
    (elim c.if-a-self.branch [ then-a-self w ↦ w.source-is | else-a-self w ↦ w.source-is ∙ w.padded.ensures ])
    c.from.ensures c.from-2.ensures (c.from-4.ensures ∙ ap kind_of c.from-3.ensures) c.from-5.ensures c.from-6.ensures
