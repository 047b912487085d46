-- `writer::layout::Layout::put` meets its contract. Assumes nothing.
use mathlib.Core.Path.{refl, ◌∙◌}
use Rattle.meaning.specs.TableFile.{bytes_of}
use Rattle.meaning.specs.Writer.{graph_header, graph_file}
use Rattle.parts.specs.Fields.{graph_in}
use Rattle.writer.proofs.FileLaws.{parts_laid}
use Rattle.writer.proofs.layout.Layout.put.Goals as goal

pub returns : goal.returns
unfolding graph_file graph_header bytes_of
returns c =
    let a = c.args in
    parts_laid (graph_in a.self.now.graph) a.output.now c.header-header.result (rw c.header-header.ensures refl) a.self.now.stands
    c.put.ensures c.put-2.ensures c.put-3.ensures c.put-4.ensures c.put-5.ensures ∙ rw c.header-header.ensures refl
