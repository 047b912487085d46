-- `writer::layout::Layout::header` meets its contract: the edition and the counts of operations, classes and controls are bytes, and nothing stands
-- behind two of them. Assumes nothing.
use native.Mathlib.Omega.{arith}
use mathlib.Core.Path.{refl}
use lib.Dec.{eqb→eq}
use Rattle.meaning.specs.Graph.{known, class_count, control_count}
use Rattle.meaning.specs.TableFile.{bytes_of}
use Rattle.meaning.specs.Writer.{graph_header}
use Rattle.meaning.proofs.Taken.{counts-small, few-arcs}
use Rattle.writer.proofs.FileLaws.{file_short}
use Rattle.writer.proofs.layout.Layout.header.Goals as goal

pub pair-requires : goal.pair-requires
pair-requires c = omega (arith, c.counts-counts.ensures.arcs, few-arcs c.args.self.now.listed.within)

pub pair-requires-3 : goal.pair-requires-3
pair-requires-3 c = omega (arith, c.args.self.now.stands.operations-at, file_short c.args.self.now.listed)

pub pair-requires-4 : goal.pair-requires-4
pair-requires-4 c = omega (arith, c.args.self.now.stands.controls-at, file_short c.args.self.now.listed)

pub pair-requires-5 : goal.pair-requires-5
pair-requires-5 c = omega (arith, c.args.self.now.stands.arcs-at, file_short c.args.self.now.listed)

pub overflow_cast-result : goal.overflow_cast-result
unfolding known
overflow_cast-result c = omega (arith, eqb→eq _ 1 c.args.self.now.listed.edition-known)

pub overflow_cast-result-2 : goal.overflow_cast-result-2
overflow_cast-result-2 c = omega (arith, c.counts-counts.ensures.operations, (counts-small c.args.self.now.listed.within).0)

pub overflow_cast-result-3 : goal.overflow_cast-result-3
overflow_cast-result-3 c = omega (arith, c.counts-counts.ensures.classes, (counts-small c.args.self.now.listed.within).1)

pub overflow_cast-result-4 : goal.overflow_cast-result-4
overflow_cast-result-4 c = omega (arith, c.counts-counts.ensures.controls, (counts-small c.args.self.now.listed.within).2)

pub returns : goal.returns
unfolding graph_header bytes_of class_count control_count
returns c =
    let n = c.counts-counts.ensures in
    let s = c.args.self.now.stands in
    rw (
      c.pair-5.ensures,
      c.pair-4.ensures,
      c.pair-3.ensures,
      c.pair-2.ensures,
      c.pair.ensures,
      n.operations,
      n.classes,
      n.controls,
      n.arcs,
      s.operations-at,
      s.controls-at,
      s.arcs-at,
    ) refl
