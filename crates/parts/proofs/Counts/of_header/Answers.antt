-- `parts::Counts::of_header` meets its contract. Assumes nothing.
use Rattle.meaning.specs.Graph.{operations_of, classes_of, controls_of, arcs_of}
use Rattle.parts.proofs.Counts.of_header.Goals as goal

pub returns : goal.returns
unfolding operations_of classes_of controls_of arcs_of
returns c = record {
  operations = c.byte.ensures.right;
  classes = c.byte-2.ensures.right;
  controls = c.byte-3.ensures.right;
  arcs = c.pair.ensures.right;
  operations-small = c.byte.ensures.small;
  classes-small = c.byte-2.ensures.small;
  controls-small = c.byte-3.ensures.small;
  arcs-small = c.pair.ensures.small;
}
