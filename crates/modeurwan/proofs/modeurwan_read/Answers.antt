-- `modeurwan::modeurwan_read` meets its contract. Assumes nothing.
use Rattle.std.proofs.Common.{sym, ◌∙◌, ap}
use Rattle.reader.specs.Reading.{values_of}
use Rattle.modeurwan.specs.Numbers.{number_of, place_of, reading_numbers}
use Rattle.modeurwan.proofs.modeurwan_read.Goals as goal

pub returns-in-Ok : goal.returns-in-Ok
unfolding number_of place_of reading_numbers values_of
returns-in-Ok c = ap reading_numbers (sym (ap values_of c.in-Ok.is) ∙ c.read_graph.ensures)
