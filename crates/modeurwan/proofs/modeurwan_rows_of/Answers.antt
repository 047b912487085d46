-- `modeurwan::modeurwan_rows_of` meets its contract. Assumes nothing.
use Rattle.std.proofs.Common.{ap}
use Rattle.checker.specs.Checked.{part_of}
use Rattle.modeurwan.specs.Numbers.{part_numbers}
use Rattle.modeurwan.proofs.modeurwan_rows_of.Goals as goal

pub returns : goal.returns
unfolding part_of part_numbers
returns c = ap part_numbers c.span_of-span.ensures
