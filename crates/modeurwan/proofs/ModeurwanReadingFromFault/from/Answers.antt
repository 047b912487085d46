-- `modeurwan::ModeurwanReading::from` meets its contract. Assumes nothing.
use Rattle.std.proofs.Common.{refl}
use Rattle.reader.specs.Reading.{values_of}
use Rattle.modeurwan.specs.Numbers.{reading_numbers}
use Rattle.modeurwan.proofs.ModeurwanReadingFromFault.from.Goals as goal

pub returns : goal.returns
unfolding reading_numbers values_of
returns c = rw c.numbers-number.ensures refl
