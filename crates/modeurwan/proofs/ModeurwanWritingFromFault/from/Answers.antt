-- `modeurwan::ModeurwanWriting::from` meets its contract. Assumes nothing.
use Rattle.std.proofs.Common.{refl}
use Rattle.writer.specs.Promise.{values_of}
use Rattle.modeurwan.specs.Numbers.{writing_numbers}
use Rattle.modeurwan.proofs.ModeurwanWritingFromFault.from.Goals as goal

pub returns : goal.returns
unfolding writing_numbers values_of
returns c = rw c.numbers-number.ensures refl
