-- `modeurwan::ModeurwanAnswer::from` meets its contract. Assumes nothing.
use Rattle.std.proofs.Common.{refl}
use Rattle.checker.specs.Checked.{values_of}
use Rattle.modeurwan.specs.Numbers.{answer_numbers}
use Rattle.modeurwan.proofs.ModeurwanAnswerFromFault.from.Goals as goal

pub returns : goal.returns
unfolding answer_numbers values_of
returns c = rw c.numbers-number.ensures refl
