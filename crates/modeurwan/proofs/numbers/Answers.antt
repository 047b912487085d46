-- `modeurwan::numbers` meets its contract. Assumes nothing.
use Rattle.std.proofs.Common.{refl}
use Rattle.refusals.specs.Faults.{fault_verdict}
use Rattle.modeurwan.specs.Numbers.{number_of, place_of}
use Rattle.modeurwan.proofs.numbers.Goals as goal

pub returns : goal.returns
unfolding number_of place_of fault_verdict
returns c = rw c.number.ensures refl
