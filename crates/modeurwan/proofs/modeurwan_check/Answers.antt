-- `modeurwan::modeurwan_check` meets its contract. Assumes nothing.
use Rattle.std.proofs.Common.{sym, ◌∙◌, ap}
use Rattle.checker.specs.Checked.{values_of}
use Rattle.modeurwan.specs.Numbers.{number_of, place_of, answer_numbers}
use Rattle.modeurwan.proofs.modeurwan_check.Goals as goal

pub returns-in-Ok : goal.returns-in-Ok
unfolding number_of place_of answer_numbers values_of
returns-in-Ok c = ap answer_numbers (sym (ap values_of c.in-Ok.is) ∙ c.check.ensures)
