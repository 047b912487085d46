-- `modeurwan::modeurwan_write` meets its contract. Assumes nothing.
use Rattle.std.proofs.Common.{sym, ◌∙◌, ap}
use Rattle.writer.specs.Promise.{values_of}
use Rattle.modeurwan.specs.Numbers.{number_of, place_of, writing_numbers}
use Rattle.modeurwan.proofs.modeurwan_write.Goals as goal

pub returns-in-Ok : goal.returns-in-Ok
unfolding number_of place_of writing_numbers values_of
returns-in-Ok c =
    rw (← c.from.ensures)
    (record {
      answers = ap writing_numbers (sym (ap values_of c.in-Ok.is) ∙ c.write.ensures.answers);
      writes = c.write.ensures.writes;
    })
