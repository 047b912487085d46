-- `modeurwan::modeurwan_schedule` meets its contract. Assumes nothing.
use Rattle.std.proofs.Common.{sym, ◌∙◌, ap}
use Rattle.checker.specs.Checked.{values_of as checking_of}
use Rattle.scheduler.specs.Promise.{values_of}
use Rattle.modeurwan.specs.Numbers.{number_of, place_of, answer_numbers}
use Rattle.modeurwan.proofs.modeurwan_schedule.Goals as goal

pub returns-in-Err : goal.returns-in-Err
unfolding values_of checking_of
returns-in-Err c =
    record {
      answers = c.from.ensures ∙ ap answer_numbers (sym (ap values_of c.in-Err.is) ∙ c.schedule.ensures.answers);
      clears = c.schedule.ensures.clears;
      writes = c.schedule.ensures.writes;
    }

pub returns-in-Ok : goal.returns-in-Ok
unfolding number_of place_of answer_numbers values_of
returns-in-Ok c =
    record {
      answers = ap answer_numbers (sym (ap values_of c.in-Ok.is) ∙ c.schedule.ensures.answers);
      clears = c.schedule.ensures.clears;
      writes = c.schedule.ensures.writes;
    }
