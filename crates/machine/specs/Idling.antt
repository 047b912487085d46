-- Any rule of steps with empty steps permitted.
use Rattle.std.specs.Prelude.{Bool, ◌&&◌, ◌||◌, eqb}
use Rattle.machine.specs.Machine.{Machine}

-- The machine with empty steps: a step is legal, or it is empty, that is the number 0, in a state where nothing is demanded.
-- All else is as it was. A run may now wait as often as it likes, so none is bounded by the horizon.
abbrev pub idling : (M : Machine) → (M.State → Bool) → Machine
idling M quiet =
    record {
      State = M.State;
      start = M.start;
      complete = M.complete;
      legal = λ s x. M.legal s x || (eqb x 0 && quiet s);
      next = M.next;
      same = M.same;
      before = M.before;
      word = M.word;
      steps = M.steps;
      words = M.words;
      horizon = M.horizon;
    }
