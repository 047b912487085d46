-- What a listing in a lent buffer promises, and the functions that write its parts.
use Rattle.std.specs.Prelude.{ℕ, ◌+◌, ◌≤◌, ◌≡◌, cond, List, ◌++◌, length, drop, leb, Result, Ok, Err}
use Rattle.machine.specs.Refusals.{taken, refused}
use Rattle.meaning.specs.Answers.{Answer}
use Rattle.scheduler.specs.declared.Scheduled.{Scheduled}
use Rattle.text.specs.Writing.{laid}
use Rattle.listing.specs.declared.Page.{Page}

-- the values of an answer: the counts of a schedule, or a refusal by its number and its place
unfoldable pub answer_of : Result Scheduled (ℕ × ℕ) → Answer
answer_of (Ok schedule) =
    record { verdict = taken; cycles = schedule.cycles; rows = schedule.rows; states = schedule.states }
answer_of (Err fault) = record { verdict = refused fault.0 fault.1; cycles = 0; rows = 0; states = 0 }

-- The promise, for the text that is due: its length, and the buffer, which is as it was where it has no room for the text.
pub record Listed (text before after : List ℕ) (r : ℕ) : Type 0 where
  pub counts : r ≡ length text
  pub writes : after ≡ cond (leb (length text) (length before)) (text ++ drop (length text) before) before

-- Inside: the text stands in the buffer from `at` on, as far as that goes; it ends at r, so it is no longer than `most`.
pub record Put (most : ℕ) (before : List ℕ) (at : ℕ) (text after : List ℕ) (r : ℕ) : Type 0 where
  pub writes : after ≡ laid before at text
  pub ends : r ≡ at + length text
  pub near : r ≤ at + most

-- Inside: a page has this text behind what it had, in the same buffer.
pub record Adds (most : ℕ) (before : Page) (text : List ℕ) (after : Page) : Type 0 where
  pub same : after.out.ghost_name ≡ before.out.ghost_name
  pub put : Put most before.out.now before.end text after.out.now after.end
