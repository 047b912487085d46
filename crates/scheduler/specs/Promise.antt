-- The number and the values of each answer of the scheduler, and its promise.
use Rattle.std.specs.Prelude.{ℕ, ◌≤◌, ◌<◌, ◌≡◌, cond, List, [], ◌∷◌, ◌++◌, length, drop, ltb, Result, Ok, Err}
use Rattle.machine.specs.Refusals.{Line, taken, refused, placeless, judge}
use Rattle.machine.specs.Machine.{remaining, state_count}
use Rattle.machine.specs.Tables.{schedule_rows}
use Rattle.meaning.specs.Graph.{Graph}
use Rattle.meaning.specs.Steps.{machine_of}
use Rattle.meaning.specs.TableFile.{row_start, row_files, schedule_file}
use Rattle.meaning.specs.Answers.{Answer, answer, is_taken, schedule_lines, scheduler, slots_after, table_after}
use Rattle.scheduler.specs.Slots.{Holds}
use Rattle.scheduler.specs.Search.{Store}
use Rattle.scheduler.specs.Writing.{written}
use Rattle.refusals.specs.declared.Fault.{Fault}
use Rattle.refusals.specs.Faults.{fault_verdict}
use Rattle.scheduler.specs.declared.Scheduled.{Scheduled}

unfoldable pub values_of : Result Scheduled Fault → Answer
values_of (Err fault) = record { verdict = fault_verdict fault; cycles = 0; rows = 0; states = 0 }
values_of (Ok schedule) =
    record { verdict = taken; cycles = schedule.cycles; rows = schedule.rows; states = schedule.states }

-- The promise: the answer and both buffers afterwards, for any graph file, slots and table buffer.
pub record Promised (file slots table : List ℕ) (r : Result Scheduled Fault) (slots_last table_last : List ℕ) : Type 0 where
  pub answers : values_of r ≡ scheduler file slots table
  pub clears : slots_last ≡ slots_after file slots table
  pub writes : table_last ≡ table_after file slots table

-- Inside: the answer and the table buffer of a graph, for the lines that are left of the refusal table.
pub record Answered (g : Graph) (lines : List Line) (states : ℕ) (before after : List ℕ) (r : Result Scheduled Fault) : Type 0 where
  pub answers : values_of r ≡ answer (judge lines) (remaining (machine_of g) (machine_of g).start) (length (schedule_rows (machine_of g))) states
  pub writes : after ≡ cond (is_taken (judge lines)) (schedule_file g ++ drop (length (schedule_file g)) before) before

-- refusals 13 and 14
unfoldable pub later_lines : Graph → ℕ → List Line
later_lines g room =
    placeless 13 (ltb (machine_of g).horizon (remaining (machine_of g) (machine_of g).start))
    ∷ placeless 14 (ltb room (length (schedule_file g))) ∷ []

-- the rows are counted, and written behind the place of the header
pub record RowsIn (g : Graph) (before after : List ℕ) (rows : ℕ) : Type 0 where
  pub count : rows ≡ length (schedule_rows (machine_of g))
  pub table : after ≡ written before (row_start g.edition 1) (row_files g (schedule_rows (machine_of g)))
  pub room : length (schedule_file g) ≤ length before

-- the buffer is too short and is as it was
pub record NoRoom (g : Graph) (before after : List ℕ) (fault : Fault) : Type 0 where
  pub verdict : fault_verdict fault ≡ refused 14 0
  pub table : after ≡ before
  pub short : length before < length (schedule_file g)

-- and what it gives: the rows, or that there is no room for them
abbrev pub FillGives : Graph → List ℕ → List ℕ → Result ℕ Fault → Type 0
FillGives g before after (Err fault) = NoRoom g before after fault
FillGives g before after (Ok rows) = RowsIn g before after rows

-- what laying the table asks: the reachable states are held, the start with this number
pub record LayAsks (g : Graph) (slots : List ℕ) (number : ℕ) : Type 0 where
  pub store : Store g slots
  pub held : Holds slots (machine_of g).start number

-- and what it gives
abbrev pub LayGives : Graph → ℕ → List ℕ → List ℕ → Result Scheduled Fault → Type 0
LayGives g states before after r = Answered g (later_lines g (length before)) states before after r

-- what is given for a graph that passes refusals 1 to 11, with so many slots
abbrev pub SolveGives : Graph → ℕ → List ℕ → List ℕ → Result Scheduled Fault → Type 0
SolveGives g lent before after r = Answered g (schedule_lines g lent (length before)) (state_count (machine_of g)) before after r
