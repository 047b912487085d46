-- What the scheduler, the checker and the query answer, and what the lent buffers hold afterwards.
use Rattle.std.specs.Prelude.{ℕ, suc, Bool, true, false, cond, ◌||◌, List, [], ◌∷◌, ◌++◌, length, drop, replicate, eqb, ltb}
use Rattle.machine.specs.Sets.{count_below}
use Rattle.machine.specs.Refusals.{Line, placeless, Verdict, taken, refused, judge}
use Rattle.machine.specs.Machine.{remaining, state_count}
use Rattle.machine.specs.Tables.{schedule_rows, order_line, sound_lines}
use Rattle.meaning.specs.Graph.{Graph, operations_of, classes_of, controls_of, arcs_of, file_lines, content, content_lines}
use Rattle.meaning.specs.Steps.{machine_of}
use Rattle.meaning.specs.TableFile.{cycles_of, rows_of, row_start, layout_line, table_in, schedule_file}

-- What scheduler and checker answer: the verdict with its counts, which are zero after a refusal.
pub record Answer : Type 0 where
  pub verdict : Verdict
  pub cycles : ℕ
  pub rows : ℕ
  pub states : ℕ

unfoldable pub answer : Verdict → ℕ → ℕ → ℕ → Answer
answer taken cycles rows states = record { verdict = taken; cycles = cycles; rows = rows; states = states }
answer (refused k p) cycles rows states = record { verdict = refused k p; cycles = 0; rows = 0; states = 0 }

unfoldable pub is_taken : Verdict → Bool
is_taken taken = true
is_taken (refused k p) = false

-- Refusals 1 to 11.
unfoldable pub graph_lines : List ℕ → List Line
graph_lines file = file_lines file ++ content_lines (content file)

unfoldable pub graph_verdict : List ℕ → Verdict
graph_verdict file = judge (graph_lines file)

-- What the reader answers: the verdict with the graph's counts, which are zero after a refusal.
pub record Reading : Type 0 where
  pub verdict : Verdict
  pub operations : ℕ
  pub classes : ℕ
  pub controls : ℕ
  pub arcs : ℕ

unfoldable pub reading : Verdict → ℕ → ℕ → ℕ → ℕ → Reading
reading taken n k c a = record { verdict = taken; operations = n; classes = k; controls = c; arcs = a }
reading (refused number p) n k c a =
    record { verdict = refused number p; operations = 0; classes = 0; controls = 0; arcs = 0 }

-- The reader, for a graph file.
unfoldable pub reader : List ℕ → Reading
reader file = reading (graph_verdict file) (operations_of file) (classes_of file) (controls_of file) (arcs_of file)

-- Refusals 12 to 14, for the slots lent and the length of the lent table buffer.
unfoldable pub schedule_lines : Graph → ℕ → ℕ → List Line
schedule_lines g slots room =
    placeless 12 (ltb slots (state_count (machine_of g)))
    ∷ placeless 13 (ltb (machine_of g).horizon (remaining (machine_of g) (machine_of g).start))
    ∷ placeless 14 (ltb room (length (schedule_file g)))
    ∷ []

-- The scheduler, for a graph file, the slots and the table buffer lent.
module _ (file slots table : List ℕ) where
  unfoldable pub schedule_verdict : Verdict
  schedule_verdict = judge (graph_lines file ++ schedule_lines (content file) (length slots) (length table))

  unfoldable pub scheduler : Answer
  scheduler =
      let M = machine_of (content file) in
      answer schedule_verdict (remaining M M.start) (length (schedule_rows M)) (state_count M)

  -- the slots afterwards: as they were after 1 to 11, else zero
  unfoldable pub slots_after : List ℕ
  slots_after = cond (is_taken (graph_verdict file)) (replicate (length slots) 0) slots

  -- the table buffer afterwards: after success the schedule's file and then what stood there, else as it was
  unfoldable pub table_after : List ℕ
  table_after =
      let written = schedule_file (content file) in
      cond (is_taken schedule_verdict) (written ++ drop (length written) table) table

-- Refusals 15 to 20.
unfoldable pub table_lines : Graph → List ℕ → List Line
table_lines g table =
    layout_line g.edition table ∷ order_line (machine_of g) (table_in g table) ∷ sound_lines (machine_of g) (table_in g table)

-- The checker, for a graph file and a table file.
module _ (file table : List ℕ) where
  unfoldable pub check_verdict : Verdict
  check_verdict = judge (graph_lines file ++ table_lines (content file) table)

  unfoldable pub checker : Answer
  checker = answer check_verdict (cycles_of table) (rows_of table) 0

  -- where the rows of cycles before t end
  unfoldable pub cycle_start : ℕ → ℕ
  cycle_start t =
      let rows = table_in (content file) table in
      row_start (content file).edition (suc (count_below rows.rows (λ i. ltb (rows.row (suc i)).cycle t)))

-- a part of the lent table: from a byte on, up to and without another
pub record Part : Type 0 where
  pub start : ℕ
  pub end : ℕ

-- The rows of one cycle.
unfoldable pub rows_of_cycle : List ℕ → List ℕ → ℕ → Part
rows_of_cycle file table t =
    cond (is_taken (check_verdict file table))
    (cond (eqb t 0 || ltb (cycles_of table) t)
    (record { start = length table; end = length table })
    (record { start = cycle_start file table t; end = cycle_start file table (suc t) }))
    (record { start = 0; end = 0 })
