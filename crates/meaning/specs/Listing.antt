-- The listing: numbers in decimal, the line of a refusal, and the lines of a schedule.
use Rattle.std.specs.Prelude.{ℕ, zero, suc, ◌+◌, ◌/◌, ◌%◌, cond, length, ltb}
use Prim.Native.Char.{code}
use Prim.Native.String.{String, [] as []ˢ, ◌∷◌ as ◌∷ˢ◌}
use mathlib.Core.List.{List, [], ◌∷◌, ◌++◌, flat_map}
use Rattle.machine.specs.Sets.{list_below}
use Rattle.machine.specs.Refusals.{Verdict, taken, refused, judge}
use Rattle.machine.specs.Machine.{remaining, state_count}
use Rattle.machine.specs.Tables.{Row, schedule_rows}
use Rattle.meaning.specs.Graph.{Graph, content}
use Rattle.meaning.specs.Steps.{machine_of}
use Rattle.meaning.specs.TableFile.{row_start, most_rows, table_in}
use Rattle.meaning.specs.Answers.{Answer, is_taken, graph_lines, schedule_lines}

-- the bytes of a text in ASCII
unfoldable pub ascii : String → List ℕ
ascii []ˢ = []
ascii (c ∷ˢ cs) = code c ∷ ascii cs

-- the digits of a number that has at most so many
unfoldable pub digits : ℕ → ℕ → List ℕ
digits zero n = []
digits (suc places) n = cond (ltb n 10) ((code "0" + n) ∷ []) (digits places (n / 10) ++ ((code "0" + n % 10) ∷ []))

-- a number in decimal; one of 64 bits has at most 20 digits
unfoldable pub decimal : ℕ → List ℕ
decimal n = digits 20 n

-- a number behind a text
unfoldable pub field : String → ℕ → List ℕ
field text n = ascii text ++ decimal n

-- the first line, for a verdict and its counts
unfoldable pub first_line : Verdict → ℕ → ℕ → ℕ → List ℕ
first_line (refused number place) cycles rows states = field "refused " number ++ field " " place ++ ascii "\n"
first_line taken cycles rows states =
    field "cycles " cycles ++ field " rows " rows ++ field " states " states ++ ascii "\n"

module _ (g : Graph) where
  -- the line of a row: cycle, values, done, step
  unfoldable pub row_line : Row (machine_of g) → List ℕ
  row_line r =
      field "" r.cycle ++ field " " r.state.values ++ field " " r.state.done ++ field " " r.step ++ ascii "\n"

  -- the lines of all rows of a table file
  unfoldable pub row_lines : List ℕ → List ℕ
  row_lines table = list_below (table_in g table).rows (λ i. row_line ((table_in g table).row (suc i)))

  -- The listing of an answer and its table: the first line, and after success the rows.
  unfoldable pub listing : Answer → List ℕ → List ℕ
  listing a table =
      first_line a.verdict a.cycles a.rows a.states ++ cond (is_taken a.verdict) (row_lines table) []

-- What the program prints for a graph file. It lends 4,096 slots and room for a table of the most rows.
unfoldable pub printed : List ℕ → List ℕ
printed file =
    let M = machine_of (content file) in
    let room = row_start 1 (suc (most_rows 1)) in
    let verdict = judge (graph_lines file ++ schedule_lines (content file) 4096 room) in
    first_line verdict (remaining M M.start) (length (schedule_rows M)) (state_count M)
    ++ cond (is_taken verdict) (flat_map (row_line (content file)) (schedule_rows M)) []
