-- The table file: its layout, refusal 15, the table that it holds, and the file of the schedule.
use Rattle.std.specs.Prelude.{ℕ, zero, suc, ◌+◌, ◌-◌, ◌*◌, ◌/◌, ◌%◌, not, ◌&&◌, ◌||◌, List, [], ◌∷◌, ◌++◌, length, eqb, ltb}
use Rattle.machine.specs.Refusals.{Line, placeless}
use Rattle.machine.specs.Machine.{remaining}
use Rattle.machine.specs.Tables.{Row, Table, schedule_rows}
use Rattle.meaning.specs.Graph.{Graph, byte_at, number_at}
use Rattle.meaning.specs.Steps.{machine_of}

-- What an edition fixes.
module _ (edition : ℕ) where
  -- the bytes of a done mask and of a step mask
  unfoldable pub mask_bytes : ℕ
  mask_bytes = 3

  -- the bytes of a row: cycle, value mask, done mask, step mask
  unfoldable pub row_bytes : ℕ
  row_bytes = 2 + 2 * mask_bytes

  unfoldable pub most_rows : ℕ
  most_rows = 384

  -- where row p stands, counted from 1; past the last row this is the length
  unfoldable pub row_start : ℕ → ℕ
  row_start p = 8 + row_bytes * (p - 1)

module _ (file : List ℕ) where
  unfoldable pub cycles_of : ℕ
  cycles_of = byte_at file 3

  unfoldable pub rows_of : ℕ
  rows_of = number_at file 4 2

-- Refusal 15.
unfoldable pub layout_line : ℕ → List ℕ → Line
layout_line edition file =
    placeless 15
    (ltb (length file) 8
    || not (eqb (byte_at file 0) 0x48 && eqb (byte_at file 1) 0x54 && eqb (byte_at file 2) edition)
    || not (eqb (number_at file 6 2) 8) || ltb (most_rows edition) (rows_of file)
    || not (eqb (length file) (row_start edition (suc (rows_of file)))))

-- the table that a file holds
unfoldable pub table_in : (g : Graph) → List ℕ → Table (machine_of g)
table_in g file =
    record {
      cycles = cycles_of file;
      rows = rows_of file;
      row = λ p.
          let at = row_start g.edition p in
          let size = mask_bytes g.edition in
          record {
            cycle = byte_at file at;
            state = record { done = number_at file (at + 2) size; values = byte_at file (at + 1) };
            step = number_at file (at + 2 + size) size;
          };
    }

-- a number in `size` bytes, low byte first
unfoldable pub bytes_of : ℕ → ℕ → List ℕ
bytes_of zero x = []
bytes_of (suc size) x = x % 256 ∷ bytes_of size (x / 256)

-- the eight bytes of a header: the edition, the cycles, the number of rows, and where the rows start
unfoldable pub header_file : ℕ → ℕ → ℕ → List ℕ
header_file edition cycles rows = 0x48 ∷ 0x54 ∷ edition ∷ cycles ∷ bytes_of 2 rows ++ bytes_of 2 8

module _ (g : Graph) where
  unfoldable pub row_file : Row (machine_of g) → List ℕ
  row_file r =
      r.cycle ∷ r.state.values
      ∷ bytes_of (mask_bytes g.edition) r.state.done ++ bytes_of (mask_bytes g.edition) r.step

  unfoldable pub row_files : List (Row (machine_of g)) → List ℕ
  row_files [] = []
  row_files (r ∷ rs) = row_file r ++ row_files rs

  -- the file of a table of these cycles and rows
  unfoldable pub table_file : ℕ → List (Row (machine_of g)) → List ℕ
  table_file cycles rows = header_file g.edition cycles (length rows) ++ row_files rows

  -- the schedule's file
  unfoldable pub schedule_file : List ℕ
  schedule_file = table_file (remaining (machine_of g) (machine_of g).start) (schedule_rows (machine_of g))
