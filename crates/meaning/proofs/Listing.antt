-- The listing: how long it is, and that the listing of a schedule's answer and table is what the program prints. Assumes
-- nothing.
use Prim.Native.Nat.{ℕ, zero, suc, ◌+◌, ◌-◌, ◌*◌, ◌/◌, ◌^◌, ◌%◌, ◌≤◌, ◌<◌, zero-le}
use native.Mathlib.Nat.{pow-suc, div-lt_iff_lt-mul, mod-add-div}
use native.Mathlib.Omega.{arith}
use mathlib.Core.Path.{◌≡◌, refl, sym, ◌∙◌, ap, ap₂}
use mathlib.Core.Logic.{⊎_elim}
use mathlib.Core.Bool.{Bool, true, false, cond}
use mathlib.Core.List.{List, [], ◌∷◌, ◌++◌, flat_map}
use lib.ListN.{length, get_or, drop, length-append}
use lib.Dec.{ltb}
use borrow.Author.Tests.{le-ltb, lt-ltb}
use Rattle.machine.specs.Sets.{list_below}
use Rattle.machine.specs.Refusals.{Verdict, taken, refused, judge}
use Rattle.machine.specs.Machine.{Machine, remaining, state_count}
use Rattle.machine.specs.Tables.{Row, schedule_rows}
use Rattle.machine.proofs.Sets.{le-or-lt, list_same, list-places}
use Rattle.meaning.specs.Graph.{Graph, content}
use Rattle.meaning.specs.Steps.{machine_of}
use Rattle.meaning.specs.TableFile.{most_rows, row_start, table_in, table_file, schedule_file}
use Rattle.meaning.specs.Answers.{answer, is_taken, graph_lines, schedule_lines, schedule_verdict, scheduler, table_after, graph_verdict}
use Rattle.meaning.specs.Listing.{ascii, digits, decimal, field, first_line, row_line, row_lines, listing, printed}
use Rattle.meaning.proofs.Taken.{accepted_of}
use Rattle.meaning.proofs.TableFile.{AllFit, file-rows, file-row}
use Rattle.meaning.proofs.Demands.{few-rows, success_means, rows_fit}

-- a number has no more digits than places, and no more than 20
digits-few : (places n : ℕ) → length (digits places n) ≤ places
unfolding digits
digits-few zero n = zero-le
digits-few (suc places) n = either (ltb n 10) (digits-few places (n / 10))
  where
    either : (b : Bool) → length (digits places (n / 10)) ≤ places
        → length (cond b ((48 + n) ∷ []) (digits places (n / 10) ++ ((48 + n % 10) ∷ []))) ≤ suc places
    either true h = omega arith
    either false h = simp (length-append) (omega (arith, h))

decimal-few : (n : ℕ) → length (decimal n) ≤ 20
unfolding decimal
decimal-few n = digits-few 20 n

-- the number that digits say, behind those that say `front`
unfoldable pub read_from : ℕ → List ℕ → ℕ
read_from front [] = front
read_from front (d ∷ ds) = read_from (10 * front + (d - 48)) ds

read_last : (front d : ℕ) (ds : List ℕ) → read_from front (ds ++ (d ∷ [])) ≡ 10 * read_from front ds + (d - 48)
unfolding read_from
read_last front d [] = refl
read_last front d (e ∷ ds) = read_last (10 * front + (e - 48)) d ds

digits_read : (places n : ℕ) → n < 10 ^ places → read_from 0 (digits places n) ≡ n
unfolding digits read_from
digits_read zero n h = omega arith
digits_read (suc places) n h =
    ⊎_elim (λ (l : 10 ≤ n). rw (le-ltb n 10 l) (more (digits_read places (n / 10) rest))) (λ (l : n < 10). rw (lt-ltb n 10 l) (omega arith))
    (le-or-lt 10 n)
  where
    rest : n / 10 < 10 ^ places
    rest = (div-lt_iff_lt-mul {k = 10} {x = n} {y = 10 ^ places} (omega arith)).1 (rw (← pow-suc) h)

    more : read_from 0 (digits places (n / 10)) ≡ n / 10 → read_from 0 (digits places (n / 10) ++ ((48 + n % 10) ∷ [])) ≡ n
    more e = rw (read_last 0 (48 + n % 10) (digits places (n / 10)), e) (omega (arith, mod-add-div n 10))

-- Reading a number of 64 bits in decimal gives the number.
pub decimal_read : (n : ℕ) → n < 2 ^ 64 → read_from 0 (decimal n) ≡ n
unfolding decimal
decimal_read n h = digits_read 20 n (omega arith)

first-few : (v : Verdict) (cycles rows states : ℕ) → length (first_line v cycles rows states) ≤ 82
unfolding first_line field ascii
first-few (refused number place) cycles rows states =
    simp (length-append) (omega (arith, decimal-few number, decimal-few place))
first-few taken cycles rows states =
    simp (length-append) (omega (arith, decimal-few cycles, decimal-few rows, decimal-few states))

module _ (g : Graph) where
  line-few : (r : Row (machine_of g)) → length (row_line g r) ≤ 84
  unfolding row_line field ascii
  line-few r =
      simp (length-append)
      (omega (arith, decimal-few r.cycle, decimal-few r.state.values, decimal-few r.state.done, decimal-few r.step))

  lines_few : (rows : List (Row (machine_of g))) → length (flat_map (row_line g) rows) ≤ 84 * length rows
  unfolding flat_map
  lines_few [] = omega arith
  lines_few (r ∷ rs) = omega (arith, length-append (row_line g r) (flat_map (row_line g) rs), line-few r, lines_few rs)

  -- the lines of a table file that stands at the front of a buffer
  pub lines_written : (cycles : ℕ) (rows : List (Row (machine_of g))) (rest : List ℕ) → AllFit g rows → length rows < 256 ^ 2
      → row_lines g (table_file g cycles rows ++ rest) ≡ flat_map (row_line g) rows
  unfolding row_lines table_in
  lines_written cycles rows rest fit small =
      ap (λ (n : ℕ). list_below n line) (file-rows g cycles rows rest small)
      ∙ list_same (length rows) line (λ i. row_line g (get_or rows i none)) same
      ∙ list-places (row_line g) rows none
    where
      none : Row (machine_of g)
      none = record { cycle = 0; state = (machine_of g).start; step = 0 }

      line : ℕ → List ℕ
      line i = row_line g ((table_in g (table_file g cycles rows ++ rest)).row (suc i))

      same : (i : ℕ) → i < length rows → line i ≡ row_line g (get_or rows i none)
      same i h =
          let back : suc i - 1 ≡ i = omega arith in
          ap (row_line g) (file-row g cycles rows rest fit (suc i) (omega arith) h none ∙ ap (λ (k : ℕ). get_or rows k none) back)

-- For a graph file, 4,096 slots, and a buffer for a table of the most rows.
module _ (file slots table : List ℕ) (slots-are : length slots ≡ 4096) (room-is : length table ≡ row_start 1 (suc (most_rows 1))) where
  abbrev M : Machine
  M = machine_of (content file)

  abbrev lines : List ℕ
  lines = flat_map (row_line (content file)) (schedule_rows M)

  -- the verdict that `printed` speaks of
  abbrev verdict : Verdict
  verdict = judge (graph_lines file ++ schedule_lines (content file) 4096 (row_start 1 (suc (most_rows 1))))

  verdict_is : schedule_verdict file slots table ≡ verdict
  unfolding schedule_verdict
  verdict_is = ap₂ (λ (n room : ℕ). judge (graph_lines file ++ schedule_lines (content file) n room)) slots-are room-is

  -- what a success says of the schedule's rows
  module _ (e : schedule_verdict file slots table ≡ taken) where
    means : (graph_verdict file ≡ taken)
        × ((state_count M ≤ length slots) × ((remaining M M.start ≤ M.horizon) × (length (schedule_file (content file)) ≤ length table)))
    means = (success_means file slots table).0 e

    rows_few : length (schedule_rows M) ≤ 384
    unfolding most_rows
    rows_few = few-rows (content file) (accepted_of file means.0) means.1.1.0

    rows_written : row_lines (content file) (table_after file slots table) ≡ lines
    unfolding table_after schedule_file is_taken
    rows_written =
        rw e
        (lines_written (content file) (remaining M M.start) (schedule_rows M) (drop (length (schedule_file (content file))) table)
        (rows_fit file means.0 means.1.1.0) (omega (arith, rows_few)))

  by : (v : Verdict) (cycles rows states : ℕ) (after : List ℕ) → (v ≡ taken → row_lines (content file) after ≡ lines)
      → listing (content file) (answer v cycles rows states) after ≡ first_line v cycles rows states ++ cond (is_taken v) lines []
  unfolding listing answer is_taken first_line
  by taken cycles rows states after h = ap (λ (l : List ℕ). first_line taken cycles rows states ++ l) (h refl)
  by (refused k p) cycles rows states after h = refl

  -- The listing of the scheduler's answer and table is what the program prints.
  pub listing-printed : listing (content file) (scheduler file slots table) (table_after file slots table) ≡ printed file
  unfolding scheduler printed
  listing-printed =
      by (schedule_verdict file slots table) (remaining M M.start) (length (schedule_rows M)) (state_count M) (table_after file slots table) rows_written
      ∙ ap (λ (v : Verdict). first_line v (remaining M M.start) (length (schedule_rows M)) (state_count M) ++ cond (is_taken v) lines []) verdict_is

  -- It has room in 32,768 bytes.
  pub printed_short : length (printed file) ≤ 32768
  unfolding printed is_taken
  printed_short =
      simp (length-append)
      (omega (arith, first-few verdict (remaining M M.start) (length (schedule_rows M)) (state_count M), few verdict (sym verdict_is)))
    where
      few : (v : Verdict) → v ≡ schedule_verdict file slots table → length (cond (is_taken v) lines []) ≤ 84 * 384
      few taken e = omega (arith, lines_few (content file) (schedule_rows M), rows_few (sym e))
      few (refused k p) e = zero-le
