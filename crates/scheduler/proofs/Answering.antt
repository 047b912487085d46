-- Laws of the scheduler's answers: refusals 12 to 14, and the file that is written. Assumes nothing.
use Prim.Native.Nat.{ℕ, ◌*◌, ◌≤◌, ◌<◌, zero-le}
use native.Mathlib.Nat.{le_trans, zero-add}
use native.Mathlib.Omega.{arith}
use mathlib.Core.Path.{◌≡◌, refl, sym, ◌∙◌, ap, ap₂, subst}
use mathlib.Core.Bool.{Bool, true, false, cond}
use mathlib.Core.List.{List, [], ◌∷◌, ◌++◌}
use lib.ListN.{length, drop, replicate}
use lib.Arith.{le→nltb}
use lib.Dec.{ltb, lt→ltb}
use Rattle.machine.specs.Refusals.{Line, Verdict, taken, refused, placeless, judge}
use Rattle.machine.specs.Machine.{Machine, remaining, state_count}
use Rattle.machine.specs.Tables.{schedule_rows}
use Rattle.machine.proofs.Refusals.{otherwise, judge-append, judge-taken, judge-after, placeless-fault, placeless_passes}
use Rattle.machine.proofs.Search.{missing, right-remaining, right_missing}
use Rattle.meaning.specs.Graph.{Graph, content}
use Rattle.meaning.specs.Steps.{machine_of}
use Rattle.meaning.specs.TableFile.{most_rows, row_start, bytes_of, header_file, row_files, table_file, schedule_file}
use Rattle.meaning.specs.Answers.{answer, is_taken, graph_lines, graph_verdict, schedule_lines, schedule_verdict, scheduler, slots_after, table_after}
use Rattle.meaning.proofs.Taken.{Accepted, few-operations}
use Rattle.meaning.proofs.TableFile.{row_first, row_mono, schedule-length}
use Rattle.std.specs.Prelude.{Result, Ok, Err}
use Rattle.refusals.specs.declared.Fault.{Fault}
use Rattle.refusals.specs.Faults.{fault_verdict}
use Rattle.scheduler.specs.declared.Scheduled.{Scheduled}
use Rattle.scheduler.specs.Slots.{Holds}
use Rattle.scheduler.specs.Search.{Store}
use Rattle.scheduler.specs.Rows.{Planning}
use Rattle.scheduler.specs.Writing.{written}
use Rattle.scheduler.specs.Promise.{values_of, Promised, Answered, later_lines, RowsIn}
use Rattle.scheduler.proofs.WriteLaws.{written-before}

-- The number that is held with the start is its remaining number, or there is none.
module _ (g : Graph) (a : Accepted g) (slots : List ℕ) (number : ℕ) (store : Store g slots) (held : Holds slots (machine_of g).start number) where
  horizon : (machine_of g).horizon < missing
  horizon = omega (arith, few-operations a.within)

  pub start-number : number ≤ (machine_of g).horizon → number ≡ remaining (machine_of g) (machine_of g).start
  start-number h = sym (right-remaining (machine_of g) (machine_of g).start number (store.good.right (machine_of g).start number held) horizon h)

  pub planning : number ≤ (machine_of g).horizon → Planning g slots
  planning h =
      record {
        store = store;
        start = (number, held);
        numbered = subst (λ (k : ℕ). k ≤ (machine_of g).horizon) (start-number h) h;
      }

  pub no_number : (machine_of g).horizon < number → (machine_of g).horizon < remaining (machine_of g) (machine_of g).start
  no_number h = omega (arith, right_missing (machine_of g) (machine_of g).start number (store.good.right (machine_of g).start number held) horizon h)

-- What a test of one condition says: a fault that it holds, and success that it does not.
pub refused-if : (k : ℕ) (b : Bool) (f : Fault) → fault_verdict f ≡ judge (placeless k b ∷ []) → (fault_verdict f ≡ refused k 0) × (b ≡ true)
unfolding judge fault_verdict
refused-if k true f e = (e ∙ placeless-fault k true [] tt, refl)
refused-if k false f e = absurd (refused_not (sym (placeless_passes k false [] tt) ∙ sym e))
  where
    refused_not : taken ≡ fault_verdict f → ⊥
    refused_not d = cc

pub passed-if : (k : ℕ) (b : Bool) → taken ≡ judge (placeless k b ∷ []) → b ≡ false
passed-if k false e = refl
passed-if k true e = let d : taken ≡ refused k 0 = e ∙ placeless-fault k true [] tt in cc

-- Refusals 12 to 14 in order.
module _ (g : Graph) where
  lines_are : (slots room : ℕ) → schedule_lines g slots room ≡ placeless 12 (ltb slots (state_count (machine_of g))) ∷ later_lines g room
  unfolding schedule_lines later_lines
  lines_are slots room = refl

  pub twelve : (slots room : ℕ) → slots < state_count (machine_of g) → judge (schedule_lines g slots room) ≡ refused 12 0
  twelve slots room h =
      ap judge (lines_are slots room)
      ∙ placeless-fault 12 (ltb slots (state_count (machine_of g))) (later_lines g room) (lt→ltb slots (state_count (machine_of g)) h)

  pub not_twelve : (slots room : ℕ) → state_count (machine_of g) ≤ slots → judge (schedule_lines g slots room) ≡ judge (later_lines g room)
  not_twelve slots room h =
      ap judge (lines_are slots room)
      ∙ placeless_passes 12 (ltb slots (state_count (machine_of g))) (later_lines g room) (le→nltb slots (state_count (machine_of g)) h)

  pub thirteen : (room : ℕ) → (machine_of g).horizon < remaining (machine_of g) (machine_of g).start → judge (later_lines g room) ≡ refused 13 0
  unfolding later_lines
  thirteen room h =
      placeless-fault 13 (ltb (machine_of g).horizon (remaining (machine_of g) (machine_of g).start))
      (placeless 14 (ltb room (length (schedule_file g))) ∷ []) (lt→ltb (machine_of g).horizon (remaining (machine_of g) (machine_of g).start) h)

  module _ (room : ℕ) (found : remaining (machine_of g) (machine_of g).start ≤ (machine_of g).horizon) where
    fourteen_left : judge (later_lines g room) ≡ judge (placeless 14 (ltb room (length (schedule_file g))) ∷ [])
    unfolding later_lines
    fourteen_left =
        placeless_passes 13 (ltb (machine_of g).horizon (remaining (machine_of g) (machine_of g).start))
        (placeless 14 (ltb room (length (schedule_file g))) ∷ []) (le→nltb (machine_of g).horizon (remaining (machine_of g) (machine_of g).start) found)

    pub fourteen : room < length (schedule_file g) → judge (later_lines g room) ≡ refused 14 0
    fourteen h = fourteen_left ∙ placeless-fault 14 (ltb room (length (schedule_file g))) [] (lt→ltb room (length (schedule_file g)) h)

    pub nothing_left : length (schedule_file g) ≤ room → judge (later_lines g room) ≡ taken
    unfolding judge
    nothing_left h = fourteen_left ∙ placeless_passes 14 (ltb room (length (schedule_file g))) [] (le→nltb room (length (schedule_file g)) h)

  -- the answer of a verdict
  pub answered-refused : (lines : List Line) (states : ℕ) (t : List ℕ) (f : Fault) → judge lines ≡ fault_verdict f → Answered g lines states t t (Err f)
  unfolding values_of answer is_taken fault_verdict
  answered-refused lines states t f e =
      record {
        answers = ap (λ (v : Verdict). answer v (remaining (machine_of g) (machine_of g).start) (length (schedule_rows (machine_of g))) states) (sym e);
        writes = ap (λ (v : Verdict). cond (is_taken v) (schedule_file g ++ drop (length (schedule_file g)) t) t) (sym e);
      }

  pub answered-taken : (lines : List Line) (states cycles rows : ℕ) (t u : List ℕ) → judge lines ≡ taken
      → cycles ≡ remaining (machine_of g) (machine_of g).start → rows ≡ length (schedule_rows (machine_of g))
      → u ≡ schedule_file g ++ drop (length (schedule_file g)) t → Answered g lines states t u (Ok (record { cycles = cycles; rows = rows; states = states }))
  unfolding values_of answer is_taken
  answered-taken lines states cycles rows t u e c r w =
      record {
        answers = ap₂ (λ (a b : ℕ). answer taken a b states) c r
            ∙ ap (λ (v : Verdict). answer v (remaining (machine_of g) (machine_of g).start) (length (schedule_rows (machine_of g))) states) (sym e);
        writes = w ∙ ap (λ (v : Verdict). cond (is_taken v) (schedule_file g ++ drop (length (schedule_file g)) t) t) (sym e);
      }

  -- the same answer for lines of the same verdict
  pub answered-same : (lines more : List Line) (states total : ℕ) (t u : List ℕ) (r : Result Scheduled Fault) → judge more ≡ judge lines → states ≡ total
      → Answered g lines states t u r → Answered g more total t u r
  answered-same lines more states total t u r e n a =
      record {
        answers = a.answers
            ∙ ap₂ (λ (v : Verdict) (k : ℕ). answer v (remaining (machine_of g) (machine_of g).start) (length (schedule_rows (machine_of g))) k) (sym e) n;
        writes = a.writes ∙ ap (λ (v : Verdict). cond (is_taken v) (schedule_file g ++ drop (length (schedule_file g)) t) t) (sym e);
      }

  -- there is room in a table for 16 rows of each cycle
  pub cycles-room : Accepted g → (t : ℕ) → t ≤ (machine_of g).horizon → 16 * t ≤ most_rows g.edition
  unfolding most_rows
  cycles-room a t h = omega (arith, few-operations a.within)

  -- the rows, and then the header
  pub file-written : (edition cycles rows : ℕ) (t u v : List ℕ) → g.edition ≡ edition → cycles ≡ remaining (machine_of g) (machine_of g).start
      → RowsIn g t u rows → v ≡ written u 0 (header_file edition cycles rows) → v ≡ schedule_file g ++ drop (length (schedule_file g)) t
  unfolding written schedule_file table_file header_file bytes_of
  file-written edition cycles rows t u v one c r e =
      written-before t u v (row_start g.edition 1) (header_file edition cycles rows) files r.table e (row_first g.edition)
      (le_trans (row_mono g.edition 0 (length (schedule_rows (machine_of g))) zero-le)
      (subst (λ (k : ℕ). k ≤ length t) (schedule-length g) r.room))
      ∙ ap (λ (l : List ℕ). written t 0 l) same ∙ ap (λ (k : ℕ). schedule_file g ++ drop k t) (zero-add (length (schedule_file g)))
    where
      files : List ℕ
      files = row_files g (schedule_rows (machine_of g))

      same : header_file edition cycles rows ++ files ≡ schedule_file g
      same =
          ap (λ (k : ℕ). header_file k cycles rows ++ files) (sym one)
          ∙ ap₂ (λ (a b : ℕ). header_file g.edition a b ++ files) c r.count

-- The promise for a file, by the reader's verdict.
module _ (file slots table : List ℕ) where
  pub promised_refused : (f : Fault) → graph_verdict file ≡ fault_verdict f → Promised file slots table (Err f) slots table
  unfolding values_of scheduler slots_after table_after answer is_taken fault_verdict
  promised_refused f e =
      record {
        answers = ap (λ (v : Verdict). answer v (remaining M M.start) (length (schedule_rows M)) (state_count M)) (sym verdict);
        clears = ap (λ (v : Verdict). cond (is_taken v) (replicate (length slots) 0) slots) (sym e);
        writes = ap (λ (v : Verdict). cond (is_taken v) (schedule_file (content file) ++ drop (length (schedule_file (content file))) table) table) (sym verdict);
      }
    where
      M : Machine
      M = machine_of (content file)

      verdict : schedule_verdict file slots table ≡ fault_verdict f
      verdict =
          unfold schedule_verdict graph_verdict otherwise fault_verdict in judge-append (graph_lines file) (schedule_lines (content file) (length slots) (length table))
          ∙ ap (λ (v : Verdict). otherwise v (judge (schedule_lines (content file) (length slots) (length table)))) e

  pub promised_taken : (slots_last table_last : List ℕ) (r : Result Scheduled Fault) → graph_verdict file ≡ taken
      → Answered (content file) (schedule_lines (content file) (length slots) (length table)) (state_count (machine_of (content file))) table table_last r
      → slots_last ≡ replicate (length slots) 0 → Promised file slots table r slots_last table_last
  unfolding scheduler slots_after table_after is_taken
  promised_taken slots_last table_last r e a c =
      record {
        answers = a.answers ∙ ap (λ (v : Verdict). answer v (remaining M M.start) (length (schedule_rows M)) (state_count M)) (sym verdict);
        clears = c ∙ ap (λ (v : Verdict). cond (is_taken v) (replicate (length slots) 0) slots) (sym e);
        writes = a.writes
            ∙ ap (λ (v : Verdict). cond (is_taken v) (schedule_file (content file) ++ drop (length (schedule_file (content file))) table) table) (sym verdict);
      }
    where
      M : Machine
      M = machine_of (content file)

      verdict : schedule_verdict file slots table ≡ judge (schedule_lines (content file) (length slots) (length table))
      verdict =
          unfold schedule_verdict graph_verdict in judge-after ((judge-taken (graph_lines file)).0 e) (schedule_lines (content file) (length slots) (length table))
