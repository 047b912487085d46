-- Demand 3 for the code: what an answer of `check` says of the table, and a part of `rows_of` of its rows, for any outcome
-- that the promises allow. Assumes nothing.
use Prim.Native.Nat.{ℕ, ◌+◌, ◌-◌, ◌≤◌, ◌<◌}
use native.Mathlib.Omega.{arith}
use mathlib.Core.Path.{◌≡◌, refl, sym, ◌∙◌, ap, ap₂, subst}
use mathlib.Core.Logic.Iff
use mathlib.Core.Logic.{◌↔◌}
use mathlib.Core.List.{List, ◌++◌}
use lib.ListN.{length, drop, length-drop}
use lib.Seq.{length-take-le}
use denote.Ref.{Bor}
use Rattle.std.specs.Prelude.{Result, Ok, Err}
use Rattle.machine.specs.Refusals.{taken, refused}
use Rattle.machine.specs.Machine.{remaining}
use Rattle.machine.specs.Tables.{Sound}
use Rattle.machine.proofs.Refusals.{Given, judge-refused}
use Rattle.machine.proofs.Clock.{SoundByClock}
use Rattle.meaning.specs.Graph.{content}
use Rattle.meaning.specs.TableFile.{cycles_of, rows_of, table_in}
use Rattle.meaning.specs.Answers.{answer, graph_lines, graph_verdict, table_lines, check_verdict, checker, Part, rows_of_cycle}
use Rattle.meaning.proofs.Demands.{machine_in, WellLaid, accepted_exactly, accepted_by_clock, accepted-least}
use Rattle.meaning.proofs.Query.{HoldsCycle, query-rows}
use Rattle.refusals.specs.declared.Fault.{Fault}
use Rattle.refusals.specs.Faults.{number_of, verdict_of}
use Rattle.refusals.proofs.Unique.{faulted_exactly}
use Rattle.checker.specs.declared.Acceptance.{Acceptance}
use Rattle.checker.specs.Checked.{values_of, Lies}
use Rattle.checker.proofs.Parts.{said_verdict}
use Rattle.checker.proofs.Unique.{one_answer}

-- what a table's header says
abbrev pub header_says : List ℕ → Acceptance
header_says table = record { cycles = cycles_of table; rows = rows_of table }

module _ (file table : List ℕ) (r : Result Acceptance Fault) (promised : values_of r ≡ checker file table) where
  -- A refusal is given exactly by the refusal table: its line is at fault at that place first, and no earlier line anywhere.
  pub refuses_exactly : (k p : ℕ) → (verdict_of r ≡ refused k p) ↔ Given k p (graph_lines file ++ table_lines (content file) table)
  unfolding check_verdict
  refuses_exactly k p =
      let said = said_verdict file table r promised in
      let lines = judge-refused (graph_lines file ++ table_lines (content file) table) k p in
      (λ e. lines.0 (sym said ∙ e), λ g. said ∙ lines.1 g)

  -- So is each fault, by its number and place.
  pub faults_exactly : (f : Fault) → (r ≡ Err f) ↔ Given (number_of f.refusal) f.place (graph_lines file ++ table_lines (content file) table)
  unfolding check_verdict
  faults_exactly f = faulted_exactly r (graph_lines file ++ table_lines (content file) table) (said_verdict file table r promised) f

  -- Accepted, with the cycles and rows that the table's header says, exactly when nothing is at fault.
  pub accepts_exactly : (r ≡ Ok (header_says table)) ↔ (check_verdict file table ≡ taken)
  unfolding values_of verdict_of checker answer
  accepts_exactly = (
    λ e. sym (said_verdict file table (Ok (header_says table)) (sym (ap values_of e) ∙ promised)),
    λ v. one_answer (checker file table) r (Ok (header_says table)) promised (rw v refl),
  )

  module _ (ok : graph_verdict file ≡ taken) where
    -- Demand 3: a table that is well laid out and ordered is accepted exactly when it is sound.
    pub sound_exactly : WellLaid file ok table
        → (r ≡ Ok (header_says table)) ↔ Sound (machine_in file ok) (table_in (content file) table)
    sound_exactly laid = Iff.trans accepts_exactly (accepted_exactly file ok table laid)

    -- The same clock by clock.
    pub clock_exactly : WellLaid file ok table
        → (r ≡ Ok (header_says table)) ↔ SoundByClock (machine_in file ok) (table_in (content file) table)
    clock_exactly laid = Iff.trans accepts_exactly (accepted_by_clock file ok table laid)

    -- No accepted table has fewer cycles than the start's remaining number.
    pub cycles-least : r ≡ Ok (header_says table)
        → remaining (machine_in file ok) (machine_in file ok).start ≤ cycles_of table
    cycles-least e = (accepted-least file ok table (accepts_exactly.0 e)).1

-- The part that a reference into the whole covers, by where it lies and how long it is.
abbrev pub covers : Bor (List ℕ) → Bor (List ℕ) → Part
covers whole r =
    record { start = r.ref_ptr.1 - whole.ref_ptr.1; end = r.ref_ptr.1 - whole.ref_ptr.1 + length r.now }

part_ext : (m n : Part) → m.start ≡ n.start → m.end ≡ n.end → m ≡ n
part_ext m n e f = ap₂ (λ (a b : ℕ). record { start = a; end = b }) e f

-- What `rows_of` returns for a cycle of an accepted table covers exactly the rows of that cycle.
pub query_exactly : (file : List ℕ) (whole r : Bor (List ℕ)) (t : ℕ) → Lies (rows_of_cycle file whole.now t) whole r
    → check_verdict file whole.now ≡ taken → 0 < t → t ≤ cycles_of whole.now → HoldsCycle file whole.now t (covers whole r)
query_exactly file whole r t lies e h k = subst (HoldsCycle file whole.now t) (part_ext part (covers whole r) start end) held
  where
    part : Part
    part = rows_of_cycle file whole.now t

    held : HoldsCycle file whole.now t part
    held = query-rows file whole.now t e h k

    start : part.start ≡ r.ref_ptr.1 - whole.ref_ptr.1
    start = omega (arith, lies.place)

    size : length r.now ≡ part.end - part.start
    size =
        ap length lies.holds
        ∙ length-take-le (part.end - part.start) (drop part.start whole.now)
        (subst (λ (n : ℕ). part.end - part.start ≤ n) (sym (length-drop part.start whole.now)) (omega (arith, held.within)))

    end : part.end ≡ r.ref_ptr.1 - whole.ref_ptr.1 + length r.now
    end = omega (arith, start, size, held.ordered)
