-- Demand 1 for the code: what an answer of `read_graph` says of the graph file, for any outcome that its promise allows.
-- Assumes nothing.
use Prim.Native.Nat.{ℕ}
use mathlib.Core.Path.{◌≡◌, refl, sym, ◌∙◌, ap}
use mathlib.Core.Logic.{◌↔◌}
use mathlib.Core.List.{List}
use Rattle.std.specs.Prelude.{Result, Ok, Err}
use Rattle.machine.specs.Refusals.{taken, refused}
use Rattle.machine.proofs.Refusals.{Given, judge-refused}
use Rattle.meaning.specs.Graph.{operations_of, classes_of, controls_of, arcs_of}
use Rattle.meaning.specs.Answers.{graph_lines, graph_verdict, reading, reader}
use Rattle.parts.specs.declared.Counts.{Counts}
use Rattle.refusals.specs.declared.Fault.{Fault}
use Rattle.refusals.specs.Faults.{number_of, verdict_of}
use Rattle.refusals.proofs.Unique.{faulted_exactly}
use Rattle.reader.specs.Reading.{values_of}
use Rattle.reader.proofs.Verdicts.{read_taken, reads}
use Rattle.reader.proofs.Unique.{one_read}

module _ (file : List ℕ) (r : Result Counts Fault) (promised : values_of r ≡ reader file) where
  -- Number k at place p is given exactly by the refusal table: a line with that number is at fault at that place, at no lower
  -- place, and no earlier line is at fault anywhere.
  pub refuses_exactly : (k p : ℕ) → (verdict_of r ≡ refused k p) ↔ Given k p (graph_lines file)
  unfolding graph_verdict
  refuses_exactly k p =
      (λ e. (judge-refused (graph_lines file) k p).0 (sym (reads file r promised) ∙ e), λ g. reads file r promised ∙ (judge-refused (graph_lines file) k p).1 g)

  -- So is each fault, by its number and place.
  pub faults_exactly : (f : Fault) → (r ≡ Err f) ↔ Given (number_of f.refusal) f.place (graph_lines file)
  unfolding graph_verdict
  faults_exactly f = faulted_exactly r (graph_lines file) (reads file r promised) f

  -- Taken, with the counts that the header says, exactly when nothing is at fault.
  pub takes_exactly : let counts : Counts = record { operations = operations_of file; classes = classes_of file; controls = controls_of file; arcs = arcs_of file } in
      (r ≡ Ok counts) ↔ (graph_verdict file ≡ taken)
  unfolding values_of reader reading
  takes_exactly =
      let counts : Counts = record { operations = operations_of file; classes = classes_of file; controls = controls_of file; arcs = arcs_of file } in (
        λ e. read_taken file counts (sym (ap values_of e) ∙ promised),
        λ v. one_read (reader file) r (Ok counts) promised (rw v refl),
      )
