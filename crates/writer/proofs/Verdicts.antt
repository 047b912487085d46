-- The verdict on a graph to write, part by part, and what the writer has promised by it. Assumes nothing.
use Prim.Native.Nat.{ℕ}
use mathlib.Core.Path.{◌≡◌, refl, ◌∙◌}
use mathlib.Core.Bool.{not}
use mathlib.Core.List.{List, [], ◌∷◌}
use lib.ListN.{length}
use lib.Dec.{ltb}
use Rattle.std.specs.Prelude.{Result, Ok, Err}
use Rattle.machine.specs.Refusals.{Verdict, placeless, taken, refused, judge}
use Rattle.machine.proofs.Refusals.{otherwise, judge-append, placeless-first}
use Rattle.meaning.specs.Graph.{Graph, known, too_many, operation_count, class_count, control_count, arc_count, content_lines}
use Rattle.meaning.specs.Answers.{is_taken}
use Rattle.meaning.specs.Writer.{torn, graph_file, list_lines, writing, write_verdict, writer, output_after}
use Rattle.meaning.proofs.Writer.{written-verdict, written_exactly}
use Rattle.refusals.specs.declared.Fault.{Fault}
use Rattle.refusals.specs.Faults.{fault_verdict}
use Rattle.refusals.proofs.Chain.{in_turn, judge-in_turn, otherwise_taken}
use Rattle.text.specs.Writing.{laid}
use Rattle.text.proofs.WriteLaws.{laid_whole}
use Rattle.writer.specs.Promise.{values_of, Promised}

module _ (g : Graph) where
  -- 2, 3 and 5, each where those before it pass
  pub list-verdict : judge (list_lines g)
      ≡ otherwise (judge (placeless 2 (not (known g.edition)) ∷ []))
      (otherwise (judge (placeless 3 (too_many g.edition (operation_count g) (class_count g) (control_count g) (arc_count g)) ∷ []))
      (judge (placeless 5 (torn g.edition g.operations g.arcs) ∷ [])))
  unfolding list_lines in_turn
  list-verdict = judge-in_turn (list_lines g) ∙ rw otherwise_taken refl

  module _ (before : List ℕ) where
    -- then 6 to 11, and then 14
    pub whole-verdict : write_verdict g before
        ≡ otherwise (judge (list_lines g))
        (otherwise (judge (content_lines g)) (judge (placeless 14 (ltb (length before) (length (graph_file g))) ∷ [])))
    unfolding otherwise judge
    whole-verdict =
        written-verdict g before ∙ rw (judge-append (list_lines g) (content_lines g), placeless-first 14)
        (by (judge (list_lines g)) (judge (content_lines g)) _)
      where
        by : (u v w : Verdict) → otherwise (otherwise u v) w ≡ otherwise u (otherwise v w)
        by taken v w = refl
        by (refused k p) v w = refl

    -- What is promised by the verdict: the answer, and the output where it refuses and where it does not.
    pub refused_promised : {r : Result ℕ Fault} (f : Fault) → r ≡ Err f → write_verdict g before ≡ fault_verdict f
        → Promised g before r before
    unfolding values_of fault_verdict writer writing output_after is_taken
    refused_promised f d e = record { answers = rw (d, e) refl; writes = rw e refl }

    pub done_promised : {n : ℕ} {after : List ℕ} → write_verdict g before ≡ taken → n ≡ length (graph_file g)
        → after ≡ laid before 0 (graph_file g) → Promised g before (Ok n) after
    unfolding values_of writer writing output_after is_taken
    done_promised e d l =
        record {
          answers = rw (e, d) refl;
          writes = l ∙ laid_whole before (graph_file g) ((written_exactly g before).0 e).1 ∙ rw e refl;
        }
