-- The verdict on a graph file, part by part, and by the reader's answer. Assumes nothing.
use Prim.Native.Nat.{ℕ}
use mathlib.Core.Path.{◌≡◌, refl, sym, ◌∙◌, ap}
use mathlib.Core.Bool.{false, true}
use mathlib.Core.List.{List}
use Rattle.std.specs.Prelude.{Result, Ok, Err}
use Rattle.machine.specs.Refusals.{Verdict, taken, refused, judge}
use Rattle.machine.proofs.Refusals.{otherwise, judge-append, judge-taken}
use Rattle.machine.proofs.Truth.{contrary, true_of, of_true}
use Rattle.meaning.specs.Graph.{known, edition_of, operations_of, classes_of, controls_of, arcs_of, file_lines, content, content_lines}
use Rattle.meaning.specs.Answers.{graph_verdict, graph_lines, Reading, reading, reader, is_taken}
use Rattle.meaning.proofs.Taken.{Within, Accepted, filed_of, taken_of, within}
use Rattle.parts.specs.declared.Counts.{Counts}
use Rattle.parts.specs.Fields.{graph_in}
use Rattle.refusals.specs.declared.Fault.{Fault}
use Rattle.refusals.specs.Faults.{fault_verdict, verdict_of}
use Rattle.reader.specs.declared.taken.TakenGraph.{TakenGraph}
use Rattle.reader.specs.Reading.{values_of}

-- refusals 6 to 11 count where 1 to 5 pass
pub file-verdict : (file : List ℕ) → graph_verdict file ≡ otherwise (judge (file_lines file)) (judge (content_lines (content file)))
unfolding graph_verdict graph_lines
file-verdict file = judge-append (file_lines file) (content_lines (content file))

-- the verdict that the reader's answer has
read_verdict : (file : List ℕ) (r : Result Counts Fault) → values_of r ≡ reader file → graph_verdict file ≡ (values_of r).verdict
unfolding reader reading
read_verdict file r e = sym (ap (λ (q : Reading). q.verdict) e ∙ by (graph_verdict file))
  where
    by : (v : Verdict) → (reading v (operations_of file) (classes_of file) (controls_of file) (arcs_of file)).verdict ≡ v
    by taken = refl
    by (refused k p) = refl

-- what the reader answers has the verdict of the refusal table
pub reads : (file : List ℕ) (r : Result Counts Fault) → values_of r ≡ reader file → verdict_of r ≡ graph_verdict file
unfolding verdict_of values_of
reads file r e = by r ∙ sym (read_verdict file r e)
  where
    by : (s : Result Counts Fault) → verdict_of s ≡ (values_of s).verdict
    by (Ok counts) = refl
    by (Err f) = refl

pub read_refused : (file : List ℕ) (f : Fault) → values_of (Err f) ≡ reader file → graph_verdict file ≡ fault_verdict f
unfolding values_of
read_refused file f e = read_verdict file (Err f) e

pub read_taken : (file : List ℕ) (counts : Counts) → values_of (Ok counts) ≡ reader file → graph_verdict file ≡ taken
unfolding values_of
read_taken file counts e = read_verdict file (Ok counts) e

-- a graph's counts are within its edition's maxima where its file passes 1 to 5
pub within-file : (file : List ℕ) → judge (file_lines file) ≡ taken → Within (content file)
within-file file e = within file (filed_of file ((judge-taken (file_lines file)).0 e))

-- and its edition is known
pub known-file : (file : List ℕ) → judge (file_lines file) ≡ taken → known (content file).edition ≡ true
unfolding content
known-file file e = true_of (known (edition_of file)) (filed_of file ((judge-taken (file_lines file)).0 e)).edition-known

-- what the type of a taken graph says is that it is accepted
pub taken-accepted : (t : TakenGraph) → Accepted (graph_in t.graph)
unfolding is_taken
taken-accepted t =
    let g = graph_in t.graph in
    record { taken = taken_of g ((judge-taken (content_lines g)).0 (taken_by (judge (content_lines g)) t.passes)); within = t.within }
  where
    taken_by : (v : Verdict) → is_taken v ≡ true → v ≡ taken
    taken_by taken e = refl
    taken_by (refused k p) e = absurd (contrary false (of_true e) tt)
