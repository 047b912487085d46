-- Document 02, request 01, the writer of graph files: the one file of a graph's content, its refusals, what it answers, and the output
-- afterwards.
use Rattle.std.specs.Prelude.{ℕ, ◌+◌, ◌%◌, Bool, cond, not, ◌&&◌, List, [], ◌∷◌, ◌++◌, length, drop, eqb, ltb}
use Rattle.machine.specs.Refusals.{Line, placeless, Verdict, taken, refused, judge}
use Rattle.meaning.specs.Graph.{Graph, known, too_many, operation_bytes, arc_bytes, operation_count, class_count, control_count, arc_count, content_lines}
use Rattle.meaning.specs.TableFile.{bytes_of}
use Rattle.meaning.specs.Answers.{is_taken}

-- The operations or the arcs end inside a record. A limit and a control are records of one byte.
unfoldable pub torn : ℕ → List ℕ → List ℕ → Bool
torn edition operations arcs = not (eqb (length operations % operation_bytes edition) 0 && eqb (length arcs % arc_bytes) 0)

module _ (g : Graph) where
  -- the header, of sixteen bytes: mark, edition, counts, and where each part stands
  unfoldable pub graph_header : List ℕ
  graph_header =
      let operations_at = 16 + length g.limits in
      let controls_at = operations_at + length g.operations in
      let arcs_at = controls_at + length g.controls in
      0x48 ∷ 0x53 ∷ g.edition ∷ operation_count g ∷ class_count g ∷ control_count g ∷ bytes_of 2 (arc_count g)
      ++ bytes_of 2 16 ++ bytes_of 2 operations_at ++ bytes_of 2 controls_at ++ bytes_of 2 arcs_at

  -- the file: the header, then the parts
  unfoldable pub graph_file : List ℕ
  graph_file = graph_header ++ g.limits ++ g.operations ++ g.controls ++ g.arcs

  -- Refusals 2, 3 and 5, of the lists: 3 counts whole records, and 5 is for a list that ends inside one.
  unfoldable pub list_lines : List Line
  list_lines =
      placeless 2 (not (known g.edition))
      ∷ placeless 3 (too_many g.edition (operation_count g) (class_count g) (control_count g) (arc_count g))
      ∷ placeless 5 (torn g.edition g.operations g.arcs)
      ∷ []

  -- Then 6 to 11, the reader's own, and 14, for the length of the lent output.
  unfoldable pub write_lines : ℕ → List Line
  write_lines room = list_lines ++ content_lines g ++ (placeless 14 (ltb room (length graph_file)) ∷ [])

-- What the writer answers: the verdict with the file's length, which is zero after a refusal.
pub record Writing : Type 0 where
  pub verdict : Verdict
  pub length : ℕ

unfoldable pub writing : Verdict → ℕ → Writing
writing taken n = record { verdict = taken; length = n }
writing (refused k p) n = record { verdict = refused k p; length = 0 }

-- The writer, for a graph's content and the output lent.
module _ (g : Graph) (output : List ℕ) where
  unfoldable pub write_verdict : Verdict
  write_verdict = judge (write_lines g (length output))

  unfoldable pub writer : Writing
  writer = writing write_verdict (length (graph_file g))

  -- the output afterwards: after success the file and then what stood there, else as it was
  unfoldable pub output_after : List ℕ
  output_after = cond (is_taken write_verdict) (graph_file g ++ drop (length (graph_file g)) output) output
