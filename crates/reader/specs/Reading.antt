-- What the reader's answer says in the terms of the refusal table, and lines of that table.
use Rattle.std.specs.Prelude.{ℕ, ◌≡◌, Bool, cond, false, List, [], ◌∷◌, eqb, Result, Ok, Err}
use Rattle.std.specs.Borrow.{Bor}
use Rattle.machine.specs.Refusals.{Line, placeless, Verdict, taken, judge}
use Rattle.meaning.specs.Graph.{Graph, content, content_lines}
use Rattle.meaning.specs.Answers.{Reading}
use Rattle.parts.specs.declared.Counts.{Counts}
use Rattle.parts.specs.Fields.{graph_in, Cut}
use Rattle.refusals.specs.declared.Fault.{Fault}
use Rattle.refusals.specs.Faults.{fault_verdict}
use Rattle.reader.specs.declared.taken.TakenGraph.{TakenGraph}

-- the number and the values of the reader's answer
unfoldable pub values_of : Result Counts Fault → Reading
values_of (Err fault) = record { verdict = fault_verdict fault; operations = 0; classes = 0; controls = 0; arcs = 0 }
values_of (Ok counts) =
    record {
      verdict = taken;
      operations = counts.operations;
      classes = counts.classes;
      controls = counts.controls;
      arcs = counts.arcs;
    }

-- a graph that is taken is the one that its file holds, in parts that are lent where they stand
pub record Holds (file : Bor (List ℕ)) (r : TakenGraph) : Type 0 where
  pub graph : graph_in r.graph ≡ content file.now
  pub cut : Cut file r.graph

-- the line of number k in a refusal table
unfoldable pub line_of : ℕ → List Line → Line
line_of k [] = placeless k false
line_of k (l ∷ ls) = cond (eqb l.number k) l (line_of k ls)

-- whether place i is at fault by refusal k, for k from 6 to 11, and the verdict of that refusal alone
abbrev pub fault_at : ℕ → Graph → ℕ → Bool
fault_at k g = (line_of k (content_lines g)).fault

abbrev pub verdict_at : ℕ → Graph → Verdict
verdict_at k g = judge (line_of k (content_lines g) ∷ [])
