-- What the writer promises, and the parts of its work.
use Rattle.std.specs.Prelude.{ℕ, ◌+◌, ◌≡◌, List, length, Result, Ok, Err}
use Rattle.machine.specs.Refusals.{taken}
use Rattle.meaning.specs.Graph.{Graph}
use Rattle.meaning.specs.Writer.{Writing, writer, output_after}
use Rattle.parts.specs.declared.Starts.{Starts}
use Rattle.refusals.specs.declared.Fault.{Fault}
use Rattle.refusals.specs.Faults.{fault_verdict}

-- the number and the values of the writer's answer
unfoldable pub values_of : Result ℕ Fault → Writing
values_of (Err fault) = record { verdict = fault_verdict fault; length = 0 }
values_of (Ok length) = record { verdict = taken; length = length }

-- The promise, for a graph's content and the output lent: the answer, and the output afterwards.
pub record Promised (g : Graph) (before : List ℕ) (r : Result ℕ Fault) (after : List ℕ) : Type 0 where
  pub answers : values_of r ≡ writer g before
  pub writes : after ≡ output_after g before

-- Inside: r has the places where the parts of a graph start in its file, and where the last ends.
pub record StartsOf (g : Graph) (r : Starts) : Type 0 where
  pub operations-at : r.operations ≡ 16 + length g.limits
  pub controls-at : r.controls ≡ 16 + length g.limits + length g.operations
  pub arcs-at : r.arcs ≡ 16 + length g.limits + length g.operations + length g.controls
  pub ends : r.end ≡ 16 + length g.limits + length g.operations + length g.controls + length g.arcs
