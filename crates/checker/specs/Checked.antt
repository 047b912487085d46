-- What the checker's answer says, and where the query's part lies.
use Rattle.std.specs.Prelude.{ℕ, ◌+◌, ◌-◌, ◌≡◌, List, take, drop, Result, Ok, Err}
use Rattle.std.specs.Borrow.{Bor}
use Rattle.machine.specs.Refusals.{taken}
use Rattle.meaning.specs.Answers.{Answer, Part}
use Rattle.refusals.specs.declared.Fault.{Fault}
use Rattle.refusals.specs.Faults.{fault_verdict}
use Rattle.checker.specs.declared.Acceptance.{Acceptance}
use Rattle.checker.specs.declared.Span.{Span}

-- the verdict and the values of the checker's answer
unfoldable pub values_of : Result Acceptance Fault → Answer
values_of (Err fault) = record { verdict = fault_verdict fault; cycles = 0; rows = 0; states = 0 }
values_of (Ok accepted) = record { verdict = taken; cycles = accepted.cycles; rows = accepted.rows; states = 0 }

-- the part of a span
unfoldable pub part_of : Span → Part
part_of s = record { start = s.start; end = s.end }

-- r is this part of the lent bytes: what it holds, and where it lies, in the same block and from the part's start
pub record Lies (part : Part) (whole r : Bor (List ℕ)) : Type 0 where
  pub holds : r.now ≡ take (part.end - part.start) (drop part.start whole.now)
  pub block : r.ref_ptr.0 ≡ whole.ref_ptr.0
  pub place : r.ref_ptr.1 ≡ whole.ref_ptr.1 + part.start
