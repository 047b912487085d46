-- `steps::Moves::step_from` meets its contract. The loop's invariant: raised at any bit outside `free` the number is not allowed.
-- Assumes nothing.
use Rattle.steps.specs.Moves.{allows}
use Rattle.steps.proofs.Above.{Searched}
use Rattle.steps.proofs.Moves.step_from.Given as goal

abbrev pub invariant-loop-free : goal.invariant-loop-free
invariant-loop-free l = Searched 32 (allows l.self) l.self.demanded l.from l.free

abbrev pub decreases-loop-free : goal.decreases-loop-free
decreases-loop-free l = l.free
