-- `scheduler::rows::Settled::chosen` meets its contract. The loop's invariant: the steps below `from` do not attain the bound.
-- Assumes nothing.
use Prim.Native.Nat.{◌-◌}
use Rattle.parts.specs.Fields.{graph_in, state_of}
use Rattle.scheduler.proofs.Chosen.{Passed}
use Rattle.scheduler.proofs.rows.Settled.chosen.Given as goal

abbrev pub invariant-loop-step : goal.invariant-loop-step
invariant-loop-step l = Passed (graph_in l.self.taken.now.graph) (state_of l.s) l.bound l.from

abbrev pub decreases-loop-step : goal.decreases-loop-step
decreases-loop-step l = l.moves.steps - l.from
