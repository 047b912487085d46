-- `scheduler::search::settle` and `settle_after` call each other, on states of lower rank from call to call. The loop over steps
-- keeps the least over the steps tried, the one over words the worst over the words tried. Assumes nothing.
use Prim.Native.Nat.{◌-◌, ◌+◌, ◌*◌}
use Rattle.meaning.proofs.Instance.{undone}
use Rattle.parts.specs.Fields.{graph_in, state_of}
use Rattle.scheduler.proofs.Turns.{Tried, Branched}
use Rattle.scheduler.proofs.search.+settle.Given as goal

abbrev pub decreases-settle : goal.decreases-settle
decreases-settle l = 2 * undone (graph_in l.taken.now.graph) (state_of l.s) + 1

abbrev pub decreases-settle_after : goal.decreases-settle_after
decreases-settle_after l = 2 * undone (graph_in l.taken.now.graph) (state_of l.s)

abbrev pub invariant-settle-loop-step : goal.invariant-settle-loop-step
invariant-settle-loop-step l = Tried (graph_in l.taken.graph) (state_of l.s) l.initial.slots.slots.now l.slots.slots.now l.least l.from

abbrev pub decreases-settle-loop-step : goal.decreases-settle-loop-step
decreases-settle-loop-step l = l.moves.steps - l.from

abbrev pub invariant-settle_after-loop-word : goal.invariant-settle_after-loop-word
invariant-settle_after-loop-word l =
    Branched (graph_in l.taken.graph) (state_of l.fn.s) l.step l.initial.slots.slots.now l.slots.slots.now l.worst l.word
