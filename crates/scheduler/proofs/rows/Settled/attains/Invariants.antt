-- `scheduler::rows::Settled::attains` meets its contract. The loop's invariant: the words before `word` attain the bound. Assumes
-- nothing.
use Rattle.parts.specs.Fields.{graph_in, state_of}
use Rattle.scheduler.proofs.Chosen.{Attained}
use Rattle.scheduler.proofs.rows.Settled.attains.Given as goal

abbrev pub invariant-loop-word : goal.invariant-loop-word
invariant-loop-word l = Attained (graph_in l.self.taken.now.graph) (state_of l.fn.s) l.step l.bound l.word
