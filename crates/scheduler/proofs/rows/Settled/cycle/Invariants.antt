-- `scheduler::rows::Settled::cycle` meets its contract. The loop's invariant: the words before `word` have passed. Assumes nothing.
use Rattle.parts.specs.Fields.{graph_in}
use Rattle.scheduler.proofs.RowLaws.{Passing}
use Rattle.scheduler.proofs.rows.Settled.cycle.Given as goal

abbrev pub invariant-loop-word : goal.invariant-loop-word
invariant-loop-word l = Passing (graph_in l.self.taken.now.graph) l.past l.word l.initial.rows l.rows l.states
