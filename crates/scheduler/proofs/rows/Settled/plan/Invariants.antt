-- `scheduler::rows::Settled::plan` meets its contract. The loop's invariant: the states are those after the cycles past, whose rows
-- are laid. Assumes nothing.
use Prim.Native.Nat.{◌^◌}
use Rattle.machine.specs.Sets.{list_below}
use Rattle.meaning.specs.Graph.{control_count}
use Rattle.parts.specs.Fields.{graph_in}
use Rattle.scheduler.specs.Rows.{Meets, cycle_rows, Lays}
use Rattle.scheduler.proofs.rows.Settled.plan.Given as goal

abbrev pub invariant-loop-past : goal.invariant-loop-past
invariant-loop-past l =
    let g = graph_in l.self.taken.now.graph in
    Meets g l.past 0 (2 ^ control_count g) l.states × Lays g l.initial.rows l.rows (list_below l.past (cycle_rows g))
