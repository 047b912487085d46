-- `scheduler::search::next_step` meets its contract. Assumes nothing.
use Rattle.scheduler.proofs.Moves.{step_found}
use Rattle.scheduler.proofs.search.next_step.Goals as goal

pub returns : goal.returns
returns c g s w m h =
    let a = c.args in
    step_found g w s a.moves.now a.from c.step_from.result m h c.step_from.ensures
