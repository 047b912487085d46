-- `reader::judge` meets its contract: each line counts where those before it pass. No answer names a test, so that another order
-- of the tests is refused for what it answers. Assumes nothing.
use Rattle.std.proofs.Common.{rules}
use Rattle.machine.proofs.Refusals.{otherwise}
use Rattle.meaning.specs.Graph.{content_lines}
use Rattle.refusals.specs.Faults.{verdict_of, fault_verdict}
use Rattle.refusals.proofs.Chain.{in_turn, judge-in_turn, otherwise_taken}
use Rattle.reader.specs.Reading.{line_of}
use Rattle.reader.proofs.judge.Goals as goal

pub returns-in_err-classes : goal.returns-in_err-classes
unfolding content_lines line_of in_turn otherwise verdict_of fault_verdict
returns-in_err-classes c = rw judge-in_turn (search rules)

pub returns-in_err-paths : goal.returns-in_err-paths
unfolding content_lines line_of in_turn otherwise verdict_of fault_verdict
returns-in_err-paths c = rw judge-in_turn (search rules)

pub returns-in_err-producers : goal.returns-in_err-producers
unfolding content_lines line_of in_turn otherwise verdict_of fault_verdict
returns-in_err-producers c = rw judge-in_turn (search rules)

pub returns-in_err-branches : goal.returns-in_err-branches
unfolding content_lines line_of in_turn otherwise verdict_of fault_verdict
returns-in_err-branches c = rw judge-in_turn (search rules)

pub returns-in_err-arcs_fit : goal.returns-in_err-arcs_fit
unfolding content_lines line_of in_turn otherwise verdict_of fault_verdict
returns-in_err-arcs_fit c = rw judge-in_turn (search rules)

pub returns : goal.returns
unfolding content_lines line_of in_turn otherwise verdict_of
returns c = rw (judge-in_turn, otherwise_taken) (search rules)
