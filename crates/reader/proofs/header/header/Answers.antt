-- `reader::header::header` meets its contract: each line counts where those before it pass. Assumes nothing.
use Rattle.std.proofs.Common.{rules}
use Rattle.machine.proofs.Refusals.{otherwise}
use Rattle.meaning.specs.Graph.{file_lines}
use Rattle.refusals.specs.Faults.{number_of, verdict_of, fault_verdict}
use Rattle.refusals.proofs.Chain.{in_turn, judge-in_turn, otherwise_taken}
use Rattle.reader.specs.Reading.{line_of}
use Rattle.reader.proofs.header.header.Goals as goal

pub returns-in_err-refuse_if : goal.returns-in_err-refuse_if
unfolding file_lines line_of number_of in_turn otherwise verdict_of fault_verdict
returns-in_err-refuse_if c = rw judge-in_turn (search rules)

pub returns-in_err-refuse_if-2 : goal.returns-in_err-refuse_if-2
unfolding file_lines line_of number_of in_turn otherwise verdict_of fault_verdict
returns-in_err-refuse_if-2 c = rw judge-in_turn (search rules)

pub returns-in_err-refuse_if-3 : goal.returns-in_err-refuse_if-3
unfolding file_lines line_of number_of in_turn otherwise verdict_of fault_verdict
returns-in_err-refuse_if-3 c = rw judge-in_turn (search rules)

pub returns-in_err-refuse_if-4 : goal.returns-in_err-refuse_if-4
unfolding file_lines line_of number_of in_turn otherwise verdict_of fault_verdict
returns-in_err-refuse_if-4 c = rw judge-in_turn (search rules)

pub returns : goal.returns
unfolding file_lines line_of number_of in_turn otherwise verdict_of
returns c = rw (judge-in_turn, otherwise_taken) (search rules)
