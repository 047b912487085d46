-- `checker::claim::Claim::rows_sound` meets its contract. Assumes nothing.
use mathlib.Core.Path.{◌≡◌}
use Rattle.machine.specs.Sets.{list_below}
use Rattle.machine.specs.Refusals.{taken, judge}
use Rattle.checker.specs.Rows.{row_lines}
use Rattle.checker.specs.Claims.{graph_of, file_of}
use Rattle.checker.proofs.claim.Claim.rows_sound.Given as goal

abbrev pub invariant-loop-i : goal.invariant-loop-i
invariant-loop-i l = judge (list_below l.i (row_lines (graph_of l.self) (file_of l.self))) ≡ taken
