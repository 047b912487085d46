-- `numbers::number` meets its contract. The bytes are read from the last to the first. Assumes nothing.
use Prim.Native.Nat.{min, ◌-◌, ◌≤◌}
use Rattle.meaning.specs.Graph.{number_at}
use Rattle.numbers.specs.Reads.{Reads}
use Rattle.numbers.proofs.number.Given as goal

abbrev pub invariant-loop-j : goal.invariant-loop-j
invariant-loop-j l =
    (l.j ≤ min l.size 4) × Reads (number_at l.rest l.j (min l.size 4 - l.j)) (min l.size 4 - l.j) l.number
