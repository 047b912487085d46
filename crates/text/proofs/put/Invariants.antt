-- `text::put` meets its contract. What is left of the bytes, laid behind those that are written, makes the whole. Assumes
-- nothing.
use Prim.Native.Nat.{◌+◌, ◌≤◌}
use mathlib.Core.Path.{◌≡◌}
use lib.ListN.{length, drop}
use Rattle.text.specs.Writing.{laid}
use Rattle.text.proofs.put.Given as goal

abbrev pub invariant-loop-i : goal.invariant-loop-i
invariant-loop-i l =
    (l.i ≤ l.room) × (length l.out ≡ length l.initial.out) × (laid l.out (l.at + l.i) (drop l.i l.bytes) ≡ laid l.initial.out l.at l.bytes)
