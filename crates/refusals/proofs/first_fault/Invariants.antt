-- Whatever the test computes at the places, it has failed at every one so far. Assumes nothing.
use Rattle.std.proofs.Common.{◌≡◌, ℕ, ◌<◌, Bool, false}
use Rattle.machine.proofs.Loops.{SoFar}
use Rattle.refusals.proofs.first_fault.Given as goal

abbrev pub invariant-loop-place : goal.invariant-loop-place
invariant-loop-place g l =
    (fault : ℕ → Bool) → ((p : ℕ) (r : Bool) → p < l.places → goal.F-post g l.test p r → r ≡ fault p) → SoFar fault false l.place
