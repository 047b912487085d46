-- An answer of the scheduler, handed on with its fault as a number and a place, has the same values. Assumes nothing.
use Rattle.std.proofs.Common.{ℕ, ◌≡◌, ap}
use Rattle.std.specs.Prelude.{Result, Ok, Err, MatchResult, IsErrAnd}
use Rattle.refusals.specs.declared.Fault.{Fault}
use Rattle.refusals.specs.Faults.{number_of, fault_verdict}
use Rattle.scheduler.specs.declared.Scheduled.{Scheduled}
use Rattle.scheduler.specs.Promise.{values_of}
use Rattle.listing.specs.Listed.{answer_of}

pub handed : {P : Fault → ℕ × ℕ → Type 0} → ((f : Fault) (p : ℕ × ℕ) → P f p → p ≡ (number_of f.refusal, f.place))
    → (r : Result Scheduled Fault) (s : Result Scheduled (ℕ × ℕ)) → MatchResult r (λ x. s ≡ Ok x) (λ e. IsErrAnd s (P e))
    → answer_of s ≡ values_of r
unfolding answer_of values_of fault_verdict
handed right (Ok schedule) s is = ap answer_of is
handed right (Err fault) (Ok schedule) is = elim is [ ]
handed right (Err fault) (Err p) is = ap (λ (q : ℕ × ℕ). answer_of (Err q)) (right fault p is)
