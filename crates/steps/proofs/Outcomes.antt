-- Demand 2 for the code: the states that a fork leads to, on the words that say nothing but how the controls begun fall, are
-- 2^m for a legal step with m controls among its members. Assumes nothing.
use Prim.Native.Nat.{ℕ, ◌^◌, ◌<◌}
use native.Mathlib.Nat.{lt_of_lt_of_le, lt_of_le_of_lt}
use native.Mathlib.Omega.{arith}
use mathlib.Core.Path.{◌≡◌, sym, ◌∙◌, subst}
use lib.Bits.{bit_and, and_le_l, and_le_r}
use lib.Dec.{T}
use lib.Pow.{pow_mono}
use Rattle.machine.specs.Sets.{has, count_below}
use Rattle.machine.proofs.Reach.{CountOf, count_same}
use Rattle.meaning.specs.Graph.{Graph, control_count, producer}
use Rattle.meaning.specs.Steps.{State, legal, machine_of}
use Rattle.meaning.proofs.Taken.{Accepted, few-controls}
use Rattle.meaning.proofs.Outcomes.{NextState, legal_outcomes_counted}
use Rattle.steps.specs.Forks.{begun, fork_of, falls, fallen}
use Rattle.steps.proofs.After.{begun-below, after_outcome, fallen-after, part_falls, falls_part}

module _ (g : Graph) (ok : Accepted g) (s : State) (small : s.values < 2 ^ 32) (step : ℕ) where
  -- the fork leads to r on a word, of 32 bits, that says nothing but how the controls begun fall
  abbrev pub FallsTo : State → Type 0
  FallsTo r = (word : ℕ) × (word < 2 ^ 32) × T (falls (fork_of g s step) word) × (r ≡ fallen (fork_of g s step) word)

  to : (r : State) → NextState g s step r → FallsTo r
  unfolding fork_of
  to r n = (part, below, part_falls (fork_of g s step) word, n.2 ∙ after_outcome g s step word wide ∙ sym (fallen-after g s step part small below))
    where
      word : ℕ
      word = n.0

      wide : word < 2 ^ 32
      wide = lt_of_lt_of_le n.1 (pow_mono {i = control_count g} {j = 32} (omega (arith, few-controls ok.within)))

      part : ℕ
      part = bit_and word (begun g s.done step)

      below : part < 2 ^ 32
      below = lt_of_le_of_lt (and_le_l word (begun g s.done step)) wide

  from : (r : State) → FallsTo r → NextState g s step r
  unfolding fork_of
  from r f = (
    f.0,
    subst (λ (w : ℕ). w < 2 ^ control_count g) (falls_part (fork_of g s step) f.0 f.1 f.2)
        (lt_of_le_of_lt (and_le_r f.0 (begun g s.done step)) (begun-below g s step)),
    f.3 ∙ fallen-after g s step f.0 small f.1,
  )

  pub forks_counted : T (legal g s step)
      → CountOf (machine_of g) FallsTo (2 ^ count_below (control_count g) (λ b. has step (producer g b)))
  forks_counted lawful = count_same (machine_of g) to from (legal_outcomes_counted g s step ok.taken lawful)
