-- What a loop over the numbers below a bound has found at its end. What it carries from turn to turn is `SoFar`; that it
-- holds at first and after one more turn is the kit's `below_none` and `below_more`. Assumes nothing.
use Prim.Native.Nat.{ℕ, ◌+◌, ◌≤◌, ◌<◌}
use native.Mathlib.Numerals.{add-one}
use native.Mathlib.Omega.{arith}
use mathlib.Core.Path.{◌≡◌, refl}
use mathlib.Core.Bool.{Bool, true, false, cond}
use Rattle.machine.specs.Sets.{all_below, any_below, count_below}
use Rattle.machine.proofs.Truth.{contrary, refuted, true_of, false_of, of_true, of_false}
use Rattle.machine.proofs.Sets.{all-at, all_of, any_of, none_any}

-- the loop has passed the numbers below i, and its test said `on` at each
abbrev pub SoFar : (ℕ → Bool) → Bool → ℕ → Type 0
SoFar f on i = (k : ℕ) → k < i → f k ≡ on

module _ (f : ℕ → Bool) (n i : ℕ) where
  -- a search: found at i, and not found
  pub any_found : i < n → f i ≡ true → any_below n f ≡ true
  any_found h at = true_of (any_below n f) (any_of n f i h (of_true at))

  pub any_none : n ≤ i → SoFar f false i → any_below n f ≡ false
  any_none h past = false_of (any_below n f) (none_any n f (λ k l. of_false (past k (omega arith))))

  -- a test of all: it fails at i, and holds at each
  pub all_broken : i < n → f i ≡ false → all_below n f ≡ false
  all_broken h at = false_of (all_below n f) (refuted (all_below n f) (λ t. contrary (f i) (all-at n f t i h) (of_false at)))

  pub all_done : n ≤ i → SoFar f true i → all_below n f ≡ true
  all_done h past = true_of (all_below n f) (all_of n f (λ k l. of_true (past k (omega arith))))

-- a count: one more number, which counts or not
pub count_more : (f : ℕ → Bool) (i : ℕ) (on : Bool) → f i ≡ on → count_below (i + 1) f ≡ count_below i f + cond on 1 0
unfolding count_below
count_more f i on at = rw (add-one, at) refl
