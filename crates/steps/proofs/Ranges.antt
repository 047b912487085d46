-- Whether a test holds of all numbers of a range, or of some, and of how many, as the library says it, is so of the numbers below
-- its end. Assumes nothing.
use Prim.Native.Nat.{ℕ, zero, suc, ◌+◌}
use native.Mathlib.Omega.{arith}
use mathlib.Core.Path.{◌≡◌, refl, sym, ◌∙◌, ap}
use mathlib.Core.Bool.{Bool, true, false, cond, ◌&&◌, and-true, ◌||◌, or-false}
use mathlib.Core.List.{List, ◌∷◌}
use lib.ListN.{length}
use Rattle.std.proofs.Math.Bool.{and_assoc}
use Rattle.std.specs.List.{list_all, list_any, filter, range_with_len}
use Rattle.std.proofs.lemmas.Grind.{common_steps}
use Rattle.machine.specs.Sets.{all_below, any_below, count_below}
use Rattle.machine.proofs.Sets.{all_same, any_same, count_same}

all_first : (n : ℕ) (f : ℕ → Bool) → (f 0 && all_below n (λ i. f (suc i))) ≡ all_below (suc n) f
unfolding all_below
all_first zero f = and-true (f 0)
all_first (suc n) f =
    sym (and_assoc (f 0) (all_below n (λ i. f (suc i))) (f (suc n))) ∙ ap (λ (t : Bool). t && f (suc n)) (all_first n f)

all_from : (f : ℕ → Bool) (a n : ℕ) → list_all f (range_with_len a n) ≡ all_below n (λ i. f (a + i))
unfolding all_below
all_from f a zero = refl
all_from f a (suc n) =
    ap (λ (t : Bool). f a && t) (all_from f (a + 1) n ∙ all_same n (λ i. f (a + 1 + i)) (λ i. f (a + suc i)) (λ i h. ap f (omega arith)))
    ∙ ap (λ (k : ℕ). f k && all_below n (λ i. f (a + suc i))) (omega arith) ∙ all_first n (λ i. f (a + i))

pub all_of_range : (f : ℕ → Bool) (n : ℕ) → list_all f (range_with_len 0 n) ≡ all_below n f
all_of_range f n = all_from f 0 n ∙ all_same n (λ i. f (0 + i)) f (λ i h. ap f (omega arith))

or_assoc : (a b c : Bool) → ((a || b) || c) ≡ (a || (b || c))
or_assoc true b c = refl
or_assoc false b c = refl

any_first : (n : ℕ) (f : ℕ → Bool) → (f 0 || any_below n (λ i. f (suc i))) ≡ any_below (suc n) f
unfolding any_below
any_first zero f = or-false (f 0)
any_first (suc n) f =
    sym (or_assoc (f 0) (any_below n (λ i. f (suc i))) (f (suc n))) ∙ ap (λ (t : Bool). t || f (suc n)) (any_first n f)

any_from : (f : ℕ → Bool) (a n : ℕ) → list_any f (range_with_len a n) ≡ any_below n (λ i. f (a + i))
unfolding any_below
any_from f a zero = refl
any_from f a (suc n) =
    ap (λ (t : Bool). f a || t) (any_from f (a + 1) n ∙ any_same n (λ i. f (a + 1 + i)) (λ i. f (a + suc i)) (λ i h. ap f (omega arith)))
    ∙ ap (λ (k : ℕ). f k || any_below n (λ i. f (a + suc i))) (omega arith) ∙ any_first n (λ i. f (a + i))

pub any_of_range : (f : ℕ → Bool) (n : ℕ) → list_any f (range_with_len 0 n) ≡ any_below n f
any_of_range f n = any_from f 0 n ∙ any_same n (λ i. f (0 + i)) f (λ i h. ap f (omega arith))

count_first : (n : ℕ) (f : ℕ → Bool) → cond (f 0) 1 0 + count_below n (λ i. f (suc i)) ≡ count_below (suc n) f
unfolding count_below
count_first zero f = omega arith
count_first (suc n) f = omega (arith, count_first n f)

kept : (f : ℕ → Bool) (x : ℕ) (xs : List ℕ) → length (filter f (x ∷ xs)) ≡ cond (f x) 1 0 + length (filter f xs)
kept f x xs = grind (arith, common_steps)

count_from : (f : ℕ → Bool) (a n : ℕ) → length (filter f (range_with_len a n)) ≡ count_below n (λ i. f (a + i))
unfolding count_below
count_from f a zero = refl
count_from f a (suc n) =
    kept f a (range_with_len (a + 1) n)
    ∙ ap (λ (t : ℕ). cond (f a) 1 0 + t) (count_from f (a + 1) n ∙ count_same n (λ i. f (a + 1 + i)) (λ i. f (a + suc i)) (λ i h. ap f (omega arith)))
    ∙ ap (λ (k : ℕ). cond (f k) 1 0 + count_below n (λ i. f (a + suc i))) (omega arith) ∙ count_first n (λ i. f (a + i))

pub count_of_range : (f : ℕ → Bool) (n : ℕ) → length (filter f (range_with_len 0 n)) ≡ count_below n f
count_of_range f n = count_from f 0 n ∙ count_same n (λ i. f (0 + i)) f (λ i h. ap f (omega arith))
