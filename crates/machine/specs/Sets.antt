-- Sets as numbers, and tests, counts and lists over the numbers below a bound.
use Rattle.std.specs.Prelude.{ℕ, zero, suc, ◌+◌, ◌^◌, ◌/◌, ◌%◌, Bool, true, false, cond, ◌&&◌, ◌||◌, List, [], ◌++◌, eqb}

-- the set m has the member j: bit j of m is 1
unfoldable pub has : ℕ → ℕ → Bool
has m j = eqb (m / 2 ^ j % 2) 1

-- f holds at every number below n
unfoldable pub all_below : ℕ → (ℕ → Bool) → Bool
all_below zero f = true
all_below (suc n) f = all_below n f && f n

-- f holds at some number below n
unfoldable pub any_below : ℕ → (ℕ → Bool) → Bool
any_below zero f = false
any_below (suc n) f = any_below n f || f n

-- at how many numbers below n f holds
unfoldable pub count_below : ℕ → (ℕ → Bool) → ℕ
count_below zero f = 0
count_below (suc n) f = count_below n f + cond (f n) 1 0

-- the least number below n at which f holds; n where there is none
unfoldable pub first_below : ℕ → (ℕ → Bool) → ℕ
first_below zero f = 0
first_below (suc n) f = cond (any_below n f) (first_below n f) (cond (f n) n (suc n))

-- the set of the numbers below n at which f holds
unfoldable pub mask_below : ℕ → (ℕ → Bool) → ℕ
mask_below zero f = 0
mask_below (suc n) f = mask_below n f + cond (f n) (2 ^ n) 0

-- the lists f gives at 0, 1 and on below n, one after the other
unfoldable pub list_below {ℓ} : {A : Type ℓ} → ℕ → (ℕ → List A) → List A
list_below zero f = []
list_below (suc n) f = list_below n f ++ f n
