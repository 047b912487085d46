-- Laws that connect the machine's operations on bits with the members of a set. Assumes nothing.
use Prim.Native.Nat.{ℕ, zero, suc, max, ◌+◌, ◌-◌, ◌*◌, ◌^◌, ◌/◌, ◌%◌, ◌≤◌, ◌<◌}
use native.Mathlib.Nat.{eq-zero-or-pos, div-one, mod-lt, zero-lt-suc, add_comm, sub-zero, one-mul, zero-mul, two-pow-succ, lt_of_le_of_lt, lt_of_lt_of_le, div-lt_iff_lt-mul}
use native.Mathlib.Numerals.{one-add}
use native.Mathlib.Omega.{arith}
use mathlib.Core.Path.{◌≡◌, refl, sym, ◌∙◌, ap, ap₂, subst}
use mathlib.Core.Logic.{⊎_elim}
use mathlib.Core.Bool.{Bool, true, false, cond, not, ◌&&◌, ◌||◌, and-true, and-false, or-false, not-not}
use lib.Dec.{T, eqb, ltb, lit<, eqb→eq, ltb→lt, lt→ltb}
use lib.Arith.{lt-one}
use lib.Bits.{bit_and, bit_or, and_le_l, and_shr, and_mod, or_lt, or_step, or_zero_r, or_shr, or_mod}
use lib.Count.{ones, ones_cat, count_trailing_zeros, under, trailing_of_zero}
use lib.Pow.{pow_pos, pow_mono, pow-lt, ones_lt, shl_exact, split, shr-shr}
use mir.Val.{bool_byte}
use borrow.Author.Tests.{eq-eqb, ne_eqb, lt-ltb, le-ltb}
use Rattle.machine.specs.Sets.{has, any_below, count_below, first_below, mask_below}
use Rattle.machine.proofs.Truth.{and_left, and_right, both, contrary, of_true, of_false, same_test}
use Rattle.machine.proofs.Sets.{First, le-or-lt, any_at, any_of, none_any, any_failed, any_same, first_none, first_unique, has-zero, has-high, has-mod, has-power, has-mask, mask-same, mask_of_has, count_same, member, member_below, set_below}

-- A digit is 0 or 1.
digit_lt : (m : ℕ) → m % 2 < 2
digit_lt m = mod-lt m (zero-lt-suc 1)

-- The members of an intersection and of a union.
pub has-and : (a b j : ℕ) → has (bit_and a b) j ≡ (has a j && has b j)
unfolding has
has-and a b j =
    ap (λ (k : ℕ). eqb (k % 2) 1) (and_shr a b j) ∙ ap (λ (k : ℕ). eqb k 1) (and_mod (a / 2 ^ j) (b / 2 ^ j) 1)
    ∙ digit (a / 2 ^ j % 2) (b / 2 ^ j % 2) (digit_lt (a / 2 ^ j)) (digit_lt (b / 2 ^ j))
  where
    digit : (p q : ℕ) → p < 2 → q < 2 → eqb (bit_and p q) 1 ≡ (eqb p 1 && eqb q 1)
    digit zero zero h k = refl
    digit zero (suc zero) h k = refl
    digit (suc zero) zero h k = refl
    digit (suc zero) (suc zero) h k = refl
    digit zero (suc (suc q)) h k = absurd (omega arith)
    digit (suc zero) (suc (suc q)) h k = absurd (omega arith)
    digit (suc (suc p)) q h k = absurd (omega arith)

pub has-or : (a b j : ℕ) → has (bit_or a b) j ≡ (has a j || has b j)
unfolding has
has-or a b j =
    ap (λ (k : ℕ). eqb (k % 2) 1) (or_shr a b j) ∙ ap (λ (k : ℕ). eqb k 1) (or_mod (a / 2 ^ j) (b / 2 ^ j) 1)
    ∙ digit (a / 2 ^ j % 2) (b / 2 ^ j % 2) (digit_lt (a / 2 ^ j)) (digit_lt (b / 2 ^ j))
  where
    digit : (p q : ℕ) → p < 2 → q < 2 → eqb (bit_or p q) 1 ≡ (eqb p 1 || eqb q 1)
    digit zero zero h k = refl
    digit zero (suc zero) h k = refl
    digit (suc zero) zero h k = refl
    digit (suc zero) (suc zero) h k = refl
    digit zero (suc (suc q)) h k = absurd (omega arith)
    digit (suc zero) (suc (suc q)) h k = absurd (omega arith)
    digit (suc (suc p)) q h k = absurd (omega arith)

-- The set of one number, as the machine shifts it.
pub one_bit : (n j : ℕ) → j < n → 1 * 2 ^ j % 2 ^ n ≡ 2 ^ j
one_bit n j h = shl_exact 1 j n (lit< tt) (omega arith) ∙ one-mul (2 ^ j)

-- The lowest bit is put in.
pub or-one : (m : ℕ) → bit_or m 1 ≡ m / 2 * 2 + 1
or-one m = or_step m 1 ∙ ap₂ (λ (a b : ℕ). a * 2 + b) (or_zero_r (m / 2)) one
  where
    one : max (m % 2) 1 ≡ 1
    one = omega arith

-- The members of a set that is shifted down by k.
pub has-shift : (m k j : ℕ) → has (m / 2 ^ k) j ≡ has m (k + j)
unfolding has
has-shift m k j = ap (λ (n : ℕ). eqb (n % 2) 1) (shr-shr m k j)

-- A test and its opposite part the numbers below n.
mask_opposite : (n : ℕ) (f : ℕ → Bool) → mask_below n f + mask_below n (λ j. not (f j)) + 1 ≡ 2 ^ n
unfolding mask_below
mask_opposite zero f = refl
mask_opposite (suc n) f = one_more (f n) (mask_opposite n f)
  where
    one_more : (b : Bool) → mask_below n f + mask_below n (λ j. not (f j)) + 1 ≡ 2 ^ n
        → mask_below n f + cond b (2 ^ n) 0 + (mask_below n (λ j. not (f j)) + cond (not b) (2 ^ n) 0) + 1 ≡ 2 ^ suc n
    one_more true e = omega (arith, two-pow-succ n)
    one_more false e = omega (arith, two-pow-succ n)

-- The opposite of a set below n, as the machine makes it.
pub opposite : (n m : ℕ) → m < 2 ^ n → 2 ^ n - 1 - m ≡ mask_below n (λ j. not (has m j))
opposite n m h = omega (arith, mask_opposite n (has m), mask_of_has n m h)

pub has_opposite : (n m j : ℕ) → m < 2 ^ n → j < n → has (2 ^ n - 1 - m) j ≡ not (has m j)
has_opposite n m j h l = ap (λ (k : ℕ). has k j) (opposite n m h) ∙ has-mask n (λ i. not (has m i)) j l

-- A set is the set of a test when it is below 2 ^ n and has the members that the test names.
pub is_mask : (n m : ℕ) (f : ℕ → Bool) → m < 2 ^ n → ((j : ℕ) → j < n → has m j ≡ f j) → m ≡ mask_below n f
is_mask n m f h e = sym (mask_of_has n m h) ∙ mask-same n (has m) f e

-- A set is empty exactly when no number below n is a member.
pub empty_test : (n m : ℕ) → m < 2 ^ n → eqb m 0 ≡ not (any_below n (has m))
empty_test n m h =
    same_test (eqb m 0) (not (any_below n (has m)))
    (λ t. none_any n (has m) (λ j l. of_false (ap (λ (k : ℕ). has k j) (eqb→eq m 0 t) ∙ has-zero j)))
    (λ t. of_true (eq-eqb m 0 (⊎_elim (λ (e : m ≡ 0). e) (λ (l : 0 < m). absurd (some t (member n m h l))) (eq-zero-or-pos m))))
  where
    some : T (not (any_below n (has m))) → (j : ℕ) × (j < n) × T (has m j) → ⊥
    some t r = contrary (has m r.0) r.2 (any_failed n (has m) t r.0 r.1)

-- Whether two sets share a member, and whether one has a member that the other lacks, as the machine tests them.
pub share_test : (n a b : ℕ) → a < 2 ^ n → eqb (bit_and a b) 0 ≡ not (any_below n (λ j. has a j && has b j))
share_test n a b h =
    empty_test n (bit_and a b) (lt_of_le_of_lt (and_le_l a b) h)
    ∙ ap not (any_same n (has (bit_and a b)) (λ j. has a j && has b j) (λ j l. has-and a b j))

pub lack_test : (n a b : ℕ) → a < 2 ^ n → b < 2 ^ n
    → eqb (bit_and a (2 ^ n - 1 - b)) 0 ≡ not (any_below n (λ j. has a j && not (has b j)))
lack_test n a b h k =
    share_test n a (2 ^ n - 1 - b) h
    ∙ ap not (any_same n (λ j. has a j && has (2 ^ n - 1 - b) j) (λ j. has a j && not (has b j))
    (λ j l. ap (λ (t : Bool). has a j && t) (has_opposite n b j k l)))

-- All numbers below n.
pub has_ones : (n j : ℕ) → has (2 ^ n - 1) j ≡ ltb j n
has_ones n j =
    ⊎_elim (λ (h : n ≤ j). has-high (2 ^ n - 1) n j (ones_lt n) h ∙ sym (le-ltb j n h))
    (λ (h : j < n). ap (λ (k : ℕ). has k j) (sym (sub-zero (2 ^ n - 1))) ∙ has_opposite n 0 j (pow_pos n) h ∙ ap not (has-zero j)
    ∙ sym (lt-ltb j n h)) (le-or-lt n j)

pub ones_mask : (m n : ℕ) → n ≤ m → 2 ^ n - 1 ≡ mask_below m (λ j. ltb j n)
ones_mask m n h = is_mask m (2 ^ n - 1) (λ j. ltb j n) (lt_of_lt_of_le (ones_lt n) (pow_mono h)) (λ j l. has_ones n j)

-- A number joins a set where a test holds, as the machine does it.
pub joined : (n m j : ℕ) (on : Bool) → m < 2 ^ n → j < n
    → bit_or m (bool_byte on * 2 ^ j % 2 ^ n) ≡ mask_below n (λ i. has m i || (on && eqb j i))
joined n m j true h l =
    ap (bit_or m) (one_bit n j l)
    ∙ is_mask n (bit_or m (2 ^ j)) (λ i. has m i || eqb j i) (or_lt n m (2 ^ j) h (pow-lt l))
    (λ i k. has-or m (2 ^ j) i ∙ ap (λ (t : Bool). has m i || t) (has-power j i))
joined n m j false h l =
    ap (bit_or m) (shl_exact 0 j n (lit< tt) (omega arith) ∙ zero-mul (2 ^ j)) ∙ or_zero_r m
    ∙ is_mask n m (λ i. has m i || false) h (λ i k. sym (or-false (has m i)))

-- A number at or above n cannot join.
pub joined_none : (n m j : ℕ) (on : Bool) → m < 2 ^ n → n ≤ j → m ≡ mask_below n (λ i. has m i || (on && eqb j i))
joined_none n m j on h l =
    is_mask n m (λ i. has m i || (on && eqb j i)) h
    (λ i k. sym (ap (λ (t : Bool). has m i || (on && t)) (ne_eqb j i (λ e. omega arith)) ∙ ap (λ (t : Bool). has m i || t)
    (and-false on)
    ∙ or-false (has m i)))

-- A test holds somewhere below n exactly when it does so below m and n, where below n it holds only below m.
pub any-cut : (m n : ℕ) (f : ℕ → Bool) → ((j : ℕ) → j < n → T (f j) → j < m)
    → any_below m (λ j. f j && ltb j n) ≡ any_below n f
any-cut m n f inside =
    same_test (any_below m (λ j. f j && ltb j n)) (any_below n f)
    (λ t. let r = any_at m (λ j. f j && ltb j n) t in
    any_of n f r.0 (ltb→lt r.0 n (and_right (f r.0) (ltb r.0 n) r.2)) (and_left (f r.0) (ltb r.0 n) r.2))
    (λ t. let r = any_at n f t in
    any_of m (λ j. f j && ltb j n) r.0 (inside r.0 r.1 r.2)
    (both (f r.0) (ltb r.0 n) r.2 (lt→ltb r.0 n r.1)))

-- The members of x below n; `low` is the set of all numbers below n, as far as m.
pub cut-mask : (m n x low : ℕ) → x < 2 ^ m → low ≡ mask_below m (λ j. ltb j n) → bit_and x low ≡ mask_below n (has x)
cut-mask m n x low h e =
    is_mask n (bit_and x low) (has x)
    (set_below n (bit_and x low) (λ j t. ltb→lt j n (and_right (has x j) (ltb j n) (subst T (both_of j) t))))
    (λ j l. both_of j ∙ ap (λ (t : Bool). has x j && t) (lt-ltb j n l) ∙ and-true (has x j))
  where
    both_of : (j : ℕ) → has (bit_and x low) j ≡ (has x j && ltb j n)
    both_of j =
        has-and x low j
        ∙ ⊎_elim (λ (l : m ≤ j). rw (has-high x m j h l) refl)
        (λ (l : j < m). ap (λ (t : Bool). has x j && t) (ap (λ (k : ℕ). has k j) e ∙ has-mask m (λ i. ltb i n) j l))
        (le-or-lt m j)

-- Whether two sets share a member below n, and whether one has a member below n that the other lacks; `low` is the set of
-- all numbers below n, as far as m.
pub shared : (m n a b low : ℕ) → a < 2 ^ m → low ≡ mask_below m (λ j. ltb j n)
    → not (eqb (bit_and (bit_and a b) low) 0) ≡ any_below n (λ j. has a j && has b j)
shared m n a b low h e =
    ap not (share_test m (bit_and a b) low (lt_of_le_of_lt (and_le_l a b) h))
    ∙ not-not (any_below m (λ j. has (bit_and a b) j && has low j))
    ∙ any_same m (λ j. has (bit_and a b) j && has low j) (λ j. (has a j && has b j) && ltb j n)
    (λ j l. ap₂ (λ (s t : Bool). s && t) (has-and a b j) (ap (λ (k : ℕ). has k j) e ∙ has-mask m (λ i. ltb i n) j l))
    ∙ any-cut m n (λ j. has a j && has b j) (λ j l t. member_below m a j h (and_left (has a j) (has b j) t))

pub lacking : (m n a b low : ℕ) → a < 2 ^ m → b < 2 ^ m → low ≡ mask_below m (λ j. ltb j n)
    → not (eqb (bit_and (bit_and a (2 ^ m - 1 - b)) low) 0) ≡ any_below n (λ j. has a j && not (has b j))
lacking m n a b low h k e =
    shared m n a (2 ^ m - 1 - b) low h e
    ∙ any_same n (λ j. has a j && has (2 ^ m - 1 - b) j) (λ j. has a j && not (has b j))
    (λ j l. ⊎_elim (λ (g : m ≤ j). rw (has-high a m j h g) refl)
    (λ (g : j < m). ap (λ (t : Bool). has a j && t) (has_opposite m b j k g)) (le-or-lt m j))

-- The number of ones of a set is the number of its members.
pub ones_count : (n m : ℕ) → m < 2 ^ n → ones m ≡ count_below n (has m)
unfolding count_below has ones
ones_count zero m h = ap ones (lt-one h)
ones_count (suc n) m h =
    ap ones (sym (split m n)) ∙ ones_cat n (m / 2 ^ n) (m % 2 ^ n) (mod-lt m (pow_pos n)) ∙ add_comm (ones (m / 2 ^ n))
    (ones (m % 2 ^ n))
    ∙ ap₂ (λ (a b : ℕ). a + b) (ones_count n (m % 2 ^ n) (mod-lt m (pow_pos n)) ∙ count_same n (has (m % 2 ^ n)) (has m)
    (λ j l. has-mod m n j l))
    (top (m / 2 ^ n) small)
  where
    small : m / 2 ^ n < 2
    small = (div-lt_iff_lt-mul (pow_pos n)).1 (omega (arith, two-pow-succ n))

    top : (q : ℕ) → q < 2 → ones q ≡ cond (eqb (q % 2) 1) 1 0
    top zero l = refl
    top (suc zero) l = refl
    top (suc (suc q)) l = absurd (omega arith)

-- The members of a set are its lowest digit and the members of its half, one higher.
has-low : (m : ℕ) → has m 0 ≡ eqb (m % 2) 1
unfolding has
has-low m = ap (λ (k : ℕ). eqb (k % 2) 1) (div-one m)

has_half : (m i : ℕ) → has m (suc i) ≡ has (m / 2) i
has_half m i = sym (has-shift m 1 i ∙ ap (has m) (one-add i))

-- The number of trailing zeros of a set that is not empty is its least member.
pub lowest : (n m : ℕ) → m < 2 ^ n → 0 < m → First n (has m) (count_trailing_zeros n m)
unfolding count_trailing_zeros
lowest zero m h k = absurd (omega arith)
lowest (suc n) m h k = here (m % 2) refl (lowest n (m / 2))
  where
    here : (d : ℕ) → m % 2 ≡ d → (m / 2 < 2 ^ n → 0 < m / 2 → First n (has (m / 2)) (count_trailing_zeros n (m / 2)))
        → First (suc n) (has m) (under d (count_trailing_zeros n (m / 2)))
    here zero e rest =
        record { below = omega (arith, r.below); holds = rw (has_half m (count_trailing_zeros n (m / 2))) r.holds; least = least }
      where
        r : First n (has (m / 2)) (count_trailing_zeros n (m / 2))
        r = rest (omega (arith, two-pow-succ n)) (omega arith)

        least : (i : ℕ) → i < suc (count_trailing_zeros n (m / 2)) → T (not (has m i))
        least zero l = of_false (has-low m ∙ ap (λ (k : ℕ). eqb k 1) e)
        least (suc i) l = rw (has_half m i) (r.least i (omega arith))
    here (suc d) e rest =
        record {
          below = omega arith;
          holds = of_true (has-low m ∙ ap (λ (k : ℕ). eqb k 1) one);
          least = λ i l. absurd (omega arith);
        }
      where
        one : m % 2 ≡ 1
        one = omega arith

-- the lowest member, and n where there is none
pub first_member : (n m : ℕ) → m < 2 ^ n → count_trailing_zeros n m ≡ first_below n (has m)
first_member n m h =
    ⊎_elim
    (λ (e : m ≡ 0). ap (count_trailing_zeros n) e ∙ trailing_of_zero n
    ∙ sym (first_none n (has m) (none_any n (has m) (λ j l. of_false (ap (λ (k : ℕ). has k j) e ∙ has-zero j)))))
    (λ (k : 0 < m). sym (first_unique n (has m) (count_trailing_zeros n m) (lowest n m h k))) (eq-zero-or-pos m)
