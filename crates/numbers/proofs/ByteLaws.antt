-- A number of a file by its bytes; bytes beyond the end are 0. Assumes nothing.
use Prim.Native.Nat.{ℕ, zero, suc, ◌+◌, ◌-◌, ◌*◌, ◌^◌, ◌≤◌, ◌<◌}
use native.Mathlib.Nat.{suc-add, zero-add, add-zero, sub-zero, pow-suc, pow-le-pow_right}
use native.Mathlib.Numerals.{one-add}
use native.Mathlib.Omega.{arith}
use mathlib.Core.Path.{◌≡◌, refl, sym, ◌∙◌}
use mathlib.Core.List.{List, [], ◌∷◌}
use lib.ListN.{length, take, drop, length-drop, get_or-eq_default}
use lib.Seq.{take_all, take-nil, drop-nil}
use Rattle.meaning.specs.Graph.{byte_at, little_endian, number_at}
use Rattle.numbers.specs.Reads.{Reads}

pub byte_past : (l : List ℕ) (i : ℕ) → length l ≤ i → byte_at l i ≡ 0
unfolding byte_at
byte_past l i h = get_or-eq_default l 0 h

-- the first byte and the rest
pub number_step : (l : List ℕ) (i size : ℕ) → number_at l i (suc size) ≡ byte_at l i + 256 * number_at l (i + 1) size
unfolding number_at byte_at little_endian
number_step [] i size = simp (take-nil, drop-nil) refl
number_step (x ∷ l) zero size = rw (zero-add (suc size), one-add size) refl
number_step (x ∷ l) (suc i) size = rw (suc-add i (suc size), suc-add i 1, suc-add (i + 1) size) (number_step l i size)

number_none : (l : List ℕ) (i : ℕ) → number_at l i 0 ≡ 0
unfolding number_at little_endian
number_none [] i = simp (take-nil, drop-nil) refl
number_none (x ∷ l) zero = rw (zero-add 0) refl
number_none (x ∷ l) (suc i) = rw (suc-add i 0) (number_none l i)

pub number-one : (l : List ℕ) (i : ℕ) → number_at l i 1 ≡ byte_at l i
number-one l i = rw (number_step l i 0, number_none l (i + 1), add-zero (byte_at l i)) refl

-- a number that starts beyond the end is 0
pub number_past : (l : List ℕ) (i size : ℕ) → length l ≤ i → number_at l i size ≡ 0
number_past l i zero h = number_none l i
number_past l i (suc size) h =
    rw (number_step l i size, byte_past l i h, number_past l (i + 1) size (omega arith)) refl

-- a number by the bytes from its place on
number-from : (l : List ℕ) (i size : ℕ) → number_at (drop i l) 0 size ≡ number_at l i size
unfolding number_at
number-from [] i size = simp (take-nil, drop-nil) refl
number-from (x ∷ l) zero size = refl
number-from (x ∷ l) (suc i) size = rw (suc-add i size) (number-from l i size)

-- The last `n - k` of n bytes: none of them, one more, and all, where they are read of the bytes from i on.
pub none_read : (l : List ℕ) (n k : ℕ) → k ≡ n → Reads (number_at l k (n - k)) (n - k) 0
none_read l n k e =
    let z : n - k ≡ 0 = omega arith in
    record { right = rw z (sym (number_none l k)); small = rw z (omega arith) }

pub one_lower : (l : List ℕ) (n k b r : ℕ) → 0 < k → k ≤ n → Reads (byte_at l (k - 1)) 1 b → Reads (number_at l k (n - k)) (n - k) r
    → Reads (number_at l (k - 1) (n - (k - 1))) (n - (k - 1)) (b + 256 * r)
one_lower l n k b r h m first rest =
    let e : n - (k - 1) ≡ suc (n - k) = omega arith in
    let d : k ≡ k - 1 + 1 = omega arith in
    record {
      right = rw (e, number_step l (k - 1) (n - k), ← d) (cc);
      small = rw (e, pow-suc) (omega arith);
    }

pub all_read : (l rest : List ℕ) (i n k r : ℕ) → k ≡ 0 → rest ≡ take (length l - i) (drop i l) → Reads (number_at rest k (n - k)) (n - k) r
    → Reads (number_at l i n) n r
all_read l rest i n k r e part read =
    let whole : rest ≡ drop i l = part ∙ take_all (length l - i) (drop i l) (omega (arith, length-drop i l)) in
    rw (← number-from l i n, ← whole, ← sub-zero n, ← e) read

-- three of four bytes
pub three_small : (n k r : ℕ) → n ≤ 4 → 0 < k → r < 256 ^ (n - k) → r < 256 ^ 3
three_small n k r h m s = omega (arith, pow-le-pow_right {n = 256} (omega arith) {i = n - k} {j = 3} (omega arith))
