-- `masks::fits` meets its contract. Assumes nothing.
use Prim.Native.Nat.{ℕ, ◌^◌, ◌/◌, ◌<◌}
use native.Mathlib.Nat.{div-eq_of_lt, div-lt_iff_lt-mul, lt_of_lt_of_le}
use native.Mathlib.Omega.{arith}
use mathlib.Core.Path.{◌≡◌, refl}
use borrow.Author.Tests.{eq-eqb, lt-ltb, le-leb}
use lib.Dec.{eqb, ltb, eqb→eq, ltb→lt, lt→ltb}
use lib.Pow.{pow_pos, pow_mono}
use Rattle.machine.proofs.Truth.{of_true, same_test}
use Rattle.masks.proofs.fits.Goals as goal

pub returns-else-n-ge32 : goal.returns-else-n-ge32
returns-else-n-ge32 c =
    let m = c.args.m in
    let n = c.args.n in
    same_test (eqb (m / 2 ^ n) 0) (ltb m (2 ^ n)) (λ t. lt→ltb m (2 ^ n) (low m n (eqb→eq (m / 2 ^ n) 0 t)))
    (λ t. of_true (eq-eqb (m / 2 ^ n) 0 (div-eq_of_lt (ltb→lt m (2 ^ n) t))))
  where
    low : (m n : ℕ) → m / 2 ^ n ≡ 0 → m < 2 ^ n
    low m n e = omega (arith, (div-lt_iff_lt-mul {x = m} {y = 1} (pow_pos n)).0 (omega arith))

pub returns-then-n-ge32 : goal.returns-then-n-ge32
returns-then-n-ge32 c =
    let most : c.args.m < 2 ^ c.args.n = lt_of_lt_of_le c.ranges.m.fits (pow_mono c.if-n-ge32.true) in
    simp (le-leb 32 c.args.n c.if-n-ge32.true, lt-ltb c.args.m (2 ^ c.args.n) most) refl
