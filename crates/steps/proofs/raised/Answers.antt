-- `steps::raised` meets its contract. Assumes nothing.
use Prim.Native.Nat.{ℕ, ◌+◌, ◌-◌, ◌*◌, ◌^◌, ◌/◌, ◌%◌, ◌<◌}
use native.Mathlib.Nat.{mod-lt}
use native.Mathlib.Omega.{arith}
use mathlib.Core.Path.{◌≡◌, ◌∙◌, ap, ap₂, subst}
use lib.Bits.{bit_and, bit_or, or_lt, or_shifted, and_mask}
use lib.Pow.{pow_pos, pow-lt, shl_exact, shr_lt}
use Rattle.masks.proofs.Bits.{or-one, one_bit}
use Rattle.steps.specs.Moves.{raised}
use Rattle.steps.proofs.raised.Goals as goal

module _ (x j low : ℕ) (h : x < 2 ^ 32) (k : j < 32) where
  above : bit_or (x / 2 ^ j) 1 * 2 ^ j % 2 ^ 32 ≡ (x / 2 ^ j / 2 * 2 + 1) * 2 ^ j
  above =
      shl_exact (32 - j) j 32
      (or_lt (32 - j) (x / 2 ^ j) 1 (shr_lt (32 - j) j (subst (λ (n : ℕ). x < 2 ^ n) whole h)) (pow-lt {i = 0} (omega arith)))
      (omega arith) ∙ ap (λ (a : ℕ). a * 2 ^ j) (or-one (x / 2 ^ j))
    where
      whole : 32 ≡ 32 - j + j
      whole = omega arith

  raised_bits : bit_or (bit_or (x / 2 ^ j) 1 * 2 ^ j % 2 ^ 32) (bit_and low (1 * 2 ^ j % 2 ^ 32 - 1)) ≡ raised x j low
  unfolding raised
  raised_bits =
      ap₂ (λ (a b : ℕ). bit_or a (bit_and low (b - 1))) above (one_bit 32 j k) ∙ ap (bit_or ((x / 2 ^ j / 2 * 2 + 1) * 2 ^ j))
      (and_mask low j)
      ∙ or_shifted (x / 2 ^ j / 2 * 2 + 1) j (low % 2 ^ j) (mod-lt low (pow_pos j))

pub overflow_sub-result : goal.overflow_sub-result
overflow_sub-result c = omega (arith, one_bit 32 c.args.j c.requires, pow_pos c.args.j)

pub returns : goal.returns
returns c = raised_bits c.args.x c.args.j c.args.low c.ranges.x.fits c.requires
