-- Loops that gather a set with `with`: one turn a place, or one turn a source that names its place. Assumes nothing.
use Prim.Native.Nat.{ℕ, ◌+◌, ◌<◌, zero-le}
use native.Mathlib.Numerals.{add-one}
use native.Mathlib.Omega.{arith}
use mathlib.Core.Path.{◌≡◌, refl, sym, ◌∙◌, ap, ap₂}
use mathlib.Core.Logic.{⊎_elim}
use mathlib.Core.Bool.{Bool, false, ◌&&◌, ◌||◌, and-true, and-false, or-false}
use lib.Dec.{eqb, ltb}
use lib.Pow.{pow_pos}
use borrow.Author.Tests.{eq-eqb, ne_eqb, lt-ltb, le-ltb}
use Rattle.machine.specs.Sets.{has, any_below, mask_below}
use Rattle.machine.proofs.Sets.{trichotomy, has-zero, has-mask, mask-same}
use Rattle.masks.proofs.Bits.{is_mask}

-- A test that holds nowhere has the empty set.
pub mask_none : (m : ℕ) (f : ℕ → Bool) → ((i : ℕ) → i < m → f i ≡ false) → 0 ≡ mask_below m f
mask_none m f e = is_mask m 0 f (pow_pos m) (λ i h. has-zero i ∙ sym (e i h))

-- Nothing is gathered yet.
pub gather_start : (m : ℕ) (f : ℕ → Bool) → 0 ≡ mask_below m (λ i. ltb i 0 && f i)
gather_start m f = mask_none m (λ i. ltb i 0 && f i) (λ i h. ap (λ (t : Bool). t && f i) (le-ltb i 0 zero-le))

pub spread_start : (m : ℕ) (f : ℕ → ℕ → Bool) → 0 ≡ mask_below m (λ i. any_below 0 (f i))
unfolding any_below
spread_start m f = mask_none m (λ i. any_below 0 (f i)) (λ i h. refl)

-- One turn: `next` is the set `found`, with j where `on` holds.
module _ (m found next j : ℕ) (on : Bool) (new : next ≡ mask_below m (λ i. has found i || (on && eqb j i))) where
  turn : (f g : ℕ → Bool) → found ≡ mask_below m f → ((i : ℕ) → (f i || (on && eqb j i)) ≡ g i) → next ≡ mask_below m g
  turn f g old e =
      new ∙ mask-same m (λ i. has found i || (on && eqb j i)) g
      (λ i h. ap (λ (t : Bool). t || (on && eqb j i)) (ap (λ (k : ℕ). has k i) old ∙ has-mask m f i h) ∙ e i)

  -- place j joins if the test f holds there
  pub gather_turn : (f : ℕ → Bool) → found ≡ mask_below m (λ i. ltb i j && f i) → on ≡ f j
      → next ≡ mask_below m (λ i. ltb i (j + 1) && f i)
  gather_turn f old e = turn (λ i. ltb i j && f i) (λ i. ltb i (j + 1) && f i) old place
    where
      place : (i : ℕ) → ((ltb i j && f i) || (on && eqb j i)) ≡ (ltb i (j + 1) && f i)
      place i =
          ⊎_elim
          (λ (p : i ≡ j). rw (le-ltb i j (omega arith), lt-ltb i (j + 1) (omega arith), eq-eqb j i (sym p), e, p)
          (and-true (f j)))
          (⊎_elim
          (λ (h : i < j). rw (lt-ltb i j h, lt-ltb i (j + 1) (omega arith), ne_eqb j i (λ p. omega arith), and-false on)
          (or-false (f i)))
          (λ (h : j < i). rw (le-ltb i j (omega arith), le-ltb i (j + 1) (omega arith), ne_eqb j i (λ p. omega arith))
          (and-false on)))
          (trichotomy i j)

  -- the place that source a names joins if the test f holds of a
  pub spread_turn : (f : ℕ → Bool) (at : ℕ → ℕ) (a : ℕ) → found ≡ mask_below m (λ i. any_below a (λ b. f b && eqb (at b) i))
      → on ≡ f a → j ≡ at a → next ≡ mask_below m (λ i. any_below (a + 1) (λ b. f b && eqb (at b) i))
  unfolding any_below
  spread_turn f at a old e p =
      turn (λ i. any_below a (λ b. f b && eqb (at b) i)) (λ i. any_below (a + 1) (λ b. f b && eqb (at b) i)) old
      (λ i. rw (add-one a) (ap₂ (λ (s : Bool) (t : ℕ). any_below a (λ b. f b && eqb (at b) i) || (s && eqb t i)) e p))
