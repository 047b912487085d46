-- A line whose places are those of a table's rows, counted from 1, looks at no place beyond u32. Assumes nothing.
use Prim.Native.Nat.{ℕ, suc, ◌+◌, ◌^◌}
use native.Mathlib.Numerals.{add-one}
use native.Mathlib.Omega.{arith}
use mathlib.Core.Path.{◌≡◌, refl, ◌∙◌, ap}
use mathlib.Core.Bool.{Bool, cond, ◌&&◌}
use mathlib.Core.List.{[], ◌∷◌}
use lib.Dec.{ltb}
use borrow.Author.Tests.{lt-ltb}
use Rattle.machine.specs.Refusals.{line, taken, refused, judge}
use Rattle.machine.proofs.Sets.{first-same}
use Rattle.numbers.specs.Reads.{Reads}

pub near_places : (k rows n : ℕ) (f : ℕ → Bool) → Reads rows 2 n
    → judge (line k (n + 1) (λ p. ltb p (2 ^ 32) && f p) ∷ []) ≡ judge (line k (suc rows) f ∷ [])
unfolding judge
near_places k rows n f h =
    ap (λ (p : ℕ). cond (ltb p (n + 1)) (refused k p) taken) (first-same (n + 1) (λ p. ltb p (2 ^ 32) && f p) f (λ i l. rw (lt-ltb i (2 ^ 32) (omega (arith, h.small))) refl))
    ∙ ap (λ (m : ℕ). judge (line k m f ∷ [])) (add-one n ∙ ap suc h.right)
