-- Lost literals, by masks. Assumes nothing.
use Prim.Native.Nat.{ℕ, ◌-◌, ◌^◌, ◌<◌}
use mathlib.Core.Path.{◌≡◌, ◌∙◌, ap, ap₂}
use mathlib.Core.Logic.{⊎_elim}
use mathlib.Core.Bool.{Bool, not, ◌&&◌, ◌||◌, not-not}
use lib.Bits.{bit_and, bit_or}
use lib.Dec.{T, eqb, ltb}
use Rattle.machine.specs.Sets.{has, any_below}
use Rattle.machine.proofs.Truth.{and_left, and_right, or_cases, and_turn}
use Rattle.machine.proofs.Sets.{any_same, has-mask, mask_lt, member_below}
use Rattle.masks.proofs.Bits.{has-and, has-or, has_opposite, share_test, any-cut}
use Rattle.meaning.specs.Graph.{Graph, control_count, producer}
use Rattle.meaning.specs.Steps.{resolved, lost}
use Rattle.steps.specs.Moves.{produced}

-- `settled` is the set of the controls resolved; a literal's control is below 32
pub lost_masks : (g : Graph) (done values settled positive negative : ℕ) → settled ≡ produced g done → values < 2 ^ 32
    → positive < 2 ^ 32 → negative < 2 ^ 32
    → not (eqb (bit_and settled (bit_or (bit_and positive (2 ^ 32 - 1 - values)) (bit_and negative values))) 0)
    ≡ lost g done values (record { on_true = positive; on_false = negative })
unfolding lost resolved produced
lost_masks g done values settled positive negative e v p n =
    ap not (share_test 32 settled sides (rw e (mask_lt 32 known)))
    ∙ not-not (any_below 32 (λ b. has settled b && has sides b))
    ∙ any_same 32 (λ b. has settled b && has sides b) (λ b. (has done (producer g b) && other b) && ltb b (control_count g))
    (λ b h. ap₂ (λ (s t : Bool). s && t) (ap (λ (k : ℕ). has k b) e ∙ has-mask 32 known b h) (side b h)
    ∙ and_turn (ltb b (control_count g)) (has done (producer g b)) (other b))
    ∙ any-cut 32 (control_count g) (λ b. has done (producer g b) && other b)
    (λ b l t. ⊎_elim (λ (s : T (has positive b && not (has values b))). member_below 32 positive b p
    (and_left (has positive b) (not (has values b)) s))
    (λ (s : T (has negative b && has values b)). member_below 32 negative b n (and_left (has negative b) (has values b) s))
    (or_cases (has positive b && not (has values b)) (has negative b && has values b)
    (and_right (has done (producer g b)) (other b) t)))
  where
    sides : ℕ
    sides = bit_or (bit_and positive (2 ^ 32 - 1 - values)) (bit_and negative values)

    known : ℕ → Bool
    known b = ltb b (control_count g) && has done (producer g b)

    other : ℕ → Bool
    other b = (has positive b && not (has values b)) || (has negative b && has values b)

    side : (b : ℕ) → b < 32 → has sides b ≡ other b
    side b h =
        has-or (bit_and positive (2 ^ 32 - 1 - values)) (bit_and negative values) b
        ∙ ap₂ (λ (s t : Bool). s || t)
        (has-and positive (2 ^ 32 - 1 - values) b ∙ ap (λ (t : Bool). has positive b && t) (has_opposite 32 values b v h))
        (has-and negative values b)
