-- The masks that the code builds are those of the constraints, and its tests of a step are those of the masks. Assumes nothing.
use Prim.Native.Nat.{ℕ, ◌-◌, ◌^◌, ◌<◌}
use native.Mathlib.Nat.{lt_of_le_of_lt, eq-zero-or-pos}
use native.Mathlib.Omega.{arith}
use mathlib.Core.Path.{◌≡◌, sym, ◌∙◌, ap, ap₂}
use mathlib.Core.Logic.{⊎_elim}
use mathlib.Core.Bool.{Bool, not, ◌&&◌}
use lib.Bits.{bit_and, and_le_l}
use lib.Dec.{eqb, ltb, eqb→eq}
use borrow.Author.Tests.{eq-eqb, ne_eqb, lt-ltb, le-ltb}
use Rattle.std.proofs.Math.Bool.{and_assoc}
use Rattle.machine.specs.Sets.{has, any_below, mask_below}
use Rattle.machine.proofs.Sets.{any_same, has-mask, mask_lt}
use Rattle.masks.proofs.Bits.{has-and, has_opposite, is_mask, share_test, lack_test}
use Rattle.meaning.specs.Graph.{Graph, operation_count, arc_count, source, target, kind}
use Rattle.meaning.specs.Steps.{void, held_back, demanded}
use Rattle.steps.specs.Moves.{among, waiting, demanding, targets, apart, within, fits, allows}
use Rattle.steps.specs.declared.Moves.{Moves}
use Rattle.machine.proofs.Truth.{and_same, and_turn, and_swap, and_last}

-- Here `all` is the set of the operations, as far as a mask reaches.
module _ (g : Graph) (all : ℕ) (whole : all ≡ mask_below 32 (λ j. ltb j (operation_count g))) where
  -- the operations among a set
  in-among : (m : ℕ) (f : ℕ → Bool) → ((j : ℕ) → j < 32 → has m j ≡ f j) → bit_and all m ≡ among g f
  unfolding among
  in-among m f e =
      is_mask 32 (bit_and all m) (λ j. ltb j (operation_count g) && f j)
      (lt_of_le_of_lt (and_le_l all m) (rw whole (mask_lt 32 (λ j. ltb j (operation_count g)))))
      (λ j h. has-and all m j
      ∙ ap₂ (λ (s t : Bool). s && t) (ap (λ (k : ℕ). has k j) whole ∙ has-mask 32 (λ i. ltb i (operation_count g)) j h) (e j h))

  pub undone_mask : (done : ℕ) → done < 2 ^ 32 → bit_and all (2 ^ 32 - 1 - done) ≡ among g (λ j. not (has done j))
  undone_mask done h = in-among (2 ^ 32 - 1 - done) (λ j. not (has done j)) (λ j k. has_opposite 32 done j h k)

  pub held-mask : (done values held : ℕ)
      → held ≡ targets g (arc_count g) (waiting g done values)
      → bit_and all held ≡ among g (held_back g done values)
  unfolding targets held_back waiting
  held-mask done values held e =
      in-among held (held_back g done values)
      (λ j h. ap (λ (k : ℕ). has k j) e
      ∙ has-mask 32 (λ i. any_below (arc_count g) (λ a. waiting g done values a && eqb (target g a) i)) j h
      ∙ any_same (arc_count g) (λ a. waiting g done values a && eqb (target g a) j)
      (λ a. eqb (target g a) j && not (void g done values a) && not (has done (source g a)))
      (λ a l. sym (and_turn (eqb (target g a) j) (not (void g done values a)) (not (has done (source g a))))))

  pub demanded-mask : (done values found : ℕ)
      → found ≡ targets g (arc_count g) (demanding g done)
      → bit_and all found ≡ among g (demanded g done values)
  unfolding targets demanded demanding
  demanded-mask done values found e =
      in-among found (demanded g done values)
      (λ j h. ap (λ (k : ℕ). has k j) e
      ∙ has-mask 32 (λ i. any_below (arc_count g) (λ a. demanding g done a && eqb (target g a) i)) j h
      ∙ any_same (arc_count g) (λ a. demanding g done a && eqb (target g a) j)
      (λ a. eqb (kind g a) 1 && eqb (target g a) j && has done (source g a) && not (has done j))
      (λ a l. sym (and_swap (eqb (kind g a) 1) (eqb (target g a) j) (has done (source g a)) (not (has done j))
      (not (has done (target g a)))
      (λ t. ap (λ (k : ℕ). not (has done k)) (sym (eqb→eq (target g a) j t))))))

-- The tests of a step, as the machine makes them.
unfoldable pub tested : Moves → ℕ → Bool
tested m step =
    not (eqb step 0) && ltb step m.steps && eqb (bit_and step (2 ^ 32 - 1 - m.undone)) 0 && eqb (bit_and step m.held) 0
    && eqb (bit_and step m.excluded) 0 && eqb (bit_and m.demanded (2 ^ 32 - 1 - step)) 0

pub allows_tested : (m : Moves) (step : ℕ) → step < 2 ^ 32 → m.undone < 2 ^ 32 → m.demanded < 2 ^ 32
    → allows m step ≡ (tested m step && fits m step)
unfolding allows tested within apart
allows_tested m step h u d =
    ap (λ (t : Bool). (((t && apart step m.held) && fits m step) && apart step m.excluded) && within m.demanded step)
    (sym (and_assoc (ltb 0 step) (ltb step m.steps) (within step m.undone)))
    ∙ and_last (ltb 0 step && ltb step m.steps) (within step m.undone) (apart step m.held) (fits m step)
    (apart step m.excluded) (within m.demanded step)
    ∙ ap (λ (t : Bool). t && fits m step)
    (and_same (and_same (and_same
    (and_same (ap (λ (t : Bool). t && ltb step m.steps) filled) (sym (lack_test 32 step m.undone h u)))
    (sym (share_test 32 step m.held h)))
    (sym (share_test 32 step m.excluded h))) (sym (lack_test 32 m.demanded step d h)))
  where
    filled : ltb 0 step ≡ not (eqb step 0)
    filled =
        ⊎_elim (λ (e : step ≡ 0). le-ltb 0 step (omega arith) ∙ sym (ap not (eq-eqb step 0 e)))
        (λ (l : 0 < step). lt-ltb 0 step l ∙ sym (ap not (ne_eqb step 0 (λ e. omega arith)))) (eq-zero-or-pos step)
