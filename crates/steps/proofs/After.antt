-- Next states by masks. Assumes nothing.
use Prim.Native.Nat.{ℕ, ◌-◌, ◌^◌, ◌≤◌, ◌<◌}
use native.Mathlib.Nat.{lt_of_le_of_lt}
use native.Mathlib.Omega.{arith}
use mathlib.Core.Path.{◌≡◌, refl, sym, ◌∙◌, ap, ap₂, subst}
use mathlib.Core.Logic.{⊎_elim}
use mathlib.Core.Bool.{Bool, true, false, cond, not, ◌&&◌, ◌||◌, and-true, and-false, or-false}
use lib.Bits.{bit_and, bit_or, and_le_l, or_lt}
use lib.Dec.{T, ltb, ltb→lt}
use borrow.Author.Tests.{lt-ltb}
use Rattle.machine.specs.Sets.{has, mask_below}
use Rattle.machine.proofs.Truth.{and_left, and_right, and-not, not-not_intro}
use Rattle.machine.proofs.Sets.{le-or-lt, any_failed, none_any, has-high, has-mask, mask_lt, mask-same, set_ext, member_below, set_below}
use Rattle.masks.proofs.Bits.{has-and, has-or, has_opposite, is_mask, cut-mask}
use Rattle.meaning.specs.Graph.{Graph, operation_count, control_count, producer}
use Rattle.meaning.specs.Steps.{State, resolved, after}
use Rattle.meaning.proofs.Taken.{Within, few-controls}
use Rattle.steps.specs.Moves.{produced}
use Rattle.steps.specs.declared.Fork.{Fork}
use Rattle.steps.specs.Forks.{word_count, begun, fork_of, falls, fallen}

-- `low` is the set of the operations, as far as a mask reaches
pub done-mask : (g : Graph) (s : State) (step word low : ℕ) → s.done < 2 ^ 32 → step < 2 ^ 32
    → low ≡ mask_below 32 (λ j. ltb j (operation_count g)) → bit_and (bit_or s.done step) low ≡ (after g s step word).done
unfolding after
done-mask g s step word low h k e =
    cut-mask 32 (operation_count g) (bit_or s.done step) low (or_lt 32 s.done step h k) e
    ∙ mask-same (operation_count g) (has (bit_or s.done step)) (λ j. has s.done j || has step j) (λ j l. has-or s.done step j)

module _ (g : Graph) (s : State) (step : ℕ) where
  abbrev done : ℕ
  done = s.done

  abbrev values : ℕ
  values = s.values

  produced-lt : (set : ℕ) → produced g set < 2 ^ 32
  unfolding produced
  produced-lt set = mask_lt 32 (λ b. ltb b (control_count g) && has set (producer g b))

  has-produced : (set b : ℕ) → b < 32 → has (produced g set) b ≡ (ltb b (control_count g) && has set (producer g b))
  unfolding produced
  has-produced set b h = has-mask 32 (λ b. ltb b (control_count g) && has set (producer g b)) b h

  pub begun-mask : bit_and (produced g step) (2 ^ 32 - 1 - produced g done) ≡ begun g done step
  unfolding begun
  begun-mask =
      is_mask 32 (bit_and (produced g step) (2 ^ 32 - 1 - produced g done))
      (λ b. ltb b (control_count g) && (has step (producer g b) && not (has done (producer g b))))
      (lt_of_le_of_lt (and_le_l (produced g step) (2 ^ 32 - 1 - produced g done)) (produced-lt step))
      (λ b h. has-and (produced g step) (2 ^ 32 - 1 - produced g done) b
      ∙ ap₂ (λ (s t : Bool). s && t) (has-produced step b h)
      (has_opposite 32 (produced g done) b (produced-lt done) h ∙ ap not (has-produced done b h))
      ∙ fresh (ltb b (control_count g)) (has step (producer g b)) (has done (producer g b)))
    where
      fresh : (l s d : Bool) → ((l && s) && not (l && d)) ≡ (l && (s && not d))
      fresh true s d = refl
      fresh false s d = refl

  begun-lt : begun g done step < 2 ^ 32
  unfolding begun
  begun-lt = mask_lt 32 (λ b. ltb b (control_count g) && (has step (producer g b) && not (has done (producer g b))))

  has-begun : (b : ℕ) → b < 32
      → has (begun g done step) b ≡ (ltb b (control_count g) && (has step (producer g b) && not (has done (producer g b))))
  unfolding begun
  has-begun b h = has-mask 32 (λ b. ltb b (control_count g) && (has step (producer g b) && not (has done (producer g b)))) b h

  values-mask : (word : ℕ) → values < 2 ^ 32 → word < 2 ^ 32
      → bit_or (bit_and (produced g done) values) (bit_and (begun g done step) word) ≡ (after g s step word).values
  unfolding after resolved
  values-mask word v w = is_mask c next value (set_below c next inside) each
    where
      c : ℕ
      c = control_count g

      next : ℕ
      next = bit_or (bit_and (produced g done) values) (bit_and (begun g done step) word)

      value : ℕ → Bool
      value b = cond (has done (producer g b)) (has values b) (has step (producer g b) && has word b)

      parts : (b : ℕ) → has next b ≡ ((has (produced g done) b && has values b) || (has (begun g done step) b && has word b))
      parts b =
          has-or (bit_and (produced g done) values) (bit_and (begun g done step) word) b
          ∙ ap₂ (λ (s t : Bool). s || t) (has-and (produced g done) values b) (has-and (begun g done step) word b)

      low : (b : ℕ) → b < 32 → has next b ≡ (ltb b c && value b)
      low b h =
          parts b ∙ ap₂ (λ (s t : Bool). (s && has values b) || (t && has word b)) (has-produced done b h) (has-begun b h)
          ∙ chosen (ltb b c) (has done (producer g b)) (has step (producer g b)) (has values b) (has word b)
        where
          chosen : (l d s x y : Bool) → (((l && d) && x) || ((l && (s && not d)) && y)) ≡ (l && cond d x (s && y))
          chosen true true true x y = or-false x
          chosen true true false x y = or-false x
          chosen true false s x y = ap (λ (t : Bool). t && y) (and-true s)
          chosen false d s x y = refl

      high : (b : ℕ) → 32 ≤ b → has next b ≡ false
      high b h =
          parts b ∙ rw (has-high (produced g done) 32 b (produced-lt done) h, has-high (begun g done step) 32 b begun-lt h) refl

      inside : (b : ℕ) → T (has next b) → b < c
      inside b t =
          ⊎_elim (λ (h : 32 ≤ b). absurd (subst T (high b h) t))
          (λ (h : b < 32). ltb→lt b c (and_left (ltb b c) (value b) (subst T (low b h) t))) (le-or-lt 32 b)

      each : (b : ℕ) → b < c → has next b ≡ value b
      each b l =
          ⊎_elim (λ (h : 32 ≤ b). high b h ∙ rw (has-high values 32 b v h, has-high word 32 b w h)
          (none (has done (producer g b)) (has step (producer g b))))
          (λ (h : b < 32). low b h ∙ ap (λ (t : Bool). t && value b) (lt-ltb b c l)) (le-or-lt 32 b)
        where
          none : (d s : Bool) → false ≡ cond d false (s && false)
          none true s = refl
          none false s = sym (and-false s)

  -- an outcome is a word
  pub begun-below : begun g done step < 2 ^ control_count g
  begun-below =
      set_below (control_count g) (begun g done step) (λ b t.
      ltb→lt b (control_count g) (and_left (ltb b (control_count g)) (has step (producer g b) && not (has done (producer g b)))
      (subst T (has-begun b (member_below 32 (begun g done step) b begun-lt t)) t)))

  -- the next state depends only on the outcomes of the controls begun
  pub after_outcome : (word : ℕ) → word < 2 ^ 32
      → after g s step word ≡ after g s step (bit_and word (begun g done step))
  unfolding after resolved
  after_outcome word w = λ i. record {
    done = mask_below (operation_count g) (λ j. has done j || has step j);
    values = mask-same (control_count g) (value word) (value (bit_and word (begun g done step))) each i;
  }
    where
      value : ℕ → ℕ → Bool
      value k b = cond (has done (producer g b)) (has values b) (has step (producer g b) && has k b)

      each : (b : ℕ) → b < control_count g → value word b ≡ value (bit_and word (begun g done step)) b
      each b l =
          ⊎_elim (λ (h : 32 ≤ b). rw (has-and word (begun g done step) b, has-high word 32 b w h) refl)
          (λ (h : b < 32). rw (has-and word (begun g done step) b, has-begun b h, lt-ltb b (control_count g) l)
          (kept (has done (producer g b)) (has step (producer g b)) (has values b) (has word b))) (le-or-lt 32 b)
        where
          kept : (d s x y : Bool) → cond d x (s && y) ≡ cond d x (s && (y && (s && not d)))
          kept true s x y = refl
          kept false true x y = sym (and-true y)
          kept false false x y = refl

  -- the fork leads to the next state
  pub fallen-after : (word : ℕ) → values < 2 ^ 32 → word < 2 ^ 32 → fallen (fork_of g s step) word ≡ after g s step word
  unfolding fallen fork_of after
  fallen-after word v w = λ i. record {
    done = mask_below (operation_count g) (λ j. has done j || has step j);
    values = values-mask word v w i;
  }

-- Words that say nothing but how the controls begun fall.
module _ (f : Fork) (word : ℕ) where
  pub part_falls : T (falls f (bit_and word f.begun))
  unfolding falls
  part_falls =
      none_any 32 (λ b. has (bit_and word f.begun) b && not (has f.begun b))
      (λ b h. and-not (has (bit_and word f.begun) b) (not (has f.begun b)) (λ t.
      not-not_intro (has f.begun b) (and_right (has word b) (has f.begun b) (subst T (has-and word f.begun b) t))))

  pub falls_part : word < 2 ^ 32 → T (falls f word) → bit_and word f.begun ≡ word
  unfolding falls
  falls_part h t =
      set_ext 32 (bit_and word f.begun) word (lt_of_le_of_lt (and_le_l word f.begun) h) h
      (λ b l. has-and word f.begun b
      ∙ same (has word b) (has f.begun b) (any_failed 32 (λ j. has word j && not (has f.begun j)) t b l))
    where
      same : (p q : Bool) → T (not (p && not q)) → (p && q) ≡ p
      same true true u = refl
      same true false u = absurd u
      same false q u = refl

pub words-all : (g : Graph) → Within g → word_count g ≡ 2 ^ control_count g
unfolding word_count
words-all g w = ap (λ (t : Bool). cond t (2 ^ control_count g) 0) (lt-ltb (control_count g) 32 (omega (arith, few-controls w)))
