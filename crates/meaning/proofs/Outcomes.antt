-- Demand 2: a step that begins m controls has 2^m next states. Assumes nothing.
use Prim.Native.Nat.{ℕ, ◌^◌, ◌<◌}
use mathlib.Core.Path.{◌≡◌, refl, sym, ◌∙◌, ap, subst}
use mathlib.Core.HLevel.{¬_prop}
use mathlib.Core.Bool.{Bool, true, false, cond, not, ◌&&◌, ◌||◌}
use mathlib.Core.List.Memᴰ
use mathlib.Core.List.Pairwise
use mathlib.Core.List.{List, map, Memᴰ}
use lib.ListN.{length-map}
use lib.Dec.{T}
use Rattle.machine.specs.Sets.{has, count_below, mask_below}
use Rattle.machine.specs.Machine.{Machine}
use Rattle.machine.proofs.Truth.{and_left, both, same_test}
use Rattle.machine.proofs.Sets.{count_same, mask-same}
use Rattle.machine.proofs.Choices.{chosen, choices, choices_size, chosen-listed, listed-chosen, choices_differ}
use Rattle.machine.proofs.Lawful.{Lawful}
use Rattle.machine.proofs.Reach.{CountOf, holds-mem, mem-holds, differ_distinct}
use Rattle.meaning.specs.Graph.{Graph, operation_count, control_count, producer}
use Rattle.meaning.specs.Steps.{State, resolved, legal, after, machine_of}
use Rattle.meaning.proofs.Taken.{Taken}
use Rattle.meaning.proofs.Legal.{legal_means}
use Rattle.meaning.proofs.Instance.{lawful}

module _ (g : Graph) (s : State) (step : ℕ) where
  -- the step begins control b: its operation is a member and not done
  unfoldable pub begins : ℕ → Bool
  begins b = has step (producer g b) && not (resolved g s.done s.values b)

  -- r is a next state: some word says how the controls begun fall
  abbrev pub NextState : State → Type 0
  NextState r = (word : ℕ) × (word < 2 ^ control_count g) × (r ≡ after g s step word)

  -- the value of a control that is not begun
  kept : ℕ → Bool
  kept b = resolved g s.done s.values b && has s.values b

  -- the next state with these values
  abbrev with_values : ℕ → State
  with_values v = record { done = mask_below (operation_count g) (λ j. has s.done j || has step j); values = v }

  after-chosen : (word : ℕ) → after g s step word ≡ with_values (chosen begins kept (control_count g) word)
  unfolding after begins kept
  after-chosen word = ap with_values (mask-same (control_count g) _ _ (λ b h.
      by (resolved g s.done s.values b) (has step (producer g b)) (has s.values b) (has word b)))
    where
      by : (r m v w : Bool) → cond r v (m && w) ≡ cond (m && not r) w (r && v)
      by true true v w = refl
      by true false v w = refl
      by false true v w = refl
      by false false v w = refl

  -- A step that begins m controls, legal or not, has 2^m different next states and no others.
  pub outcomes_counted : Taken g → CountOf (machine_of g) NextState (2 ^ count_below (control_count g) begins)
  outcomes_counted taken = record {
    list = map with_values values;
    size = length-map values with_values ∙ choices_size begins kept c;
    distinct = differ_distinct M L
        (Pairwise.map (λ p q. ¬_prop) with_values (λ u v differ e. differ (ap (λ (r : State). r.values) e)) (choices_differ begins kept c));
    listed = λ r n. mem-holds M L
        (Memᴰ.cast (n.2 ∙ after-chosen n.0) (Memᴰ.map with_values (chosen-listed begins kept c n.0)));
    only = λ r h. next r (Memᴰ.of_map with_values values (holds-mem M L (map with_values values) r h));
  }
    where
      M : Machine
      M = machine_of g

      L : Lawful M
      L = lawful g taken

      c : ℕ
      c = control_count g

      values : List ℕ
      values = choices begins kept c

      next : (r : State) → (v : ℕ) × Memᴰ v values × (with_values v ≡ r) → NextState r
      next r m =
          let v = m.0 in
          let k = listed-chosen begins kept c v m.1 in
          (v, k.0, sym m.2 ∙ ap with_values k.1 ∙ sym (after-chosen v))

  -- After a legal step each control among its members may take either value: m controls give 2^m next states.
  pub legal_outcomes_counted : Taken g → T (legal g s step)
      → CountOf (machine_of g) NextState (2 ^ count_below (control_count g) (λ b. has step (producer g b)))
  unfolding begins resolved
  legal_outcomes_counted taken ok =
      subst (λ (m : ℕ). CountOf (machine_of g) NextState (2 ^ m))
      (count_same (control_count g) begins (λ b. has step (producer g b)) (λ b h.
      same_test (begins b) (has step (producer g b)) (and_left (has step (producer g b)) (not (has s.done (producer g b))))
      (λ t. both (has step (producer g b)) (not (has s.done (producer g b))) t (((legal_means g s step).0 ok).fresh (producer g b) t).1)))
      (outcomes_counted taken)
