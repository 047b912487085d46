-- Demand 2: the definitions of states and legal steps say what document 01 says, constraint by constraint, for every
-- graph, taken or not. Assumes nothing.
use Prim.Native.Nat.{ℕ, ◌^◌, ◌≤◌, ◌<◌}
use mathlib.Core.Path.{◌≡◌, refl, ◌∙◌, subst}
use mathlib.Core.Logic.{◌⊎◌, ◌↔◌}
use mathlib.Core.Bool.{false, cond, not, ◌&&◌, ◌||◌}
use lib.Dec.{T, eqb, ltb}
use Rattle.machine.specs.Sets.{has, all_below, count_below}
use Rattle.machine.proofs.Truth.{or_cases, or_left, or_right, true_of, false_of}
use Rattle.machine.proofs.Sets.{member_below, set_below, has-high, has-mask, mask_lt}
use Rattle.meaning.specs.Graph.{Graph, Literals, operation_count, class_count, control_count, arc_count, limit, class, path, producer, source, target, kind, joins}
use Rattle.meaning.specs.Steps.{State, resolved, lost, excluded, void, complete, held_back, demanded, overfull, legal, after}
use Rattle.machine.proofs.Says.{Says, says_test, denies_test, says_ltb, denies_ltb, says_eqb, says_not, denies_not, says_and, says_or, says_implies, denies_and, says_all, says_any, denies_any}

-- A literal of l is lost: its control is resolved, to the other side.
pub record Lost (g : Graph) (done values : ℕ) (l : Literals) : Type 0 where
  pub control : ℕ
  pub below : control < control_count g
  pub settled : T (has done (producer g control))
  pub otherwise : (T (has l.on_true control) × T (not (has values control)))
      ⊎ (T (has l.on_false control) × T (has values control))

-- The constraints on a step, in document 01's order: the house rule; (1) and (2); (3); (6); (7). History (4) and fork (5)
-- are about the next state, below.
pub record Legal (g : Graph) (s : State) (step : ℕ) : Type 0 where
  pub filled : 0 < step
  pub fresh : (j : ℕ) → T (has step j) → (j < operation_count g) × T (not (has s.done j))
  pub dependency : (a : ℕ) → a < arc_count g → T (has step (target g a)) → T (not (void g s.done s.values a))
      → T (has s.done (source g a))
  pub resource : (k : ℕ) → k < class_count g
      → count_below (operation_count g) (λ j. has step j && eqb (class g j) k) ≤ limit g k
  pub exclusion : (j : ℕ) → T (has step j) → T (not (excluded g s.done s.values j))
  pub immediacy : (a : ℕ) → a < arc_count g → kind g a ≡ 1 → target g a < operation_count g → T (has s.done (source g a))
      → T (not (has s.done (target g a))) → T (has step (target g a))

module _ (g : Graph) (done values : ℕ) where
  pub lost_means : (l : Literals) → T (lost g done values l) ↔ Lost g done values l
  unfolding lost resolved
  lost_means l =
      let r = says_any {n = control_count g} (λ b. says_and (says_test (has done (producer g b)))
      (says_or (says_and (says_test (has l.on_true b)) (says_test (not (has values b))))
      (says_and (says_test (has l.on_false b)) (says_test (has values b))))) in (
        λ t. let p = r.to t in record { control = p.0; below = p.1; settled = p.2.0; otherwise = p.2.1 },
        λ p. r.from (p.control, p.below, (p.settled, p.otherwise)),
      )

  pub excluded_means : (j : ℕ) → T (excluded g done values j) ↔ Lost g done values (path g j)
  unfolding excluded
  excluded_means j = lost_means (path g j)

  pub void_means : (a : ℕ) → T (void g done values a) ↔ Lost g done values (joins g a)
  unfolding void
  void_means a = lost_means (joins g a)

module _ (g : Graph) (s : State) where
  abbrev done : ℕ
  done = s.done

  abbrev values : ℕ
  values = s.values

  pub complete_means : T (complete g s)
      ↔ ((j : ℕ) → j < operation_count g → T (has done j) ⊎ T (excluded g done values j))
  unfolding complete
  complete_means =
      let r = says_all {n = operation_count g} (λ j. says_or (says_test (has done j)) (says_test (excluded g done values j))) in
      (r.to, r.from)

  module _ (step : ℕ) where
    says_fresh : Says
        (ltb step (2 ^ operation_count g) && all_below (operation_count g) (λ j. not (has step j && has done j)))
        ((j : ℕ) → T (has step j) → (j < operation_count g) × T (not (has done j)))
    says_fresh =
        let n = operation_count g in
        let r = says_and (says_ltb step (2 ^ n))
        (says_all {n = n} (λ j. says_not (denies_and (says_test (has step j)) (denies_test (has done j))))) in
        record {
          to = λ t j s. let below = member_below n step j (r.to t).0 s in (below, (r.to t).1 j below s);
          from = λ p. r.from (set_below n step (λ j s. (p j s).0), λ j h s. (p j s).1);
        }

    says_dependency : Says (all_below (operation_count g) (λ j. not (has step j && held_back g done values j)))
        ((a : ℕ) → a < arc_count g → target g a < operation_count g → T (has step (target g a))
        → T (not (void g done values a)) → T (has done (source g a)))
    unfolding held_back
    says_dependency =
        let r = says_all {n = operation_count g} (λ j. says_not (denies_and (says_test (has step j))
        (denies_any {n = arc_count g} (λ a.
        denies_and (says_and (says_eqb (target g a) j) (says_test (not (void g done values a))))
        (denies_not (says_test (has done (source g a)))))))) in
        record {
          to = λ t a h l s v. r.to t (target g a) l s a h (refl, v);
          from = λ p. r.from (λ j h s a k q. p a k (rw q.0 h) (rw q.0 s) q.1);
        }

    says_immediacy : Says (all_below (operation_count g) (λ j. not (demanded g done values j) || has step j))
        ((a : ℕ) → a < arc_count g → kind g a ≡ 1 → target g a < operation_count g → T (has done (source g a))
        → T (not (has done (target g a))) → T (has step (target g a)))
    unfolding demanded
    says_immediacy =
        let r = says_all {n = operation_count g} (λ j. says_implies
        (says_any {n = arc_count g} (λ a.
        says_and (says_and (says_and (says_eqb (kind g a) 1) (says_eqb (target g a) j)) (says_test (has done (source g a))))
        (says_test (not (has done j)))))
        (says_test (has step j))) in
        record {
          to = λ t a h e l s d. r.to t (target g a) l (a, h, (((e, refl), s), d));
          from = λ p. r.from (λ j h q. let e = q.2.0.0.1 in
              rw (← e) (p q.0 q.1 q.2.0.0.0 (rw e h) q.2.0.1 (rw e q.2.1)));
        }

    pub legal_means : T (legal g s step) ↔ Legal g s step
    unfolding legal overfull
    legal_means =
        let n = operation_count g in
        let r = says_and (says_and (says_and (says_and (says_and (says_ltb 0 step) says_fresh) says_dependency)
        (says_all {n = class_count g} (λ k. says_not (denies_ltb (limit g k) (count_below n (λ j. has step j && eqb (class g j) k))))))
        (says_all {n = n} (λ j. says_not (denies_and (says_test (has step j)) (denies_test (excluded g done values j))))))
        says_immediacy in (
          λ t. let p = r.to t in
              let fresh : (j : ℕ) → T (has step j) → (j < n) × T (not (has done j)) = p.0.0.0.0.1 in
              record {
                filled = p.0.0.0.0.0;
                fresh = fresh;
                dependency = λ a h s. p.0.0.0.1 a h (fresh (target g a) s).0 s;
                resource = p.0.0.1;
                exclusion = λ j s. p.0.1 j (fresh j s).0 s;
                immediacy = p.1;
              },
          λ q. r.from (((((q.filled, q.fresh), λ a h l. q.dependency a h), q.resource), λ j h. q.exclusion j), q.immediacy),
        )

    module _ (word : ℕ) where
      -- History (4): what is done stays done, the members become done, and nothing else.
      pub done_below : (after g s step word).done < 2 ^ operation_count g
      unfolding after
      done_below = mask_lt (operation_count g) (λ j. has done j || has step j)

      after-done : (j : ℕ) → j < operation_count g
          → has (after g s step word).done j ≡ (has done j || has step j)
      unfolding after
      after-done = has-mask (operation_count g) (λ j. has done j || has step j)

      pub history : (j : ℕ) → T (has done j) → j < operation_count g → T (has (after g s step word).done j)
      history j t h = rw (after-done j h) (or_left (has done j) (has step j) t)

      pub members-done : (j : ℕ) → T (has step j) → j < operation_count g
          → T (has (after g s step word).done j)
      members-done j t h = rw (after-done j h) (or_right (has done j) (has step j) t)

      pub nothing-else : (j : ℕ) → T (has (after g s step word).done j)
          → (j < operation_count g) × (T (has done j) ⊎ T (has step j))
      nothing-else j t =
          let h = member_below (operation_count g) (after g s step word).done j done_below t in
          (h, or_cases (has done j) (has step j) (subst T (after-done j h) t))

      -- Fork (5): a value stays; a control that the step begins takes the word's; all other value bits are 0.
      pub values-below : (after g s step word).values < 2 ^ control_count g
      unfolding after
      values-below =
          mask_lt (control_count g) (λ b. cond (resolved g done values b) (has values b) (has step (producer g b) && has word b))

      after-values : (b : ℕ) → b < control_count g
          → has (after g s step word).values b
          ≡ cond (resolved g done values b) (has values b) (has step (producer g b) && has word b)
      unfolding after
      after-values =
          has-mask (control_count g) (λ b. cond (resolved g done values b) (has values b) (has step (producer g b) && has word b))

      pub fork-kept : (b : ℕ) → b < control_count g → T (resolved g done values b)
          → has (after g s step word).values b ≡ has values b
      fork-kept b h t = after-values b h ∙ rw (true_of (resolved g done values b) t)

      pub fork-taken : (b : ℕ) → b < control_count g → T (not (resolved g done values b)) → T (has step (producer g b))
          → has (after g s step word).values b ≡ has word b
      fork-taken b h t s =
          after-values b h ∙ rw (false_of (resolved g done values b) t, true_of (has step (producer g b)) s)

      pub fork-open : (b : ℕ) → b < control_count g → T (not (resolved g done values b)) → T (not (has step (producer g b)))
          → has (after g s step word).values b ≡ false
      fork-open b h t s =
          after-values b h ∙ rw (false_of (resolved g done values b) t, false_of (has step (producer g b)) s)

      pub fork-above : (b : ℕ) → control_count g ≤ b → has (after g s step word).values b ≡ false
      fork-above b h = has-high (after g s step word).values (control_count g) b values-below h
