-- A step that the masks of a state allow is a legal one, and the other way round. Assumes nothing.
use Prim.Native.Nat.{ℕ, ◌^◌, ◌<◌}
use native.Mathlib.Nat.{lt_of_lt_of_le}
use native.Mathlib.Omega.{arith}
use borrow.Author.Tests.{lt-ltb}
use mathlib.Core.Path.{◌≡◌, refl, sym, ◌∙◌, ap, ap₂, subst}
use mathlib.Core.Bool.{Bool, true, false, cond, not, ◌&&◌, ◌||◌, not-not}
use lib.Dec.{T, eqb, leb, ltb, ltb→lt, lt→ltb}
use lib.Pow.{pow_mono}
use Rattle.machine.specs.Sets.{has, all_below, any_below, count_below}
use Rattle.machine.proofs.Truth.{and_left, and_right, both, not-and, and-not, not-not_elim, not-not_intro, same_test, and_same, and_turn, and-past}
use Rattle.machine.proofs.Sets.{all-at, all_of, any_same, all_same, count_same, any_failed, none_any, has-mask, member_below, set_below, leb-not, none_all, count_cut}
use Rattle.masks.proofs.Bits.{any-cut}
use Rattle.meaning.specs.Graph.{Graph, operation_count, class_count, limit, class}
use Rattle.meaning.specs.Steps.{State, excluded, held_back, demanded, overfull, legal}
use Rattle.meaning.proofs.Taken.{Within, few-operations, few-classes}
use Rattle.steps.specs.Moves.{among, of_class, class_at, step_count, moves_in, apart, within, least_from, roomy, fits, allows, step_from}
use Rattle.steps.proofs.Above.{least-same}
use Rattle.steps.proofs.Eights.{first_of_eight}

-- A graph whose counts are within its edition's maxima, and so have room in the masks.
module _ (g : Graph) (small : Within g) where
  narrow : operation_count g < 32
  narrow = omega (arith, few-operations small)

  has-among : (f : ℕ → Bool) (j : ℕ) → j < 32 → has (among g f) j ≡ (ltb j (operation_count g) && f j)
  unfolding among
  has-among f j h = has-mask 32 (λ i. ltb i (operation_count g) && f i) j h

  -- a test of operations, over all that a mask reaches
  any-among : (f : ℕ → Bool) → any_below 32 (λ j. f j && ltb j (operation_count g)) ≡ any_below (operation_count g) f
  any-among f = any-cut 32 (operation_count g) f (λ j l t. omega (arith, narrow))

  -- no member of a set is one of the operations at which f holds
  apart-among : (m : ℕ) (f : ℕ → Bool) → apart m (among g f) ≡ all_below (operation_count g) (λ j. not (has m j && f j))
  unfolding apart
  apart-among m f =
      ap not
      (any_same 32 (λ j. has m j && has (among g f) j) (λ j. (has m j && f j) && ltb j (operation_count g))
      (λ j h. ap (λ (t : Bool). has m j && t) (has-among f j h) ∙ and-past (has m j) (ltb j (operation_count g)) (f j))
      ∙ any-among (λ j. has m j && f j))
      ∙ none_all (operation_count g) (λ j. has m j && f j)

  -- every one of the operations at which f holds is a member of a set
  within-among : (m : ℕ) (f : ℕ → Bool) → within (among g f) m ≡ all_below (operation_count g) (λ j. not (f j) || has m j)
  unfolding within
  within-among m f =
      ap not
      (any_same 32 (λ j. has (among g f) j && not (has m j)) (λ j. (f j && not (has m j)) && ltb j (operation_count g))
      (λ j h. ap (λ (t : Bool). t && not (has m j)) (has-among f j h) ∙ and_turn (ltb j (operation_count g)) (f j) (not (has m j)))
      ∙ any-among (λ j. f j && not (has m j)))
      ∙ none_all (operation_count g) (λ j. f j && not (has m j))
      ∙ all_same (operation_count g) (λ j. not (f j && not (has m j))) (λ j. not (f j) || has m j) (λ j h. implied (f j) (has m j))
    where
      implied : (a b : Bool) → not (a && not b) ≡ (not a || b)
      implied true b = not-not b
      implied false b = refl

  -- only operations of the graph that are not done
  fresh : (step done : ℕ) → step < 2 ^ 32
      → within step (among g (λ j. not (has done j)))
      ≡ (ltb step (2 ^ operation_count g) && all_below (operation_count g) (λ j. not (has step j && has done j)))
  unfolding within
  fresh step done h =
      same_test (not (any_below 32 stray)) (ltb step (2 ^ n) && all_below n (λ j. not (has step j && has done j))) to from
    where
      n : ℕ
      n = operation_count g

      stray : ℕ → Bool
      stray j = has step j && not (has (among g (λ i. not (has done i))) j)

      inside : T (not (any_below 32 stray)) → (j : ℕ) → T (has step j) → T (ltb j n && not (has done j))
      inside t j s =
          let l = member_below 32 step j h s in
          subst T (has-among (λ i. not (has done i)) j l) (not-not_elim (has (among g (λ i. not (has done i))) j)
          (not-and (has step j) (not (has (among g (λ i. not (has done i))) j)) (any_failed 32 stray t j l) s))

      to : T (not (any_below 32 stray)) → T (ltb step (2 ^ n) && all_below n (λ j. not (has step j && has done j)))
      to t =
          both (ltb step (2 ^ n)) (all_below n (λ j. not (has step j && has done j)))
          (lt→ltb step (2 ^ n) (set_below n step (λ j s. ltb→lt j n (and_left (ltb j n) (not (has done j)) (inside t j s)))))
          (all_of n (λ j. not (has step j && has done j))
          (λ j l. and-not (has step j) (has done j) (λ s. and_right (ltb j n) (not (has done j)) (inside t j s))))

      from : T (ltb step (2 ^ n) && all_below n (λ j. not (has step j && has done j))) → T (not (any_below 32 stray))
      from t =
          none_any 32 stray (λ j l. and-not (has step j) (not (has (among g (λ i. not (has done i))) j)) (λ s.
          let k = member_below n step j (ltb→lt step (2 ^ n)
          (and_left (ltb step (2 ^ n)) (all_below n (λ j. not (has step j && has done j))) t)) s in
          not-not_intro (has (among g (λ i. not (has done i))) j) (subst T (sym (has-among (λ i. not (has done i)) j l))
          (both (ltb j n) (not (has done j)) (lt→ltb j n k)
          (not-and (has step j) (has done j)
          (all-at n (λ j. not (has step j && has done j))
          (and_right (ltb step (2 ^ n)) (all_below n (λ j. not (has step j && has done j))) t) j k) s)))))

  -- the limits
  roomy-class : (step k : ℕ) → roomy (class_at g k) step ≡ not (overfull g step k)
  unfolding roomy class_at overfull of_class
  roomy-class step k =
      ap (λ (n : ℕ). leb n (limit g k))
      (count_same 32 (λ j. has step j && has (of_class g k) j)
      (λ j. (has step j && eqb (class g j) k) && ltb j (operation_count g))
      (λ j l. ap (λ (t : Bool). has step j && t) (has-among (λ i. eqb (class g i) k) j l)
      ∙ and-past (has step j) (ltb j (operation_count g)) (eqb (class g j) k))
      ∙ count_cut 32 (operation_count g) (λ j. has step j && eqb (class g j) k) (omega (arith, narrow)))
      ∙ leb-not (count_below (operation_count g) (λ j. has step j && eqb (class g j) k)) (limit g k)

  fits-limits : (s : State) (step : ℕ) → fits (moves_in g s) step ≡ all_below (class_count g) (λ k. not (overfull g step k))
  unfolding fits moves_in
  fits-limits s step =
      first_of_eight (λ c. roomy c step) (class_at g) (class_count g) (omega (arith, few-classes small))
      ∙ all_same (class_count g) (λ k. roomy (class_at g k) step) (λ k. not (overfull g step k)) (λ k h. roomy-class step k)

  -- the number of steps
  pub steps_all : (s : State) → (moves_in g s).steps ≡ 2 ^ operation_count g
  unfolding moves_in step_count
  steps_all s = ap (λ (t : Bool). cond t (2 ^ operation_count g) 0) (lt-ltb (operation_count g) 32 narrow)

  -- steps of operations that are not done
  fresh-steps : (s : State) (step : ℕ) → step < 2 ^ 32 → (ltb step (moves_in g s).steps && within step (moves_in g s).undone)
      ≡ (ltb step (2 ^ operation_count g) && all_below (operation_count g) (λ j. not (has step j && has s.done j)))
  unfolding moves_in
  fresh-steps s step h =
      ap₂ (λ (a b : Bool). a && b) (ap (ltb step) (steps_all s)) (fresh step s.done h)
      ∙ twice (ltb step (2 ^ operation_count g)) (all_below (operation_count g) (λ j. not (has step j && has s.done j)))
    where
      twice : (a b : Bool) → (a && (a && b)) ≡ (a && b)
      twice true b = refl
      twice false b = refl

  -- The moves in a state allow exactly the legal steps.
  pub allows-legal : (s : State) (step : ℕ) → step < 2 ^ 32 → allows (moves_in g s) step ≡ legal g s step
  unfolding allows moves_in legal
  allows-legal s step h =
      and_same (and_same (and_same (and_same (ap (λ (t : Bool). ltb 0 step && t) (fresh-steps s step h))
      (apart-among step (held_back g s.done s.values)))
      (fits-limits s step)) (apart-among step (excluded g s.done s.values))) (within-among step (demanded g s.done s.values))

  -- the least step that they allow from x on is the least legal one
  pub from-legal : (s : State) (x : ℕ) → step_from (moves_in g s) x ≡ least_from (2 ^ operation_count g) (legal g s) x
  unfolding step_from
  from-legal s x =
      ap (λ (b : ℕ). least_from b (allows (moves_in g s)) x) (steps_all s)
      ∙ least-same (2 ^ operation_count g) (allows (moves_in g s)) (legal g s) x
      (λ y h. allows-legal s y (lt_of_lt_of_le h (pow_mono {j = 32} (omega (arith, narrow)))))
