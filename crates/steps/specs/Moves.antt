-- What a clock may do in a state, as masks made once, and the test of a step by them.
use Rattle.std.specs.Prelude.{ℕ, min, ◌+◌, ◌*◌, ◌^◌, ◌/◌, ◌%◌, ◌≡◌, Bool, cond, not, ◌&&◌, ◌||◌, List, [], ◌∷◌, get_or, take, Option, Some, None, eqb, leb, ltb}
use Rattle.std.specs.List.{list_all}
use Rattle.std.proofs.Math.ListN.{set}
use Rattle.machine.specs.Sets.{has, any_below, count_below, first_below, mask_below}
use Rattle.meaning.specs.Graph.{Graph, operation_count, class_count, control_count, arc_count, limit, class, producer, source, target, kind}
use Rattle.meaning.specs.Steps.{State, void, excluded, held_back, demanded}
use Rattle.masks.specs.Width.{set_width}
use Rattle.steps.specs.declared.Class.{Class}
use Rattle.steps.specs.declared.Moves.{Moves}
use Rattle.steps.specs.declared.standing.Pulls.{Pulls}
use Rattle.steps.specs.declared.standing.Sorted.{Sorted}

-- the operations of the graph at which f holds, as far as a set reaches
unfoldable pub among : Graph → (ℕ → Bool) → ℕ
among g f = mask_below set_width (λ j. ltb j (operation_count g) && f j)

-- the controls, as far as a mask reaches, whose operation is in a set: in the operations done, those resolved
unfoldable pub produced : Graph → ℕ → ℕ
produced g set = mask_below 32 (λ b. ltb b (control_count g) && has set (producer g b))

-- arc a holds its target back: it is not void and its source is not done
unfoldable pub waiting : Graph → ℕ → ℕ → ℕ → Bool
waiting g done values a = not (void g done values a) && not (has done (source g a))

-- arc a demands its target: it is a follow arc whose source is done and whose target is not
unfoldable pub demanding : Graph → ℕ → ℕ → Bool
demanding g done a = eqb (kind g a) 1 && has done (source g a) && not (has done (target g a))

-- the targets, as far as a set reaches, of the arcs below n at which f holds
unfoldable pub targets : Graph → ℕ → (ℕ → Bool) → ℕ
targets g n f = mask_below set_width (λ i. any_below n (λ a. f a && eqb (target g a) i))

-- the targets that arcs hold back, and those that arcs demand
pub record Pulled (g : Graph) (s : State) (r : Pulls) : Type 0 where
  pub held : r.held ≡ targets g (arc_count g) (waiting g s.done s.values)
  pub demanded : r.demanded ≡ targets g (arc_count g) (demanding g s.done)

-- what f gives at 0 to 7
abbrev pub eight : {A : Type 0} → (ℕ → A) → List A
eight f = f 0 ∷ f 1 ∷ f 2 ∷ f 3 ∷ f 4 ∷ f 5 ∷ f 6 ∷ f 7 ∷ []

-- the operations of class k
unfoldable pub of_class : Graph → ℕ → ℕ
of_class g k = among g (λ j. eqb (class g j) k)

-- the class with its operations and its limit
unfoldable pub class_at : Graph → ℕ → Class
class_at g k = record { members = of_class g k; limit = limit g k }

-- the classes, and operation j in that of the number
unfoldable pub joined : List Class → ℕ → ℕ → List Class
joined classes class j =
    let old = get_or classes class (record { members = 0; limit = 0 }) in
    set classes class (record { members = mask_below set_width (λ i. has old.members i || eqb j i); limit = old.limit })

-- the operations excluded, and the first eight classes
pub record IsSorted (g : Graph) (done values : ℕ) (r : Sorted) : Type 0 where
  pub excluded : r.excluded ≡ among g (excluded g done values)
  pub classes : r.classes ≡ eight (class_at g)

-- how many steps n operations have; none where a set cannot hold them
unfoldable pub step_count : ℕ → ℕ
step_count n = cond (ltb n set_width) (2 ^ n) 0

-- what a clock may do in a state
unfoldable pub moves_in : Graph → State → Moves
moves_in g s =
    record {
      steps = step_count (operation_count g);
      undone = among g (λ j. not (has s.done j));
      held = among g (held_back g s.done s.values);
      excluded = among g (excluded g s.done s.values);
      demanded = among g (demanded g s.done s.values);
      class_count = min (class_count g) 8;
      classes = eight (class_at g);
    }

-- no member of a is a member of b
unfoldable pub apart : ℕ → ℕ → Bool
apart a b = not (any_below set_width (λ j. has a j && has b j))

-- every member of a is a member of b
unfoldable pub within : ℕ → ℕ → Bool
within a b = not (any_below set_width (λ j. has a j && not (has b j)))

-- the least number from x on and below b at which f holds; b where there is none
unfoldable pub least_from : ℕ → (ℕ → Bool) → ℕ → ℕ
least_from b f x = first_below b (λ y. leb x y && f y)

-- the step has no more members of the class than its limit
unfoldable pub roomy : Class → ℕ → Bool
roomy c step = leb (count_below set_width (λ j. has step j && has c.members j)) c.limit

module _ (m : Moves) where
  -- none of the classes has more members in the step than its limit
  unfoldable pub fits : ℕ → Bool
  fits step = list_all (λ c. roomy c step) (take m.class_count m.classes)

  -- The moves allow the step: not empty, a step, and only operations that are not done; dependency; resource; exclusion;
  -- immediacy.
  unfoldable pub allows : ℕ → Bool
  allows step =
      ltb 0 step
      && (ltb step m.steps && within step m.undone)
      && apart step m.held
      && fits step
      && apart step m.excluded
      && within m.demanded step

  -- the least step that the moves allow from a number on; the number of steps where there is none
  unfoldable pub step_from : ℕ → ℕ
  step_from from = least_from m.steps allows from

  -- that step, and none where it is the number of steps
  unfoldable pub next_of : ℕ → Option ℕ
  next_of from = cond (ltb (step_from from) m.steps) (Some (step_from from)) None

-- x raised at j, where it has no member: j joins, and below j are the members of low
unfoldable pub raised : ℕ → ℕ → ℕ → ℕ
raised x j low = (x / 2 ^ j / 2 * 2 + 1) * 2 ^ j + low % 2 ^ j
