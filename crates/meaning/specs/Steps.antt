-- States and legal steps: the six constraints, and the machine that they make.
use Rattle.std.specs.Prelude.{ℕ, ◌^◌, Bool, cond, not, ◌&&◌, ◌||◌, eqb, ltb}
use Rattle.machine.specs.Sets.{has, all_below, any_below, count_below, mask_below}
use Rattle.machine.specs.Machine.{Machine}
use Rattle.meaning.specs.Graph.{Graph, Literals, operation_count, class_count, control_count, arc_count, limit, class, path, producer, source, target, kind, joins}

-- A state: the set of operations done and, for each control whose operation is done, its value.
pub record State : Type 0 where
  pub done : ℕ
  pub values : ℕ

-- The rules for a literal, an operation and an arc, over the operations done and the values.
module _ (g : Graph) (done values : ℕ) where
  -- control b is resolved: its operation is done
  unfoldable pub resolved : ℕ → Bool
  resolved b = has done (producer g b)

  -- a literal is lost: its control is resolved to the other side
  unfoldable pub lost : Literals → Bool
  lost l =
      any_below (control_count g) (λ b. resolved b
      && ((has l.on_true b && not (has values b)) || (has l.on_false b && has values b)))

  unfoldable pub excluded : ℕ → Bool
  excluded j = lost (path g j)

  unfoldable pub void : ℕ → Bool
  void a = lost (joins g a)

  -- dependency, (1) and (2): an arc into operation j that is not void has a source that is not done
  unfoldable pub held_back : ℕ → Bool
  held_back j = any_below (arc_count g) (λ a. eqb (target g a) j && not (void a) && not (has done (source g a)))

  -- immediacy, (7): a follow arc's source is done and its target j is not
  unfoldable pub demanded : ℕ → Bool
  demanded j =
      any_below (arc_count g) (λ a. eqb (kind g a) 1 && eqb (target g a) j && has done (source g a) && not (has done j))

-- resource, (3): class k has more members in the step than its limit
unfoldable pub overfull : Graph → ℕ → ℕ → Bool
overfull g step k = ltb (limit g k) (count_below (operation_count g) (λ j. has step j && eqb (class g j) k))

module _ (g : Graph) (s : State) where
  -- A state is complete when every operation is done or excluded.
  unfoldable pub complete : Bool
  complete = all_below (operation_count g) (λ j. has s.done j || excluded g s.done s.values j)

  module _ (step : ℕ) where
    -- The step is legal: not empty, only operations of the graph that aren't done; dependency; resource; exclusion;
    -- immediacy. History (4) and fork (5) are in `after`.
    unfoldable pub legal : Bool
    legal =
        ltb 0 step
        && (ltb step (2 ^ operation_count g) && all_below (operation_count g) (λ j. not (has step j && has s.done j)))
        && all_below (operation_count g) (λ j. not (has step j && held_back g s.done s.values j))
        && all_below (class_count g) (λ k. not (overfull g step k))
        && all_below (operation_count g) (λ j. not (has step j && excluded g s.done s.values j))
        && all_below (operation_count g) (λ j. not (demanded g s.done s.values j) || has step j)

    -- The next state where the controls begun fall as the word says: what is done stays done, a value stays.
    unfoldable pub after : ℕ → State
    after word =
        record {
          done = mask_below (operation_count g) (λ j. has s.done j || has step j);
          values = mask_below (control_count g) (λ b.
              cond (resolved g s.done s.values b) (has s.values b) (has step (producer g b) && has word b));
        }

-- rows of one cycle rise by values, then by done
unfoldable pub before : State → State → Bool
before r s = ltb r.values s.values || (eqb r.values s.values && ltb r.done s.done)

unfoldable pub same : State → State → Bool
same r s = eqb r.done s.done && eqb r.values s.values

-- The machine of a graph. Each legal step does an operation, so no run is longer than their number.
abbrev pub machine_of : Graph → Machine
machine_of g =
    record {
      State = State;
      start = record { done = 0; values = 0 };
      complete = complete g;
      legal = legal g;
      next = after g;
      same = same;
      before = before;
      word = λ s. s.values;
      steps = 2 ^ operation_count g;
      words = 2 ^ control_count g;
      horizon = operation_count g;
    }
