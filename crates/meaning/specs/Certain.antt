-- Document 02, request 02: the graphs that always have a schedule, and the machine of a graph with empty steps permitted.
use Rattle.std.specs.Prelude.{ℕ, Bool, not, ◌&&◌, eqb}
use Rattle.machine.specs.Sets.{all_below}
use Rattle.machine.specs.Machine.{Machine}
use Rattle.machine.specs.Idling.{idling}
use Rattle.meaning.specs.Graph.{Graph, operation_count, arc_count, limit, class, kind}
use Rattle.meaning.specs.Steps.{State, demanded, machine_of}

module _ (g : Graph) where
  unfoldable pub no_follow_arc : Bool
  no_follow_arc = all_below (arc_count g) (λ a. not (eqb (kind g a) 1))

  -- no class that an operation is in has the limit 0
  unfoldable pub no_limit_zero : Bool
  no_limit_zero = all_below (operation_count g) (λ j. not (eqb (limit g (class g j)) 0))

  -- A schedule is certain,
  unfoldable pub certain : Bool
  certain = no_follow_arc && no_limit_zero

  -- of at most so many cycles.
  unfoldable pub certain_cycles : ℕ
  certain_cycles = operation_count g

  -- immediacy demands nothing in the state, so it allows the empty step
  unfoldable pub quiet : State → Bool
  quiet s = all_below (operation_count g) (λ j. not (demanded g s.done s.values j))

-- The machine of a graph with empty steps permitted where immediacy allows them.
abbrev pub idling_of : Graph → Machine
idling_of g = idling (machine_of g) (quiet g)
