-- What the search keeps from state to state. The public promise does not speak of it.
use Rattle.std.specs.Prelude.{ℕ, suc, ◌^◌, ◌≤◌, ◌<◌, ◌≡◌, ◌⊎◌, true, not, List, length, T, Option, Some, None}
use Rattle.machine.specs.Machine.{Reachable, state_count}
use Rattle.machine.proofs.Search.{Right, Worst, Good}
use Rattle.meaning.specs.Graph.{Graph, control_count}
use Rattle.meaning.specs.Steps.{State, machine_of, legal, complete, after as next}
use Rattle.meaning.proofs.Taken.{Within}
use Rattle.meaning.proofs.Instance.{undone}
use Rattle.steps.specs.declared.Moves.{Moves}
use Rattle.steps.specs.Moves.{moves_in}
use Rattle.scheduler.specs.Slots.{Holds, Finds}

-- the step y is the least legal one from x on in the state s
pub record StepFrom (g : Graph) (s : State) (x y : ℕ) : Type 0 where
  pub from : x ≤ y
  pub within : y < (machine_of g).steps
  pub lawful : T (legal g s y)
  pub between : (z : ℕ) → x ≤ z → z < y → T (not (legal g s z))

-- what is the next step from x on in the state s: that one, or none
abbrev pub StepIn : Graph → State → ℕ → Option ℕ → Type 0
StepIn g s x (Some y) = StepFrom g s x y
StepIn g s x None = (z : ℕ) → x ≤ z → z < (machine_of g).steps → T (not (legal g s z))

-- it is that for whichever graph and state the moves are
abbrev pub NextStep : Moves → ℕ → Option ℕ → Type 0
NextStep moves x y = (g : Graph) (s : State) → Within g → moves ≡ moves_in g s → x ≤ (machine_of g).steps → StepIn g s x y

-- some number is held with the state s
abbrev pub Held : List ℕ → State → Type 0
Held slots s = (number : ℕ) × Holds slots s number

-- Each number that the slots hold is right, each state reachable, and with a state all its next states are held.
pub record Store (g : Graph) (slots : List ℕ) : Type 0 where
  pub good : Good (machine_of g) (Holds slots)

-- The slots `after` hold what the slots `before` held, and more states only of lower rank than the bound.
pub record Grown (g : Graph) (before after : List ℕ) (bound : ℕ) : Type 0 where
  pub store : Store g after
  pub same_length : length after ≡ length before
  pub kept : (s : State) (number : ℕ) → Holds before s number → Holds after s number
  pub fresh : (s : State) (number : ℕ) → Holds after s number → Holds before s number ⊎ (undone g s < bound)

-- what settling a state asks
pub record Ready (g : Graph) (slots : List ℕ) (s : State) : Type 0 where
  pub store : Store g slots
  pub reachable : Reachable (machine_of g) s

-- what settling a state gives: it is held with its number
pub record Settles (g : Graph) (before after : List ℕ) (s : State) (number : ℕ) : Type 0 where
  pub grown : Grown g before after (suc (undone g s))
  pub held : Holds after s number

-- or there are more reachable states than slots
abbrev pub SettledTo : Graph → List ℕ → List ℕ → State → Option ℕ → Type 0
SettledTo g before after s None = length before < state_count (machine_of g)
SettledTo g before after s (Some number) = Settles g before after s number

-- what settling the states after a step asks: it is legal in an unfinished state
pub record Branching (g : Graph) (slots : List ℕ) (s : State) (step : ℕ) : Type 0 where
  pub ready : Ready g slots s
  pub unfinished : T (not (complete g s))
  pub lawful : T (legal g s step)

-- what it gives: they are held, and the number is the worst of theirs
pub record Branches (g : Graph) (before after : List ℕ) (s : State) (step number : ℕ) : Type 0 where
  pub grown : Grown g before after (undone g s)
  pub worst : Worst (machine_of g) s step (λ w. true) number
  pub held : (w : ℕ) → w < 2 ^ control_count g → Held after (next g s step w)

-- or there are more reachable states than slots
abbrev pub BranchedTo : Graph → List ℕ → List ℕ → State → ℕ → Option ℕ → Type 0
BranchedTo g before after s step None = length before < state_count (machine_of g)
BranchedTo g before after s step (Some number) = Branches g before after s step number

-- what storing a state asks: it is not held, its number is right, and its next states are held
pub record Storable (g : Graph) (slots : List ℕ) (s : State) (number : ℕ) : Type 0 where
  pub ready : Ready g slots s
  pub absent : Finds slots s None
  pub right : Right (machine_of g) s number
  pub closed : T (not (complete g s)) → (x : ℕ) → T (legal g s x)
      → (w : ℕ) → w < 2 ^ control_count g → Held slots (next g s x w)
