-- What a step leads to, as masks made once, and the next state on a word by them.
use Rattle.std.specs.Prelude.{ℕ, ◌^◌, Bool, cond, not, ◌&&◌, ltb}
use Rattle.std.specs.Int.Bits.{bit_and, bit_or}
use Rattle.machine.specs.Sets.{has, any_below, mask_below}
use Rattle.meaning.specs.Graph.{Graph, control_count, producer}
use Rattle.meaning.specs.Steps.{State, after}
use Rattle.steps.specs.Moves.{produced}
use Rattle.steps.specs.declared.Fork.{Fork}

-- how many words there are; none where a mask cannot hold them
unfoldable pub word_count : Graph → ℕ
word_count g = cond (ltb (control_count g) 32) (2 ^ control_count g) 0

-- the controls that a step resolves
unfoldable pub begun : Graph → ℕ → ℕ → ℕ
begun g done step =
    mask_below 32 (λ b. ltb b (control_count g) && (has step (producer g b) && not (has done (producer g b))))

-- the controls begun, the operations done afterwards, and the values that stay
unfoldable pub fork_of : Graph → State → ℕ → Fork
fork_of g s step =
    record {
      begun = begun g s.done step;
      done = (after g s step 0).done;
      kept = bit_and (produced g s.done) s.values;
    }

-- the word says nothing but how the controls begun fall
unfoldable pub falls : Fork → ℕ → Bool
falls f word = not (any_below 32 (λ b. has word b && not (has f.begun b)))

-- the next state where the controls begun fall as the word says
unfoldable pub fallen : Fork → ℕ → State
fallen f word = record { done = f.done; values = bit_or f.kept (bit_and f.begun word) }
