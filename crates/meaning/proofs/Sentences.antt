-- Demand 2 for graph files: document 01's sentences on the remaining number and on the chosen step hold of every reachable
-- state. Assumes nothing.
use Prim.Native.Nat.{ℕ, ◌≤◌}
use mathlib.Core.Path.{◌≡◌}
use mathlib.Core.Bool.{not}
use mathlib.Core.List.{List}
use lib.Dec.{T}
use Rattle.machine.specs.Refusals.{taken}
use Rattle.machine.specs.Machine.{Reachable, best}
use Rattle.machine.proofs.Finish.{HasNumber, RemainingSentence, remaining_sentence, SmallestAttaining, best_sentence}
use Rattle.machine.proofs.Reach.{reachable_rank}
use Rattle.meaning.specs.Steps.{State}
use Rattle.meaning.specs.Answers.{graph_verdict}
use Rattle.meaning.proofs.Demands.{machine_in, lawful_in}

-- For a graph file that is taken, and a reachable state.
module _ (file : List ℕ) (ok : graph_verdict file ≡ taken) (s : State) (reached : Reachable (machine_in file ok) s) where
  ranked : (lawful_in file ok).rank s ≤ (machine_in file ok).horizon
  ranked = reachable_rank (machine_in file ok) (lawful_in file ok) s reached

  -- The remaining number is 0 if the state is complete, otherwise the least over legal steps of 1 plus the largest remaining
  -- number among the next states. It is missing if there is no legal step all of whose next states have one.
  pub remaining-reachable : RemainingSentence (machine_in file ok) s
  remaining-reachable = remaining_sentence (machine_in file ok) (lawful_in file ok) s ranked

  -- The chosen step is the smallest that attains the remaining number.
  pub best-reachable : T (not ((machine_in file ok).complete s)) → HasNumber (machine_in file ok) s
      → SmallestAttaining (machine_in file ok) s (best (machine_in file ok) s)
  best-reachable = best_sentence (machine_in file ok) (lawful_in file ok) s ranked
