-- Any rule of steps: finishing, remaining numbers, the chosen step, runs and reachable states.
use Rattle.std.specs.Prelude.{ℕ, zero, suc, ◌<◌, ◌-◌, ◌≡◌, Bool, true, false, cond, ◌&&◌, ◌||◌, length, T}
use mathlib.Core.List.{List, [], ◌∷◌, flat_map}
use Rattle.machine.specs.Sets.{all_below, any_below, first_below, list_below}

-- A step is a number below `steps`. A word is a number below `words` that says how every branch test of a run falls;
-- `next s x w` is the state after step x in state s where the tests begun in x fall as the word w says.
-- `word s` is the word of the tests that are resolved in s, `before` the order of rows within a cycle, and no run of
-- legal steps is longer than `horizon`.
pub record Machine : Type 1 where
  pub State : Type 0
  pub start : State
  pub complete : State → Bool
  pub legal : State → ℕ → Bool
  pub next : State → ℕ → ℕ → State
  pub same : State → State → Bool
  pub before : State → State → Bool
  pub word : State → ℕ
  pub steps : ℕ
  pub words : ℕ
  pub horizon : ℕ

module _ (M : Machine) where
  -- step x is legal in s and leads, however the tests fall, to states with the property f
  unfoldable pub leads : (M.State → Bool) → M.State → ℕ → Bool
  leads f s x = M.legal s x && all_below M.words (λ w. f (M.next s x w))

  -- s can be brought to complete within t cycles, however the tests fall
  unfoldable pub finish : ℕ → M.State → Bool
  finish zero s = M.complete s
  finish (suc t) s = M.complete s || any_below M.steps (leads (finish t) s)

  -- The remaining number: the least number of cycles within which s can finish. Above the horizon it is missing.
  unfoldable pub remaining : M.State → ℕ
  remaining s = first_below (suc M.horizon) (λ t. finish t s)

  -- The chosen step: the smallest that attains the remaining number.
  unfoldable pub best : M.State → ℕ
  best s = first_below M.steps (leads (finish (remaining s - 1)) s)

  -- The state after t cycles on the word w where f gives the step for a cycle (from 1) and a state. A complete run stops.
  unfoldable pub run : (ℕ → M.State → ℕ) → ℕ → ℕ → M.State
  run f zero w = M.start
  run f (suc t) w = let s = run f t w in cond (M.complete s) s (M.next s (f (suc t) s) w)

  -- The same clock by clock: the states that can be met after t cycles where each test falls either way when it is begun.
  pub data Met (f : ℕ → M.State → ℕ) : ℕ → M.State → Type 0 where
    begin : Met f zero M.start
    clock : {t : ℕ} {s : M.State} → Met f t s → M.complete s ≡ false → (w : ℕ) → w < M.words
        → Met f (suc t) (M.next s (f (suc t) s) w)
    stopped : {t : ℕ} {s : M.State} → Met f t s → M.complete s ≡ true → Met f (suc t) s

  -- Reachable: the start, and all next states by legal steps from reachable states that aren't complete.
  pub data Reachable : M.State → Type 0 where
    begin : Reachable M.start
    step : {s : M.State} → Reachable s → M.complete s ≡ false → (x : ℕ) → T (M.legal s x) → (w : ℕ) → w < M.words
        → Reachable (M.next s x w)

  -- a list holds the state s
  unfoldable pub holds : List M.State → M.State → Bool
  holds [] s = false
  holds (r ∷ rs) s = M.same r s || holds rs s

  -- the states of a list, and those of the first that are not in it
  unfoldable pub added : List M.State → List M.State → List M.State
  added [] l = l
  added (s ∷ ss) l = let rest = added ss l in cond (holds rest s) rest (s ∷ rest)

  -- all next states of s; none where s is complete
  unfoldable pub successors : M.State → List M.State
  successors s =
      cond (M.complete s) []
      (list_below M.steps (λ x. cond (M.legal s x) (list_below M.words (λ w. M.next s x w ∷ [])) []))

  -- the states that are reached within t cycles, each once
  unfoldable pub reached : ℕ → List M.State
  reached zero = M.start ∷ []
  reached (suc t) = let l = reached t in added (flat_map successors l) l

  -- the number of reachable states
  unfoldable pub state_count : ℕ
  state_count = length (reached M.horizon)
