-- What the theorems ask of a rule of steps. Assumes nothing.
use Prim.Native.Nat.{ℕ, ◌≤◌, ◌<◌}
use mathlib.Core.Path.{◌≡◌}
use mathlib.Core.Bool.{not}
use lib.Dec.{T}
use Rattle.machine.specs.Machine.{Machine}

-- `rank` falls with every legal step and is at most the horizon at the start, so runs of legal steps end.
-- `On s w` says that the word w is on the way of s: it agrees with s on every test that is resolved there. Then a word
-- on the way of a next state is on the way of the state before and leads to the same next state, so the run on a word
-- and the run on any word on the way of where it got to meet the same states.
pub record Lawful (M : Machine) : Type 1 where
  pub rank : M.State → ℕ
  pub rank_start : rank M.start ≤ M.horizon
  pub rank_falls : (s : M.State) (x w : ℕ) → T (M.legal s x) → rank (M.next s x w) < rank s
  pub step-below : (s : M.State) (x : ℕ) → T (M.legal s x) → x < M.steps
  pub word-start : M.word M.start < M.words
  pub word_next : (s : M.State) (x w : ℕ) → M.word (M.next s x w) < M.words
  pub same-eq : (r s : M.State) → T (M.same r s) → r ≡ s
  pub eq-same : (s : M.State) → T (M.same s s)
  pub before-not : (s : M.State) → T (not (M.before s s))
  pub before_trans : (r s u : M.State) → T (M.before r s) → T (M.before s u) → T (M.before r u)
  pub before-word : (r s : M.State) → M.word r < M.word s → T (M.before r s)
  pub On : M.State → ℕ → Type 0
  pub on_start : (w : ℕ) → On M.start w
  pub on_next : (s : M.State) (x w : ℕ) → On s w → On (M.next s x w) w
  pub on_back : (s : M.State) (x w v : ℕ) → On (M.next s x w) v → On s v
  pub on_same : (s : M.State) (x w v : ℕ) → On (M.next s x w) v → M.next s x v ≡ M.next s x w
  pub on_word : (s : M.State) → On s (M.word s)
