-- Laws of the legal steps of a state in ascending order, and of the words over the controls that a step begins. Assumes nothing.
use Prim.Native.Nat.{ℕ, ◌+◌, ◌^◌, ◌≤◌, ◌<◌, zero-le}
use native.Mathlib.Nat.{lt_of_le_of_lt, lt_of_lt_of_le}
use native.Mathlib.Omega.{arith}
use mathlib.Core.Path.{◌≡◌, refl, sym, ◌∙◌, ap, subst}
use mathlib.Core.Logic.{◌⊎◌, inl, inr, ⊎_elim}
use mathlib.Core.Bool.{Bool, true, false, cond, not}
use lib.Bits.{bit_and, and_le_r}
use lib.Dec.{T, ltb, ltb→lt, lt→ltb}
use borrow.Author.Tests.{le-ltb}
use Rattle.machine.proofs.Truth.{contrary, of_true, of_false, same_test}
use Rattle.machine.proofs.Sets.{le-or-lt, trichotomy}
use Rattle.meaning.specs.Graph.{Graph}
use Rattle.meaning.specs.Steps.{State, machine_of, legal, after}
use Rattle.meaning.proofs.Taken.{Within}
use Rattle.steps.specs.declared.Moves.{Moves}
use Rattle.steps.specs.declared.Fork.{Fork}
use Rattle.std.specs.Prelude.{Option, Some, None}
use Rattle.steps.specs.Moves.{moves_in, step_from, next_of}
use Rattle.steps.specs.Forks.{begun, fork_of, falls, fallen}
use Rattle.steps.proofs.Above.{Least, least-from}
use Rattle.steps.proofs.Allowed.{from-legal, steps_all}
use Rattle.steps.proofs.After.{after_outcome, part_falls, falls_part, fallen-after}
use Rattle.scheduler.specs.Search.{StepFrom, StepIn}

-- the next step that the moves of a state allow from x on is the least legal one
pub step_found : (g : Graph) → Within g → (s : State) (moves : Moves) (x : ℕ) (y : Option ℕ) → moves ≡ moves_in g s → x ≤ (machine_of g).steps
    → y ≡ next_of moves x → StepIn g s x y
unfolding next_of
step_found g w s moves x y m h e = subst (StepIn g s x) (sym e) (go (ltb (step_from moves x) moves.steps) refl)
  where
    found : Least (machine_of g).steps (legal g s) x (step_from moves x)
    found =
        subst (Least (machine_of g).steps (legal g s) x) (sym (ap (λ (k : Moves). step_from k x) m ∙ from-legal g w s x))
        (least-from (machine_of g).steps (legal g s) x h)

    steps : moves.steps ≡ (machine_of g).steps
    steps = ap (λ (k : Moves). k.steps) m ∙ steps_all g w s

    go : (b : Bool) → ltb (step_from moves x) moves.steps ≡ b → StepIn g s x (cond b (Some (step_from moves x)) None)
    go true k =
        let below : step_from moves x < (machine_of g).steps =
        subst (λ (n : ℕ). step_from moves x < n) steps (ltb→lt (step_from moves x) moves.steps (of_true k)) in
        record { from = found.from; within = below; lawful = found.holds below; between = found.none }
    go false k =
        λ z i j. found.none z i
        (⊎_elim (λ (l : moves.steps ≤ step_from moves x). lt_of_lt_of_le (subst (λ (n : ℕ). z < n) (sym steps) j) l)
        (λ (l : step_from moves x < moves.steps). absurd
        (contrary (ltb (step_from moves x) moves.steps) (lt→ltb (step_from moves x) moves.steps l) (of_false k)))
        (le-or-lt moves.steps (step_from moves x)))

-- the steps of a state's moves are the machine's, so the next step is below them
pub next-below : {g : Graph} {s : State} {moves : Moves} {from x : ℕ} → Within g → moves ≡ moves_in g s → StepFrom g s from x → x < moves.steps
next-below {g = g} {s = s} {x = x} w e n =
    subst (λ (k : ℕ). x < k) (sym (ap (λ (m : Moves). m.steps) e ∙ steps_all g w s)) n.within

-- a word over the controls that a step begins, where the code has its fork
pub in_forks : (g : Graph) (s : State) (step : ℕ) {fork : Fork} {word : ℕ} → fork ≡ fork_of g s step → word ≤ fork.begun → word ≤ begun g s.done step
unfolding fork_of
in_forks g s step {word = word} f h = subst (λ (k : ℕ). word ≤ k) (ap (λ (k : Fork). k.begun) f) h

-- and where it leads
pub goes : (g : Graph) (s : State) (step : ℕ) {fork : Fork} {word : ℕ} → fork ≡ fork_of g s step → s.values < 16 → word < 16
    → fallen fork word ≡ after g s step word
goes g s step {word = word} f v w =
    ap (λ (k : Fork). fallen k word) f ∙ fallen-after g s step word (omega (arith, v)) (omega (arith, w))

-- a word leads where its part over the controls begun leads
pub same_part : (g : Graph) (s : State) (x v w : ℕ) → v < 2 ^ 32 → w < 2 ^ 32
    → bit_and v (begun g s.done x) ≡ bit_and w (begun g s.done x) → after g s x v ≡ after g s x w
same_part g s x v w h k e = after_outcome g s x v h ∙ ap (after g s x) e ∙ sym (after_outcome g s x w k)

-- The words whose part over the controls begun is below a given word.
unfoldable pub passed : ℕ → ℕ → ℕ → Bool
passed forks word v = ltb (bit_and v forks) word

pub passed_none : (forks v : ℕ) → T (not (passed forks 0 v))
unfolding passed
passed_none forks v = of_false (le-ltb (bit_and v forks) 0 zero-le)

pub passed-all : (forks word v : ℕ) → forks < word → T (passed forks word v)
unfolding passed
passed-all forks word v k = lt→ltb (bit_and v forks) word (lt_of_le_of_lt (and_le_r v forks) k)

pub passed_more : (forks word v : ℕ) → T (passed forks word v) → T (passed forks (word + 1) v)
unfolding passed
passed_more forks word v t = lt→ltb (bit_and v forks) (word + 1) (omega (arith, ltb→lt (bit_and v forks) word t))

-- one word more: those with its part
pub passed-only : (forks word v : ℕ) → T (passed forks (word + 1) v) → T (passed forks word v) ⊎ (bit_and v forks ≡ word)
unfolding passed
passed-only forks word v t =
    let h = ltb→lt (bit_and v forks) (word + 1) t in
    ⊎_elim (λ (e : bit_and v forks ≡ word). inr e)
    (⊎_elim (λ (l : bit_and v forks < word). inl (lt→ltb (bit_and v forks) word l)) (λ (l : word < bit_and v forks). absurd (omega arith)))
    (trichotomy (bit_and v forks) word)

module _ (f : Fork) (word : ℕ) where
  -- an outcome passes then
  pub passed_here : word < 2 ^ 32 → T (falls f word) → T (passed f.begun (word + 1) word)
  unfolding passed
  passed_here h t = lt→ltb (bit_and word f.begun) (word + 1) (omega (arith, falls_part f word h t))

  -- a word that is none adds nothing
  pub passed_skip : T (not (falls f word)) → (v : ℕ) → passed f.begun word v ≡ passed f.begun (word + 1) v
  passed_skip n v =
      same_test (passed f.begun word v) (passed f.begun (word + 1) v) (passed_more f.begun word v)
      (λ t. ⊎_elim (λ (p : T (passed f.begun word v)). p)
      (λ (e : bit_and v f.begun ≡ word). absurd (contrary (falls f word) (subst (λ (k : ℕ). T (falls f k)) e (part_falls f v)) n))
      (passed-only f.begun word v t))
