-- Choosing a step: which steps attain a bound, and that the first which attains the remaining number less one is the chosen
-- one. Assumes nothing.
use Prim.Native.Nat.{ℕ, ◌+◌, ◌-◌, ◌^◌, ◌≤◌, ◌<◌, zero-le}
use native.Mathlib.Nat.{lt_irrefl, not-suc-le-zero}
use native.Mathlib.Omega.{arith}
use mathlib.Core.Path.{◌≡◌, sym, ◌∙◌, subst}
use mathlib.Core.Logic.{⊎_elim}
use mathlib.Core.Bool.{Bool, true, false, not}
use mathlib.Core.List.{List}
use lib.Bits.{bit_and}
use lib.Dec.{T}
use borrow.Author.Tests.{lt-leb, le-leb}
use Rattle.machine.specs.Machine.{leads, finish, remaining, best}
use Rattle.machine.proofs.Truth.{contrary, refuted, true_of, false_of, of_true, of_false}
use Rattle.machine.proofs.Sets.{le-or-lt, trichotomy, First, first_unique}
use Rattle.machine.proofs.Finish.{leads_of, leads-next, leads-legal, best-first}
use Rattle.machine.proofs.Search.{missing, Right, right-remaining, right_missing}
use Rattle.meaning.specs.Graph.{Graph, control_count}
use Rattle.meaning.specs.Steps.{State, machine_of, complete, legal, after}
use Rattle.meaning.proofs.Taken.{Accepted, few-operations}
use Rattle.steps.specs.Forks.{begun, fork_of, falls}
use Rattle.steps.proofs.After.{begun-below, falls_part}
use Rattle.scheduler.specs.Slots.{Holds}
use Rattle.scheduler.specs.Search.{StepFrom, Held}
use Rattle.scheduler.specs.Rows.{Choosing}
use Rattle.scheduler.proofs.Moves.{passed, passed_none, passed-all, passed-only, passed_skip, same_part}
use Rattle.scheduler.proofs.Turns.{word_low}

-- The next states by the step x over the words below `word` finish within the bound.
abbrev pub Attained : Graph → State → ℕ → ℕ → ℕ → Type 0
Attained g s x bound word =
    (v : ℕ) → v < 2 ^ control_count g → T (passed (begun g s.done x) word v) → T (finish (machine_of g) bound (after g s x v))

-- The steps below `from` do not lead to states that finish within the bound.
pub record Passed (g : Graph) (s : State) (bound from : ℕ) : Type 0 where
  pub within : from ≤ (machine_of g).steps
  pub below : (x : ℕ) → x < from → T (not (leads (machine_of g) (finish (machine_of g) bound) s x))

module _ (g : Graph) (accepted : Accepted g) (slots : List ℕ) (s : State) (c : Choosing g slots s) where
  right : (r : State) (n : ℕ) → Holds slots r n → Right (machine_of g) r n
  right = c.store.good.right

  module _ (x bound : ℕ) (lawful : T (legal g s x)) (small : bound < missing) where
    word_below : (word : ℕ) → word ≤ begun g s.done x → word < 2 ^ control_count g
    word_below word h = omega (arith, begun-below g s x)

    pub next-held : (word : ℕ) → word ≤ begun g s.done x → Held slots (after g s x word)
    next-held word h =
        c.store.good.closed s c.held.0 c.held.1 c.unfinished x lawful word (word_below word h)

    pub attained_none : Attained g s x bound 0
    attained_none v h t = absurd (contrary (passed (begun g s.done x) 0 v) t (passed_none (begun g s.done x) v))

    -- a word that is no outcome is passed over
    pub attained_skip : (word : ℕ) → Attained g s x bound word → T (not (falls (fork_of g s x) word)) → Attained g s x bound (word + 1)
    unfolding fork_of
    attained_skip word a n v l t = a v l (subst T (sym (passed_skip (fork_of g s x) word n v)) t)

    pub attained_next : (word n : ℕ) → Attained g s x bound word → word ≤ begun g s.done x → T (falls (fork_of g s x) word)
        → Holds slots (after g s x word) n → n ≤ bound → Attained g s x bound (word + 1)
    unfolding fork_of
    attained_next word n a h o held k v l t =
        let low : word < 2 ^ 32 = word_low g s accepted word (word_below word h) in
        ⊎_elim (a v l)
        (λ (e : bit_and v (begun g s.done x) ≡ word). subst (λ (r : State). T (finish (machine_of g) bound r))
        (sym (same_part g s x v word (word_low g s accepted v l) low (e ∙ sym (falls_part (fork_of g s x) word low o))))
        (of_true ((right (after g s x word) n held).exact bound small ∙ le-leb n bound k)))
        (passed-only (begun g s.done x) word v t)

    pub attained_all : (word : ℕ) → Attained g s x bound word → begun g s.done x < word → true ≡ leads (machine_of g) (finish (machine_of g) bound) s x
    attained_all word a h =
        sym (true_of (leads (machine_of g) (finish (machine_of g) bound) s x)
        (leads_of (machine_of g) (finish (machine_of g) bound) s x lawful (λ v l. a v l (passed-all (begun g s.done x) word v h))))

    pub attained_not : (word n : ℕ) → word ≤ begun g s.done x → Holds slots (after g s x word) n → bound < n
        → false ≡ leads (machine_of g) (finish (machine_of g) bound) s x
    attained_not word n h held k =
        sym (false_of (leads (machine_of g) (finish (machine_of g) bound) s x) (refuted (leads (machine_of g) (finish (machine_of g) bound) s x) (λ t.
        contrary (finish (machine_of g) bound (after g s x word)) (leads-next (machine_of g) (finish (machine_of g) bound) s x t word (word_below word h))
        (of_false ((right (after g s x word) n held).exact bound small ∙ lt-leb n bound k)))))

  -- the number that is held with the state is its remaining number, and not 0
  module _ (n : ℕ) (held : Holds slots s n) where
    pub number_positive : 0 < n
    unfolding finish
    number_positive =
        ⊎_elim (λ (h : n ≤ 0). absurd
        (contrary (complete g s) (of_true ((right s n held).exact 0 (omega arith) ∙ le-leb n 0 h)) c.unfinished))
        (λ (h : 0 < n). h) (le-or-lt n 0)

    horizon : (machine_of g).horizon < missing
    horizon = omega (arith, few-operations accepted.within)

    number_small : n ≤ (machine_of g).horizon
    number_small =
        ⊎_elim (λ (h : n ≤ (machine_of g).horizon). h)
        (λ (h : (machine_of g).horizon < n). absurd (lt_irrefl (machine_of g).horizon
        (subst (λ (k : ℕ). k ≤ (machine_of g).horizon) (right_missing (machine_of g) s n (right s n held) horizon h) c.numbered)))
        (le-or-lt n (machine_of g).horizon)

    number-remaining : remaining (machine_of g) s ≡ n
    number-remaining = right-remaining (machine_of g) s n (right s n held) horizon number_small

    pub bound_small : n - 1 < missing
    bound_small = omega (arith, number_small, horizon)

    attains : ℕ → Bool
    attains = leads (machine_of g) (finish (machine_of g) (n - 1)) s

    first : First (machine_of g).steps attains (best (machine_of g) s)
    unfolding attains
    first =
        subst (λ (k : ℕ). First (machine_of g).steps (leads (machine_of g) (finish (machine_of g) (k - 1)) s) (best (machine_of g) s)) number-remaining
        (best-first (machine_of g) s c.unfinished c.numbered)

    not-lawful : (x : ℕ) → T (not (legal g s x)) → T (not (leads (machine_of g) (finish (machine_of g) (n - 1)) s x))
    not-lawful x t =
        refuted (leads (machine_of g) (finish (machine_of g) (n - 1)) s x)
        (λ u. contrary (legal g s x) (leads-legal (machine_of g) (finish (machine_of g) (n - 1)) s x u) t)

    pub passed_start : Passed g s (n - 1) 0
    passed_start = record { within = zero-le; below = λ x h. absurd (not-suc-le-zero h) }

    -- no step below the next one leads there
    before : (from x : ℕ) → Passed g s (n - 1) from → ((z : ℕ) → from ≤ z → z < x → T (not (legal g s z)))
        → (z : ℕ) → z < x → T (not (leads (machine_of g) (finish (machine_of g) (n - 1)) s z))
    before from x p none z h =
        ⊎_elim (λ (k : from ≤ z). not-lawful z (none z k h)) (λ (k : z < from). p.below z k) (le-or-lt from z)

    pub passed-next : (from x : ℕ) → Passed g s (n - 1) from → StepFrom g s from x
        → false ≡ leads (machine_of g) (finish (machine_of g) (n - 1)) s x → Passed g s (n - 1) (x + 1)
    passed-next from x p next e = record { within = omega (arith, next.within); below = below }
      where
        below : (z : ℕ) → z < x + 1 → T (not (leads (machine_of g) (finish (machine_of g) (n - 1)) s z))
        below z h =
            ⊎_elim (λ (k : z ≡ x). subst (λ (i : ℕ). T (not (leads (machine_of g) (finish (machine_of g) (n - 1)) s i))) (sym k) (of_false (sym e)))
            (⊎_elim (λ (k : z < x). before from x p next.between z k) (λ (k : x < z). absurd (omega arith)))
            (trichotomy z x)

    -- so the first that does is the chosen one, and there is one
    pub passed_found : (from x : ℕ) → Passed g s (n - 1) from → StepFrom g s from x
        → true ≡ leads (machine_of g) (finish (machine_of g) (n - 1)) s x → x ≡ best (machine_of g) s
    unfolding attains
    passed_found from x p next e =
        sym (first_unique (machine_of g).steps attains x (record { below = next.within; holds = of_true (sym e); least = before from x p next.between }))
        ∙ first_unique (machine_of g).steps attains (best (machine_of g) s) first

    pub passed_some : (from : ℕ) → Passed g s (n - 1) from → ((z : ℕ) → from ≤ z → z < (machine_of g).steps → T (not (legal g s z))) → ⊥
    unfolding attains
    passed_some from p none =
        contrary (attains (best (machine_of g) s)) first.holds
        (before from (machine_of g).steps p none (best (machine_of g) s) first.below)
