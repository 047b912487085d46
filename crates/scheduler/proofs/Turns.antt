-- What the two loops of the search keep: the least over the steps tried, and the worst over the words tried of one step.
-- Assumes nothing.
use Prim.Native.Nat.{ℕ, suc, min, max, ◌+◌, ◌^◌, ◌≤◌, ◌<◌, zero-le}
use native.Mathlib.Nat.{le_refl, not-suc-le-zero, lt_irrefl, lt_of_lt_of_le}
use native.Mathlib.Omega.{arith}
use mathlib.Core.Path.{◌≡◌, sym, ◌∙◌, subst}
use mathlib.Core.Logic.{◌⊎◌, inl, inr, ⊎_elim}
use mathlib.Core.Bool.{true, not}
use mathlib.Core.List.{List}
use lib.Bits.{bit_and}
use lib.Dec.{T}
use lib.Pow.{pow_mono}
use Rattle.machine.specs.Machine.{Reachable, step}
use Rattle.machine.proofs.Truth.{true_of, false_of, contrary}
use Rattle.machine.proofs.Sets.{le-or-lt, trichotomy}
use Rattle.machine.proofs.Search.{missing, Right, Worst, worst_start, worst_same, worst_turn, worst_leads, Least, least_start, least_turn, least-right}
use Rattle.meaning.specs.Graph.{Graph, control_count}
use Rattle.meaning.specs.Steps.{State, machine_of, complete, legal, after}
use Rattle.meaning.proofs.Taken.{Accepted, few-controls}
use Rattle.meaning.proofs.Instance.{undone, rank_falls, lawful}
use Rattle.steps.specs.Forks.{begun, fork_of, falls}
use Rattle.steps.proofs.After.{begun-below, falls_part}
use Rattle.std.specs.Prelude.{None}
use Rattle.scheduler.specs.Slots.{Holds, Finds}
use Rattle.scheduler.specs.Search.{StepFrom, Held, Store, Grown, Ready, Settles, Branches, Storable}
use Rattle.scheduler.proofs.SearchLaws.{grown_none, grown_again}
use Rattle.scheduler.proofs.Moves.{passed, passed_none, passed-all, passed_here, passed_more, passed-only, passed_skip, same_part}

-- A state that is not complete, and the slots where its search begins.
module _ (g : Graph) (s : State) where
  -- The steps below `from` have been tried; no step is legal from there up to y.
  pub record Tried (before slots : List ℕ) (number from : ℕ) : Type 0 where
    pub grown : Grown g before slots (undone g s)
    pub least : (y : ℕ) → from ≤ y → ((z : ℕ) → from ≤ z → z < y → T (not (legal g s z))) → Least (machine_of g) s y number
    pub small : number ≤ missing
    pub within : from ≤ (machine_of g).steps
    pub seen : (x : ℕ) → x < from → T (legal g s x) → (w : ℕ) → w < 2 ^ control_count g → Held slots (after g s x w)

  -- The words below `word` over the controls begun in the step x have been tried.
  pub record Branched (x : ℕ) (before slots : List ℕ) (number word : ℕ) : Type 0 where
    pub grown : Grown g before slots (undone g s)
    pub worst : Worst (machine_of g) s x (passed (begun g s.done x) word) number
    pub seen : (v : ℕ) → v < 2 ^ control_count g → T (passed (begun g s.done x) word v) → Held slots (after g s x v)

  pub tried_none : (slots : List ℕ) → Store g slots → Tried slots slots missing 0
  tried_none slots store =
      record {
        grown = grown_none g slots (undone g s) store;
        least = λ y h none. least_start (machine_of g) s y (λ x k. none x zero-le k);
        small = le_refl missing;
        within = zero-le;
        seen = λ x h. absurd (not-suc-le-zero h);
      }

  pub branched_none : (x : ℕ) (slots : List ℕ) → Store g slots → Branched x slots slots 0 0
  branched_none x slots store =
      record {
        grown = grown_none g slots (undone g s) store;
        worst = worst_start (machine_of g) s x (passed (begun g s.done x) 0) (λ w h. passed_none (begun g s.done x) w);
        seen = λ v h t. absurd (contrary (passed (begun g s.done x) 0 v) t (passed_none (begun g s.done x) v));
      }

  -- a word that is no outcome is passed over
  pub branched_skip : (x : ℕ) (before slots : List ℕ) (worst word : ℕ) → Branched x before slots worst word
      → T (not (falls (fork_of g s x) word)) → Branched x before slots worst (word + 1)
  unfolding fork_of
  branched_skip x before slots worst word b n =
      record {
        grown = b.grown;
        worst = worst_same (machine_of g) s x (passed (begun g s.done x) word) (passed (begun g s.done x) (word + 1)) worst
            (λ v h. passed_skip (fork_of g s x) word n v) b.worst;
        seen = λ v h t. b.seen v h (subst T (sym (passed_skip (fork_of g s x) word n v)) t);
      }

  module _ (a : Accepted g) where
    -- the controls begun, and so the words over them, are below 16 and among the words
    pub forks_small : (x : ℕ) → begun g s.done x < 16
    forks_small x = lt_of_lt_of_le (begun-below g s x) (pow_mono (few-controls a.within))

    -- legal steps are among the steps
    pub lawful-steps : (x : ℕ) → T (legal g s x) → x < (machine_of g).steps
    lawful-steps x t = (lawful g a.taken).step-below s x t

    -- a word fits a mask
    pub word_low : (v : ℕ) → v < 2 ^ control_count g → v < 2 ^ 32
    word_low v h = lt_of_lt_of_le h (pow_mono {i = control_count g} {j = 32} (omega (arith, few-controls a.within)))

    pub branched_ready : (x : ℕ) (before slots : List ℕ) (worst word : ℕ) → Reachable (machine_of g) s
        → T (not (complete g s)) → T (legal g s x) → Branched x before slots worst word
        → word ≤ begun g s.done x → Ready g slots (after g s x word)
    branched_ready x before slots worst word q c t b h =
        record {
          store = b.grown.store;
          reachable = step q (false_of (complete g s) c) x t word (omega (arith, begun-below g s x));
        }

    pub branched_next : (x : ℕ) (before slots last : List ℕ) (worst number word : ℕ) → T (legal g s x)
        → Branched x before slots worst word → word ≤ begun g s.done x → T (falls (fork_of g s x) word)
        → Settles g slots last (after g s x word) number → Branched x before last (max worst number) (word + 1)
    unfolding fork_of
    branched_next x before slots last worst number word t b h o r = record {
      grown = grown_again g before slots last (undone g s) (suc (undone g (after g s x word))) b.grown r.grown
          (rank_falls g a.taken s x word t);
      worst = worst_turn (machine_of g) s x (passed forks word) (passed forks (word + 1)) worst number word b.worst right small
          (passed_here (fork_of g s x) word low o) (λ k i. passed_more forks word k) only;
      seen = λ v i u. ⊎_elim (λ (p : T (passed forks word v)). let o = b.seen v i p in (o.0, r.grown.kept (after g s x v) o.0 o.1))
          (λ (e : after g s x v ≡ after g s x word). (number, subst (λ (q : State). Holds last q number) (sym e) r.held)) (only v i u);
    }
      where
        forks : ℕ
        forks = begun g s.done x

        small : word < 2 ^ control_count g
        small = omega (arith, begun-below g s x)

        low : word < 2 ^ 32
        low = omega (arith, forks_small x)

        right : Right (machine_of g) (after g s x word) number
        right = r.grown.store.good.right (after g s x word) number r.held

        only : (v : ℕ) → v < 2 ^ control_count g → T (passed forks (word + 1) v) → T (passed forks word v) ⊎ (after g s x v ≡ after g s x word)
        only v i u =
            ⊎_elim (λ (p : T (passed forks word v)). inl p)
            (λ (e : bit_and v forks ≡ word). inr (same_part g s x v word (word_low v i) low (e ∙ sym (falls_part (fork_of g s x) word low o))))
            (passed-only forks word v u)

    -- the words that have been tried are all, and so are the next states
    pub branched_all : (x : ℕ) (before slots : List ℕ) (worst word : ℕ) → Branched x before slots worst word → begun g s.done x < word
        → Branches g before slots s x worst
    branched_all x before slots worst word b h =
        let all : (w : ℕ) → T (passed (begun g s.done x) word w) = λ w. passed-all (begun g s.done x) word w h in
        record {
          grown = b.grown;
          worst = worst_same (machine_of g) s x (passed (begun g s.done x) word) (λ w. true) worst
              (λ w k. true_of (passed (begun g s.done x) word w) (all w)) b.worst;
          held = λ w k. b.seen w k (all w);
        }

    pub tried_next : (before slots last : List ℕ) (least worst from x : ℕ) → Tried before slots least from → StepFrom g s from x
        → Branches g slots last s x worst → Tried before last (min least (worst + 1)) (x + 1)
    tried_next before slots last least worst from x t n b = record {
      grown = grown_again g before slots last (undone g s) (undone g s) t.grown b.grown (le_refl (undone g s));
      least = λ y h none.
          subst (Least (machine_of g) s y) capped
          (least_turn (machine_of g) s x y worst least (t.least x n.from n.between) (omega (arith, h))
          (worst_leads (machine_of g) s x (λ w. true) worst b.worst (λ w k. tt) n.lawful)
          (λ z l u. none z (omega (arith, l)) u));
      small = omega (arith, t.small);
      within = omega (arith, n.within);
      seen = seen;
    }
      where
        capped : min least (min missing (suc worst)) ≡ min least (worst + 1)
        capped = omega (arith, t.small)

        seen : (z : ℕ) → z < x + 1 → T (legal g s z) → (w : ℕ) → w < 2 ^ control_count g → Held last (after g s z w)
        seen z i u w l =
            ⊎_elim (λ (e : z ≡ x). subst (λ (k : ℕ). Held last (after g s k w)) (sym e) (b.held w l))
            (⊎_elim (λ (e : z < x). let o = old z e u w l in (o.0, b.grown.kept (after g s z w) o.0 o.1)) (λ (e : x < z). absurd (omega arith)))
            (trichotomy z x)
          where
            old : (k : ℕ) → k < x → T (legal g s k) → (w : ℕ) → w < 2 ^ control_count g → Held slots (after g s k w)
            old k e u w l =
                ⊎_elim (λ (h : from ≤ k). absurd (contrary (legal g s k) u (n.between k h e))) (λ (h : k < from). t.seen k h u w l)
                (le-or-lt from k)

    pub tried_all : (before slots : List ℕ) (least from : ℕ) → Tried before slots least from
        → ((z : ℕ) → from ≤ z → z < (machine_of g).steps → T (not (legal g s z)))
        → T (not (complete g s)) → Reachable (machine_of g) s → Finds before s None → Storable g slots s least
    tried_all before slots least from t m c q n =
        record {
          ready = record { store = t.grown.store; reachable = q };
          absent = λ number h.
              ⊎_elim (λ (k : Holds before s number). n number k) (λ (k : undone g s < undone g s). lt_irrefl (undone g s) k) (t.grown.fresh s number h);
          right = least-right (machine_of g) s from least (t.least from (le_refl from) (λ z h k. absurd (lt_irrefl z (omega arith)))) c t.within m;
          closed = λ d x u.
              ⊎_elim (λ (h : from ≤ x). absurd (contrary (legal g s x) u (m x h (lawful-steps x u)))) (λ (h : x < from). t.seen x h u)
              (le-or-lt from x);
        }
