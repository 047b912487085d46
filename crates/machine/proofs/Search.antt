-- What a search of all reachable states keeps: which numbers are right, and how the least over steps of the worst over
-- words is built up. A number is right where it says, for every t below `missing`, whether the state can finish within t.
-- Assumes nothing.
use Prim.Native.Nat.{ℕ, zero, suc, min, max, ◌≤◌, ◌<◌}
use native.Mathlib.Nat.{le_refl}
use native.Mathlib.Omega.{arith}
use mathlib.Core.Path.{◌≡◌, refl, sym, ◌∙◌, ap, subst}
use mathlib.Core.Logic.{◌⊎◌, ⊎_elim}
use mathlib.Core.Bool.{Bool, not, ◌||◌}
use lib.Dec.{T, leb, leb→le, le→leb}
use borrow.Author.Tests.{lt-leb, le-leb}
use Rattle.machine.specs.Sets.{all_below, any_below}
use Rattle.machine.specs.Machine.{Machine, Reachable, begin, step, leads, finish, remaining}
use Rattle.machine.proofs.Truth.{and-not, or_cases, or_left, or_right, decided, contrary, true_of, false_of, of_true, of_false, same_test}
use Rattle.machine.proofs.Sets.{le-or-lt, trichotomy, all-at, all_of, any_at, any_of, all_same, first_none, first_unique, none_any}
use Rattle.machine.proofs.Finish.{finish-complete}

-- the number that stands for a missing one; any number above every horizon serves
abbrev pub missing : ℕ
missing = 63

module _ (M : Machine) where
  pub record Right (s : M.State) (v : ℕ) : Type 0 where
    pub small : v ≤ missing
    pub exact : (t : ℕ) → t < missing → finish M t s ≡ leb v t

  pub complete-right : (s : M.State) → T (M.complete s) → Right s 0
  complete-right s c =
      record {
        small = omega arith;
        exact = λ t h. true_of (finish M t s) (finish-complete M t s c) ∙ sym (le-leb 0 t (omega arith));
      }

  -- a right number within the horizon is the remaining number
  pub right-remaining : (s : M.State) (v : ℕ) → Right s v → M.horizon < missing → v ≤ M.horizon → remaining M s ≡ v
  unfolding remaining
  right-remaining s v r h k =
      first_unique (suc M.horizon) (λ t. finish M t s) v (record {
        below = omega arith;
        holds = of_true (r.exact v (omega arith) ∙ le-leb v v (le_refl v));
        least = λ t l. of_false (r.exact t (omega arith) ∙ lt-leb v t l);
      })

  -- a right number above the horizon says that there is none
  pub right_missing : (s : M.State) (v : ℕ) → Right s v → M.horizon < missing → M.horizon < v → remaining M s ≡ suc M.horizon
  unfolding remaining
  right_missing s v r h k =
      first_none (suc M.horizon) (λ t. finish M t s)
      (none_any (suc M.horizon) (λ t. finish M t s) (λ t l. of_false (r.exact t (omega arith) ∙ lt-leb v t (omega arith))))

  -- The worst over words: u is the largest right number over the next states by step x whose words pass p.
  pub record Worst (s : M.State) (x : ℕ) (p : ℕ → Bool) (u : ℕ) : Type 0 where
    pub small : u ≤ missing
    pub exact : (t : ℕ) → t < missing → all_below M.words (λ w. not (p w) || finish M t (M.next s x w)) ≡ leb u t

  pub worst_start : (s : M.State) (x : ℕ) (p : ℕ → Bool) → ((w : ℕ) → w < M.words → T (not (p w))) → Worst s x p 0
  worst_start s x p none =
      record {
        small = omega arith;
        exact = λ t h.
            true_of (all_below M.words (λ w. not (p w) || finish M t (M.next s x w)))
            (all_of M.words (λ w. not (p w) || finish M t (M.next s x w))
            (λ w k. or_left (not (p w)) (finish M t (M.next s x w)) (none w k)))
            ∙ sym (le-leb 0 t (omega arith));
      }

  -- two tests that say the same of every word
  pub worst_same : (s : M.State) (x : ℕ) (p q : ℕ → Bool) (u : ℕ) → ((w : ℕ) → w < M.words → p w ≡ q w) → Worst s x p u → Worst s x q u
  worst_same s x p q u e a =
      record {
        small = a.small;
        exact = λ t k. sym (all_same M.words (λ w. not (p w) || finish M t (M.next s x w)) (λ w. not (q w) || finish M t (M.next s x w))
            (λ w h. ap (λ (b : Bool). not b || finish M t (M.next s x w)) (e w h))) ∙ a.exact t k;
      }

  -- one more next state: the words that pass q are those that pass p and those that lead where v is right
  pub worst_turn : (s : M.State) (x : ℕ) (p q : ℕ → Bool) (u v w : ℕ) → Worst s x p u → Right (M.next s x w) v
      → w < M.words → T (q w) → ((k : ℕ) → k < M.words → T (p k) → T (q k))
      → ((k : ℕ) → k < M.words → T (q k) → T (p k) ⊎ (M.next s x k ≡ M.next s x w)) → Worst s x q (max u v)
  worst_turn s x p q u v w a r h here more only = record { small = omega (arith, a.small, r.small); exact = exact }
    where
      tried : (t : ℕ) → (ℕ → Bool) → ℕ → Bool
      tried t f k = not (f k) || finish M t (M.next s x k)

      pass : (t : ℕ) (f : ℕ → Bool) (k : ℕ) → T (tried t f k) → T (f k) → T (finish M t (M.next s x k))
      pass t f k c d = ⊎_elim (λ (e : T (not (f k))). absurd (contrary (f k) d e)) (λ (e : T (finish M t (M.next s x k))). e) (or_cases (not (f k)) (finish M t (M.next s x k)) c)

      keep : (t : ℕ) (f : ℕ → Bool) (k : ℕ) → (T (f k) → T (finish M t (M.next s x k))) → T (tried t f k)
      keep t f k c = ⊎_elim (λ (e : T (f k)). or_right (not (f k)) (finish M t (M.next s x k)) (c e)) (λ (e : T (not (f k))). or_left (not (f k)) (finish M t (M.next s x k)) e) (decided (f k))

      exact : (t : ℕ) → t < missing → all_below M.words (tried t q) ≡ leb (max u v) t
      exact t l = same_test (all_below M.words (tried t q)) (leb (max u v) t) to from
        where
          to : T (all_below M.words (tried t q)) → T (leb (max u v) t)
          to c =
              let old : u ≤ t = leb→le u t (subst T (a.exact t l) (all_of M.words (tried t p) (λ k i. keep t p k (λ d. pass t q k (all-at M.words (tried t q) c k i) (more k i d))))) in
              let new : v ≤ t = leb→le v t (subst T (r.exact t l) (pass t q w (all-at M.words (tried t q) c w h) here)) in
              le→leb (max u v) t (omega arith)

          from : T (leb (max u v) t) → T (all_below M.words (tried t q))
          from c =
              let b : max u v ≤ t = leb→le (max u v) t c in
              let old : T (all_below M.words (tried t p)) = subst T (sym (a.exact t l)) (le→leb u t (omega arith)) in
              let new : T (finish M t (M.next s x w)) = subst T (sym (r.exact t l)) (le→leb v t (omega arith)) in
              all_of M.words (tried t q) (λ k i. keep t q k (λ d.
              ⊎_elim (λ (e : T (p k)). pass t p k (all-at M.words (tried t p) old k i) e)
              (λ (e : M.next s x k ≡ M.next s x w). subst (λ (z : M.State). T (finish M t z)) (sym e) new) (only k i d)))

  -- all words have passed
  pub worst_leads : (s : M.State) (x : ℕ) (p : ℕ → Bool) (u : ℕ) → Worst s x p u → ((w : ℕ) → w < M.words → T (p w)) → T (M.legal s x)
      → (t : ℕ) → t < missing → leads M (finish M t) s x ≡ leb u t
  unfolding leads
  worst_leads s x p u a all legal t h = rw (true_of (M.legal s x) legal) (all_same M.words (λ w. finish M t (M.next s x w)) (λ w. not (p w) || finish M t (M.next s x w)) (λ w k. same w k) ∙ a.exact t h)
    where
      same : (w : ℕ) → w < M.words → finish M t (M.next s x w) ≡ (not (p w) || finish M t (M.next s x w))
      same w k = rw (true_of (p w) (all w k)) refl

  -- The least over steps: v is the least of 1 plus the worst over the legal steps below y.
  pub record Least (s : M.State) (y v : ℕ) : Type 0 where
    pub small : v ≤ missing
    pub positive : zero < v
    pub exact : (t : ℕ) → suc t < missing → any_below y (leads M (finish M t) s) ≡ leb v (suc t)

  -- steps that are not legal lead nowhere
  illegal_leads : (t : ℕ) (s : M.State) (x : ℕ) → T (not (M.legal s x)) → T (not (leads M (finish M t) s x))
  unfolding leads
  illegal_leads t s x h =
      and-not (M.legal s x) (all_below M.words (λ w. finish M t (M.next s x w))) (λ l. absurd (contrary (M.legal s x) l h))

  pub least_start : (s : M.State) (y : ℕ) → ((x : ℕ) → x < y → T (not (M.legal s x))) → Least s y missing
  least_start s y h =
      record {
        small = le_refl missing;
        positive = omega arith;
        exact = λ t k.
            false_of (any_below y (leads M (finish M t) s)) (none_any y (leads M (finish M t) s) (λ x l. illegal_leads t s x (h x l)))
            ∙ sym (lt-leb missing (suc t) k);
      }

  -- one more legal step x, and none between it and y
  pub least_turn : (s : M.State) (x y u v : ℕ) → Least s x v → x < y → ((t : ℕ) → t < missing → leads M (finish M t) s x ≡ leb u t)
      → ((z : ℕ) → x < z → z < y → T (not (M.legal s z))) → Least s y (min v (min missing (suc u)))
  least_turn s x y u v a h r none = record { small = omega arith; positive = omega (arith, a.positive); exact = exact }
    where
      exact : (t : ℕ) → suc t < missing → any_below y (leads M (finish M t) s) ≡ leb (min v (min missing (suc u))) (suc t)
      exact t l = same_test (any_below y f) (leb (min v (min missing (suc u))) (suc t)) to from
        where
          f : ℕ → Bool
          f = leads M (finish M t) s

          to : T (any_below y f) → T (leb (min v (min missing (suc u))) (suc t))
          to c =
              let q = any_at y f c in
              ⊎_elim (λ (e : q.0 ≡ x). at (subst (λ (z : ℕ). T (f z)) e q.2))
              (⊎_elim (λ (e : q.0 < x). below q.0 e q.2)
              (λ (e : x < q.0). absurd (contrary (f q.0) q.2 (illegal_leads t s q.0 (none q.0 e q.1)))))
              (trichotomy q.0 x)
            where
              below : (z : ℕ) → z < x → T (f z) → T (leb (min v (min missing (suc u))) (suc t))
              below z e d =
                  let b : v ≤ suc t = leb→le v (suc t) (subst T (a.exact t l) (any_of x f z e d)) in
                  le→leb (min v (min missing (suc u))) (suc t) (omega arith)

              at : T (f x) → T (leb (min v (min missing (suc u))) (suc t))
              at d =
                  let b : u ≤ t = leb→le u t (subst T (r t (omega arith)) d) in
                  le→leb (min v (min missing (suc u))) (suc t) (omega arith)

          from : T (leb (min v (min missing (suc u))) (suc t)) → T (any_below y f)
          from c =
              let b : min v (min missing (suc u)) ≤ suc t = leb→le (min v (min missing (suc u))) (suc t) c in
              ⊎_elim (λ (e : v ≤ suc t). let q = any_at x f (subst T (sym (a.exact t l)) (le→leb v (suc t) e)) in any_of y f q.0 (omega (arith, q.1)) q.2)
              (λ (e : suc t < v). any_of y f x h (subst T (sym (r t (omega arith))) (le→leb u t (omega arith)))) (le-or-lt v (suc t))

  -- no legal step is left
  pub least-right : (s : M.State) (y v : ℕ) → Least s y v → T (not (M.complete s)) → y ≤ M.steps
      → ((x : ℕ) → y ≤ x → x < M.steps → T (not (M.legal s x))) → Right s v
  unfolding finish
  least-right s y v a c h none = record { small = a.small; exact = exact }
    where
      whole : (t : ℕ) → any_below M.steps (leads M (finish M t) s) ≡ any_below y (leads M (finish M t) s)
      whole t = same_test (any_below M.steps f) (any_below y f) to (λ d. let q = any_at y f d in any_of M.steps f q.0 (omega (arith, q.1)) q.2)
        where
          f : ℕ → Bool
          f = leads M (finish M t) s

          to : T (any_below M.steps f) → T (any_below y f)
          to d =
              let q = any_at M.steps f d in
              ⊎_elim (λ (e : y ≤ q.0). absurd (contrary (f q.0) q.2 (illegal_leads t s q.0 (none q.0 e q.1))))
              (λ (e : q.0 < y). any_of y f q.0 e q.2) (le-or-lt y q.0)

      exact : (t : ℕ) → t < missing → finish M t s ≡ leb v t
      exact zero l = false_of (M.complete s) c ∙ sym (lt-leb v 0 a.positive)
      exact (suc t) l = rw (false_of (M.complete s) c) (whole t ∙ a.exact t l)

-- A store of states with numbers, where `H s v` says that it holds s with v: every number is right, every state is
-- reachable, and the next states of every state are held.
module _ (M : Machine) (H : M.State → ℕ → Type 0) where
  pub record Good : Type 0 where
    pub right : (s : M.State) (v : ℕ) → H s v → Right M s v
    pub reach : (s : M.State) (v : ℕ) → H s v → Reachable M s
    pub closed : (s : M.State) (v : ℕ) → H s v → T (not (M.complete s)) → (x : ℕ) → T (M.legal s x)
        → (w : ℕ) → w < M.words → (u : ℕ) × H (M.next s x w) u

  -- a good store that holds the start holds every reachable state
  pub good-all : Good → (v : ℕ) → H M.start v → (s : M.State) → Reachable M s → (u : ℕ) × H s u
  good-all g v h s begin = (v, h)
  good-all g v h s (step {s = r} q e x l w k) =
      let p = good-all g v h r q in g.closed r p.0 p.1 (of_false e) x l w k
