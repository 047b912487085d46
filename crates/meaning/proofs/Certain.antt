-- Request 02: a taken graph with no follow arc and no limit of 0 on a class in use always has a schedule, of as many cycles as
-- it has operations at most. Assumes nothing.
use Prim.Native.Nat.{ℕ, zero, suc, ◌^◌, ◌≤◌, ◌<◌}
use native.Mathlib.Nat.{le_trans, le_of_eq, lt_irrefl}
use native.Mathlib.Omega.{arith}
use mathlib.Core.Path.{◌≡◌, refl, sym, ◌∙◌, ap, subst}
use mathlib.Core.Logic.{◌⊎◌, inl, inr, ⊎_elim, ◌↔◌, ◌≢◌}
use mathlib.Core.Bool.{Bool, not, ◌&&◌, ◌||◌}
use mathlib.Core.List.{List}
use lib.Dec.{T, eqb, eqb→eq}
use lib.Pow.{pow_pos}
use Rattle.machine.specs.Sets.{has, count_below, first_below}
use Rattle.machine.specs.Refusals.{taken}
use Rattle.machine.specs.Machine.{remaining, Reachable}
use Rattle.machine.proofs.Truth.{and_left, and_right, or_cases, not-or_left, not-or-right, contrary, refuted, not-not_elim}
use Rattle.machine.proofs.Sets.{First, all_failed, any_of, first_some, count_none, count-one, has-power}
use Rattle.machine.proofs.Says.{says_and, says_all, says_not, denies_eqb}
use Rattle.machine.proofs.Progress.{Progress, progress_remaining, certain-number}
use Rattle.meaning.specs.Graph.{Graph, Literals, content, operation_count, control_count, arc_count, limit, class, path, source, target, kind, joins}
use Rattle.meaning.specs.Steps.{State, excluded, void, complete, legal}
use Rattle.meaning.specs.TableFile.{cycles_of, schedule_file}
use Rattle.meaning.specs.Answers.{graph_verdict, check_verdict}
use Rattle.meaning.specs.Certain.{no_follow_arc, no_limit_zero, certain, certain_cycles}
use Rattle.meaning.proofs.Bytes.{AreBytes}
use Rattle.meaning.proofs.Taken.{Taken, accepted_of}
use Rattle.meaning.proofs.Legal.{Lost, excluded_means, void_means, legal_means}
use Rattle.meaning.proofs.Instance.{undone, lawful, rank_is}
use Rattle.meaning.proofs.Demands.{machine_in, lawful_in, schedule_bytes, schedule-accepted, schedule-cycles}

-- A schedule is certain: no arc is a follow arc, and no operation is in a class whose limit is 0.
pub certain_means : (g : Graph) → T (certain g)
    ↔ (((a : ℕ) → a < arc_count g → kind g a ≢ 1) × ((j : ℕ) → j < operation_count g → limit g (class g j) ≢ 0))
unfolding certain no_follow_arc no_limit_zero
certain_means g =
    let r = says_and (says_all {n = arc_count g} (λ a. says_not (denies_eqb (kind g a) 1)))
    (says_all {n = operation_count g} (λ j. says_not (denies_eqb (limit g (class g j)) 0))) in
    (r.to, r.from)

-- A state of a taken graph, reachable or not.
module _ (g : Graph) (ok : Taken g) (s : State) where
  abbrev IsLost : Literals → Type 0
  IsLost l = Lost g s.done s.values l

  -- Where each literal of l is one of m or of k, a lost one of l is a lost one of m or of k.
  lost-covered : (l m k : Literals)
      → ((b : ℕ) → b < control_count g → T (has l.on_true b) → T (has m.on_true b) ⊎ T (has k.on_true b))
      → ((b : ℕ) → b < control_count g → T (has l.on_false b) → T (has m.on_false b) ⊎ T (has k.on_false b))
      → IsLost l → IsLost m ⊎ IsLost k
  lost-covered l m k t f p = ⊎_elim on_true on_false p.otherwise
    where
      b : ℕ
      b = p.control

      lost-in : (n : Literals) → (T (has n.on_true b) × T (not (has s.values b))) ⊎ (T (has n.on_false b) × T (has s.values b)) → IsLost n
      lost-in n o = record { control = b; below = p.below; settled = p.settled; otherwise = o }

      on_true : T (has l.on_true b) × T (not (has s.values b)) → IsLost m ⊎ IsLost k
      on_true (u, v) =
          ⊎_elim (λ (h : T (has m.on_true b)). inl (lost-in m (inl (h, v)))) (λ (h : T (has k.on_true b)). inr (lost-in k (inl (h, v))))
          (t b p.below u)

      on_false : T (has l.on_false b) × T (has s.values b) → IsLost m ⊎ IsLost k
      on_false (u, v) =
          ⊎_elim (λ (h : T (has m.on_false b)). inl (lost-in m (inr (h, v)))) (λ (h : T (has k.on_false b)). inr (lost-in k (inr (h, v))))
          (f b p.below u)

  abbrev is_excluded : ℕ → Bool
  is_excluded j = excluded g s.done s.values j

  abbrev is_void : ℕ → Bool
  is_void a = void g s.done s.values a

  -- operation j is neither done nor excluded
  abbrev is_left : ℕ → Bool
  is_left j = not (has s.done j || is_excluded j)

  -- By refusal 11, where the source of an arc is excluded, its target is or the arc is void.
  pub source-excluded : (a : ℕ) → a < arc_count g → T (is_excluded (source g a)) → T (is_excluded (target g a)) ⊎ T (is_void a)
  source-excluded a h t =
      ⊎_elim (λ (l : IsLost (path g (target g a))). inl ((excluded_means g s.done s.values (target g a)).1 l))
      (λ (l : IsLost (joins g a)). inr ((void_means g s.done s.values a).1 l))
      (lost-covered (path g (source g a)) (path g (target g a)) (joins g a) (ok.source-true a h) (ok.source-false a h)
      ((excluded_means g s.done s.values (source g a)).0 t))

  -- The lowest operation that is neither done nor excluded.
  module _ (j : ℕ) (lowest : First (operation_count g) is_left j) where
    not_done : T (not (has s.done j))
    not_done = not-or_left (has s.done j) (is_excluded j) lowest.holds

    not-excluded : T (not (is_excluded j))
    not-excluded = not-or-right (has s.done j) (is_excluded j) lowest.holds

    -- It is ready: the source of an arc into it that is not void is done, since it is lower and is not excluded.
    pub lowest-ready : (a : ℕ) → a < arc_count g → target g a ≡ j → T (not (is_void a)) → T (has s.done (source g a))
    lowest-ready a h e v =
        ⊎_elim (λ (d : T (has s.done (source g a))). d)
        (λ (x : T (is_excluded (source g a))). absurd (⊎_elim
        (λ (t : T (is_excluded (target g a))). contrary (is_excluded j) (subst (λ (i : ℕ). T (is_excluded i)) e t) not-excluded)
        (λ (t : T (is_void a)). contrary (is_void a) t v) (source-excluded a h x)))
        (or_cases (has s.done (source g a)) (is_excluded (source g a))
        (not-not_elim (has s.done (source g a) || is_excluded (source g a))
        (lowest.least (source g a) (subst (λ (i : ℕ). source g a < i) e (ok.source-below a h)))))

    only : (i : ℕ) → T (has (2 ^ j) i) → j ≡ i
    only i t = eqb→eq j i (subst T (has-power j i) t)

    -- The step of it alone keeps within the limits, if that of its class is not 0,
    within-limits : limit g (class g j) ≢ 0 → (k : ℕ) → count_below (operation_count g) (λ i. has (2 ^ j) i && eqb (class g i) k) ≤ limit g k
    within-limits u k = by (limit g k) refl
      where
        counts : ℕ → Bool
        counts i = has (2 ^ j) i && eqb (class g i) k

        is : (i : ℕ) → T (counts i) → (j ≡ i) × (class g i ≡ k)
        is i t =
            (only i (and_left (has (2 ^ j) i) (eqb (class g i) k) t), eqb→eq (class g i) k (and_right (has (2 ^ j) i) (eqb (class g i) k) t))

        none : limit g k ≡ 0 → (i : ℕ) → T (not (counts i))
        none e i = refuted (counts i) (λ t. u (ap (λ (x : ℕ). limit g (class g x)) (is i t).0 ∙ ap (limit g) (is i t).1 ∙ e))

        not-two : (i x : ℕ) → i < x → T (counts x) → T (not (counts i))
        not-two i x l t = refuted (counts i) (λ r. lt_irrefl x (subst (λ (y : ℕ). y < x) (sym (is i r).0 ∙ (is x t).0) l))

        by : (m : ℕ) → limit g k ≡ m → count_below (operation_count g) counts ≤ m
        by zero e = le_of_eq (count_none (operation_count g) counts (λ i h. none e i))
        by (suc m) e = le_trans (count-one (operation_count g) counts (λ i x l h. not-two i x l)) (omega arith)

    -- and where no arc is a follow arc it is legal.
    pub lowest-legal : T (certain g) → T (legal g s (2 ^ j))
    lowest-legal c =
        (legal_means g s (2 ^ j)).1 (record {
          filled = pow_pos j;
          fresh = λ i t. subst (λ (k : ℕ). (k < operation_count g) × T (not (has s.done k))) (only i t) (lowest.below, not_done);
          dependency = λ a h t v. lowest-ready a h (sym (only (target g a) t)) v;
          resource = λ k h. within-limits (((certain_means g).0 c).1 j lowest.below) k;
          exclusion = λ i t. subst (λ (k : ℕ). T (not (is_excluded k))) (only i t) not-excluded;
          immediacy = λ a h e l d n. absurd (((certain_means g).0 c).0 a h e);
        })

  -- So a state that is not complete has a legal step.
  pub never_stuck : T (certain g) → T (not (complete g s)) → (x : ℕ) × T (legal g s x)
  unfolding complete
  never_stuck c n =
      let q = all_failed (operation_count g) (λ i. has s.done i || is_excluded i) n in
      let j = first_below (operation_count g) is_left in
      (2 ^ j, lowest-legal j (first_some (operation_count g) is_left (any_of (operation_count g) is_left q.0 q.1 q.2)) c)

-- For a graph file that is taken.
module _ (file : List ℕ) (ok : graph_verdict file ≡ taken) (c : T (certain (content file))) where
  certain_progress : Progress (machine_in file ok)
  certain_progress s r n = never_stuck (content file) (accepted_of file ok).taken s c n

  -- Every reachable state has a remaining number, which is the number of operations that are not done at most: no legal step leads
  -- to a dead end.
  pub certain-reachable : (s : State) → Reachable (machine_in file ok) s → remaining (machine_in file ok) s ≤ undone (content file) s
  certain-reachable s r =
      let accepted = (accepted_of file ok).taken in
      subst (λ (k : ℕ). remaining (machine_in file ok) s ≤ k) (rank_is (content file) accepted s)
      (progress_remaining (machine_in file ok) (lawful (content file) accepted) certain_progress s r)

  -- The start has one, which is the number of operations at most.
  pub certain_found : remaining (machine_in file ok) (machine_in file ok).start ≤ (machine_in file ok).horizon
  certain_found = certain-number (machine_in file ok) (lawful_in file ok) certain_progress

  pub certain-least : remaining (machine_in file ok) (machine_in file ok).start ≤ certain_cycles (content file)
  unfolding certain_cycles
  certain-least = certain_found

  -- A table of so many cycles at most is accepted.
  pub certain-accepted : (table : List ℕ) × AreBytes table × (check_verdict file table ≡ taken) × (cycles_of table ≤ certain_cycles (content file))
  certain-accepted = (
    schedule_file (content file),
    schedule_bytes file ok certain_found,
    schedule-accepted file ok certain_found,
    subst (λ (k : ℕ). k ≤ certain_cycles (content file)) (sym (schedule-cycles file ok certain_found)) certain-least,
  )
