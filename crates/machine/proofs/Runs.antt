-- Runs under any choice of steps: a complete run stays as it is, words on the way of a state meet the same states, a run of
-- legal steps ends within the horizon, and where all runs end within n cycles the start can finish within n. Assumes nothing.
use Prim.Native.Nat.{ℕ, zero, suc, ◌+◌, ◌≤◌, ◌<◌}
use native.Mathlib.Nat.{eq-or-lt_of_le, le_of_suc-le-suc}
use native.Mathlib.Omega.{arith}
use mathlib.Core.Path.{◌≡◌, refl, sym, ◌∙◌, ap, subst}
use mathlib.Core.Logic.{⊎_elim}
use mathlib.Core.Bool.{not, ◌||◌}
use lib.Dec.{T}
use Rattle.machine.specs.Machine.{Machine, finish, run, Met, begin, clock, stopped}
use Rattle.machine.proofs.Truth.{or_cases, decided, contrary, refuted, true_of, false_of, of_true, of_false}
use Rattle.machine.proofs.Lawful.{Lawful}
use Rattle.machine.proofs.Finish.{leads_of, finish-complete, finish-step}

module _ (M : Machine) (L : Lawful M) (f : ℕ → M.State → ℕ) where
  -- the run on w is complete after t cycles, and it is not
  abbrev pub Ended : ℕ → ℕ → Type 0
  Ended t w = T (M.complete (run M f t w))

  abbrev pub Unfinished : ℕ → ℕ → Type 0
  Unfinished t w = T (not (M.complete (run M f t w)))

  -- its step then, and its next state where the tests begun in that step fall as v says
  abbrev pub step_at : ℕ → ℕ → ℕ
  step_at t w = f (suc t) (run M f t w)

  abbrev pub after : ℕ → ℕ → ℕ → M.State
  after t w v = M.next (run M f t w) (step_at t w) v

  -- one cycle
  pub run-stopped : (t w : ℕ) → Ended t w → run M f (suc t) w ≡ run M f t w
  unfolding run
  run-stopped t w c = rw (true_of (M.complete (run M f t w)) c) refl

  pub run-clock : (t w : ℕ) → Unfinished t w → run M f (suc t) w ≡ after t w w
  unfolding run
  run-clock t w n = rw (false_of (M.complete (run M f t w)) n) refl

  -- what holds of both outcomes of a cycle
  run-cases : (P : M.State → Type 0) (t w : ℕ) → (Ended t w → P (run M f t w))
      → (Unfinished t w → P (after t w w)) → P (run M f (suc t) w)
  run-cases P t w p q =
      ⊎_elim (λ (c : Ended t w). subst P (sym (run-stopped t w c)) (p c))
      (λ (n : Unfinished t w). subst P (sym (run-clock t w n)) (q n)) (decided (M.complete (run M f t w)))

  -- a complete run stays as it is
  pub run_stays : (t w : ℕ) → Ended t w → (u : ℕ) → t ≤ u → run M f u w ≡ run M f t w
  run_stays t w c zero h = ap (λ (k : ℕ). run M f k w) (omega arith)
  run_stays t w c (suc u) h =
      ⊎_elim (λ (e : t ≡ suc u). ap (λ (k : ℕ). run M f k w) (sym e)) (λ (l : t < suc u). later (run_stays t w c u (le_of_suc-le-suc l)))
      (eq-or-lt_of_le h)
    where
      later : run M f u w ≡ run M f t w → run M f (suc u) w ≡ run M f t w
      later e = run-stopped u w (subst (λ (s : M.State). T (M.complete s)) (sym e) c) ∙ e

  pub run_ended_after : (t u w : ℕ) → t ≤ u → Ended t w → Ended u w
  run_ended_after t u w h c = subst (λ (s : M.State). T (M.complete s)) (sym (run_stays t w c u h)) c

  pub run-unfinished-before : (t u w : ℕ) → t ≤ u → Unfinished u w → Unfinished t w
  run-unfinished-before t u w h n =
      refuted (M.complete (run M f t w)) (λ c. contrary (M.complete (run M f u w)) (run_ended_after t u w h c) n)

  -- the word of a run is on the way of its states
  pub run_on : (t w : ℕ) → L.On (run M f t w) w
  unfolding run
  run_on zero w = L.on_start w
  run_on (suc t) w =
      run-cases (λ (s : M.State). L.On s w) t w (λ c. run_on t w)
      (λ n. L.on_next (run M f t w) (step_at t w) w (run_on t w))

  -- runs that agree so far take the same step
  run-same-step : (t w v : ℕ) → run M f t v ≡ run M f t w → Unfinished t w → run M f (suc t) v ≡ after t w v
  run-same-step t w v e n =
      run-clock t v (subst (λ (s : M.State). T (not (M.complete s))) (sym e) n) ∙ ap (λ (s : M.State). M.next s (f (suc t) s) v) e

  -- the run on a word that is on the way of where a run got to has met the same states
  pub run_agree : (t w v : ℕ) → L.On (run M f t w) v → run M f t v ≡ run M f t w
  unfolding run
  run_agree zero w v o = refl
  run_agree (suc t) w v o = run-cases (λ (s : M.State). L.On s v → run M f (suc t) v ≡ s) t w (λ c p. same c (run_agree t w v p)) (λ n p. other n p (run_agree t w v (back p))) o
    where
      same : Ended t w → run M f t v ≡ run M f t w → run M f (suc t) v ≡ run M f t w
      same c e = run-stopped t v (subst (λ (s : M.State). T (M.complete s)) (sym e) c) ∙ e

      back : L.On (after t w w) v → L.On (run M f t w) v
      back p = L.on_back (run M f t w) (step_at t w) w v p

      other : Unfinished t w → L.On (after t w w) v → run M f t v ≡ run M f t w → run M f (suc t) v ≡ after t w w
      other n p e = run-same-step t w v e n ∙ L.on_same (run M f t w) (step_at t w) w v p

  -- so has the run on the word of the tests that are resolved there, which is one of the words
  pub run-word : (t w : ℕ) → run M f t (M.word (run M f t w)) ≡ run M f t w
  run-word t w = run_agree t w (M.word (run M f t w)) (L.on_word (run M f t w))

  pub run-word-below : (t w : ℕ) → M.word (run M f t w) < M.words
  unfolding run
  run-word-below zero w = L.word-start
  run-word-below (suc t) w =
      run-cases (λ (s : M.State). M.word s < M.words) t w (λ c. run-word-below t w)
      (λ n. L.word_next (run M f t w) (step_at t w) w)

  -- however the tests that are begun in a cycle fall, some word leads there
  pub branch : (t w : ℕ) → Unfinished t w → (v : ℕ) → (u : ℕ) × (u < M.words) × (after t w v ≡ run M f (suc t) u)
  branch t w n v = (M.word (after t w v), L.word_next s x v, sym (run-same-step t w u (run_agree t w u (L.on_back s x v u on)) n ∙ L.on_same s x v u on))
    where
      s : M.State
      s = run M f t w

      x : ℕ
      x = f (suc t) s

      u : ℕ
      u = M.word (after t w v)

      on : L.On (M.next s x v) u
      on = L.on_word (M.next s x v)

  -- the states that are met clock by clock are those that the words meet
  pub met-run : {t : ℕ} {s : M.State} → Met M f t s → (w : ℕ) × (w < M.words) × (run M f t w ≡ s)
  unfolding run
  met-run begin = (M.word M.start, L.word-start, refl)
  met-run (clock {t = t} {s = s} m e v h) = forked (met-run m)
    where
      forked : (w : ℕ) × (w < M.words) × (run M f t w ≡ s) → (u : ℕ) × (u < M.words) × (run M f (suc t) u ≡ M.next s (f (suc t) s) v)
      forked r =
          let b = branch t r.0 (of_false (ap M.complete r.2 ∙ e)) v in
          (b.0, b.1, sym b.2 ∙ ap (λ (p : M.State). M.next p (f (suc t) p) v) r.2)
  met-run (stopped {t = t} {s = s} m e) = stays (met-run m)
    where
      stays : (w : ℕ) × (w < M.words) × (run M f t w ≡ s) → (w : ℕ) × (w < M.words) × (run M f (suc t) w ≡ s)
      stays r = (r.0, r.1, run-stopped t r.0 (of_true (ap M.complete r.2 ∙ e)) ∙ r.2)

  pub run-met : (t w : ℕ) → w < M.words → Met M f t (run M f t w)
  unfolding run
  run-met zero w h = begin
  run-met (suc t) w h =
      run-cases (Met M f (suc t)) t w (λ c. stopped (run-met t w h) (true_of (M.complete (run M f t w)) c))
      (λ n. clock (run-met t w h) (false_of (M.complete (run M f t w)) n) w h)

  -- in every clock of the run on w the step is legal
  abbrev pub LegalRun : ℕ → Type 0
  LegalRun w = (t : ℕ) → T (M.complete (run M f t w) || M.legal (run M f t w) (step_at t w))

  pub run-legal : (w : ℕ) → LegalRun w → (t : ℕ) → Unfinished t w → T (M.legal (run M f t w) (step_at t w))
  run-legal w l t n =
      ⊎_elim (λ (c : Ended t w). absurd (contrary (M.complete (run M f t w)) c n))
      (λ (k : T (M.legal (run M f t w) (step_at t w))). k)
      (or_cases (M.complete (run M f t w)) (M.legal (run M f t w) (step_at t w)) (l t))

  -- the rank of an unfinished run has fallen with every cycle, so legal runs end
  pub run_rank : (w : ℕ) → LegalRun w → (t : ℕ) → Unfinished t w → L.rank (run M f t w) + t ≤ M.horizon
  unfolding run
  run_rank w l zero n = omega (arith, L.rank_start)
  run_rank w l (suc t) n = fallen (run-unfinished-before t (suc t) w (omega arith) n) (run_rank w l t)
    where
      fallen : Unfinished t w → (Unfinished t w → L.rank (run M f t w) + t ≤ M.horizon)
          → L.rank (run M f (suc t) w) + suc t ≤ M.horizon
      fallen m h =
          subst (λ (s : M.State). L.rank s + suc t ≤ M.horizon) (sym (run-clock t w m))
          (omega (arith, h m, L.rank_falls (run M f t w) (step_at t w) w (run-legal w l t m)))

  pub run_ends : (w : ℕ) → LegalRun w → Ended M.horizon w
  run_ends w l =
      ⊎_elim (λ (c : Ended M.horizon w). c) (λ (n : Unfinished M.horizon w). absurd (over n))
      (decided (M.complete (run M f M.horizon w)))
    where
      over : Unfinished M.horizon w → ⊥
      over n = omega (
        arith,
        run_rank w l M.horizon n,
        L.rank_falls (run M f M.horizon w) (step_at M.horizon w) w (run-legal w l M.horizon n),
      )

  -- Where all runs end within n cycles, the start has every property of states and numbers of cycles that complete states
  -- have with any number, and that a state of a run has with one cycle more than all its next states.
  module _ (P : ℕ → M.State → Type 0) (at-end : (k : ℕ) (s : M.State) → T (M.complete s) → P k s)
      (onward : (k t w : ℕ) → w < M.words → Unfinished t w → ((v : ℕ) → P k (after t w v)) → P (suc k) (run M f t w))
      (n : ℕ) (ends : (w : ℕ) → w < M.words → Ended n w) where
    run-has : (k t w : ℕ) → k + t ≡ n → w < M.words → P k (run M f t w)
    run-has zero t w e h = at-end 0 (run M f t w) (subst (λ (u : ℕ). Ended u w) (omega arith) (ends w h))
    run-has (suc k) t w e h =
        ⊎_elim (at-end (suc k) (run M f t w))
        (λ (u : Unfinished t w). onward k t w h u (λ v. next (branch t w u v) (run-has k (suc t))))
        (decided (M.complete (run M f t w)))
      where
        next : {r : M.State} → (u : ℕ) × (u < M.words) × (r ≡ run M f (suc t) u)
            → ((u : ℕ) → k + suc t ≡ n → u < M.words → P k (run M f (suc t) u)) → P k r
        next b ih = subst (P k) (sym b.2) (ih b.0 (omega arith) b.1)

    pub start_has : P n M.start
    unfolding run
    start_has = run-has n 0 (M.word M.start) (omega arith) L.word-start

  -- So where all runs are legal and end within n cycles, the start can finish within n.
  pub runs_finish : (n : ℕ) → ((w : ℕ) → w < M.words → LegalRun w) → ((w : ℕ) → w < M.words → Ended n w)
      → T (finish M n M.start)
  runs_finish n legal ends = start_has (λ k s. T (finish M k s)) (finish-complete M) onward n ends
    where
      onward : (k t w : ℕ) → w < M.words → Unfinished t w → ((v : ℕ) → T (finish M k (after t w v))) → T (finish M (suc k) (run M f t w))
      onward k t w h u all =
          let s = run M f t w in
          let l = run-legal w (legal w h) t u in
          finish-step M k s (step_at t w) (L.step-below s (step_at t w) l) (leads_of M (finish M k) s (step_at t w) l (λ v k. all v))
