-- Permitting empty steps never helps: within a number of cycles the same states finish, so the runs of no table with empty steps
-- all end sooner than the start's remaining number says. Assumes nothing.
use Prim.Native.Nat.{ℕ, zero, suc, ◌≤◌, ◌<◌}
use native.Mathlib.Nat.{not-le_of_lt}
use mathlib.Core.Path.{◌≡◌, refl, sym, ◌∙◌, ap, subst}
use mathlib.Core.Logic.{⊎_elim}
use mathlib.Core.Bool.{Bool, cond, not, ◌&&◌, ◌||◌}
use lib.Dec.{T, eqb, eqb→eq}
use Rattle.machine.specs.Sets.{all_below}
use Rattle.machine.specs.Machine.{Machine, leads, finish, remaining, run}
use Rattle.machine.specs.Tables.{Table, prescribed, Sound}
use Rattle.machine.specs.Idling.{idling}
use Rattle.machine.proofs.Truth.{and_left, or_cases, or_left, contrary, refuted, same_test}
use Rattle.machine.proofs.Sets.{all-at, all_failed, first-same}
use Rattle.machine.proofs.Lawful.{Lawful}
use Rattle.machine.proofs.Finish.{leads-legal, leads-next, leads_of, finish-complete, finish-step, finish-cases, finish_more, HasNumber, remaining_of_finish}
use Rattle.machine.proofs.Runs.{Unfinished, after, start_has}

-- The empty step, on each word, leaves the state as it is.
abbrev pub Still : (M : Machine) → M.State → Type 0
Still M s = (w : ℕ) → w < M.words → M.next s 0 w ≡ s

-- What the theorems ask of the empty step: it is a step, and leaves the start and every next state as it is.
pub record Idle (M : Machine) : Type 0 where
  pub empty_below : 0 < M.steps
  pub start_still : Still M M.start
  pub next_still : (s : M.State) (x w : ℕ) → Still M (M.next s x w)

-- All runs of a choice of steps are legal in every clock, and all are complete after t cycles.
module _ (M : Machine) (f : ℕ → M.State → ℕ) where
  abbrev pub AllLegal : Type 0
  AllLegal = (w : ℕ) → w < M.words → (t : ℕ) → let s = run M f t w in T (M.complete s || M.legal s (f (suc t) s))

  abbrev pub AllEnded : ℕ → Type 0
  AllEnded t = (w : ℕ) → w < M.words → T (M.complete (run M f t w))

module _ (M : Machine) (L : Lawful M) (I : Idle M) (quiet : M.State → Bool) where
  -- the machine with empty steps
  abbrev N : Machine
  N = idling M quiet

  -- a step of it is legal, or leaves the state as it is
  idle_cases : {P : Type 0} (s : M.State) (x : ℕ) → T (N.legal s x) → (T (M.legal s x) → P) → (x ≡ 0 → P) → P
  idle_cases s x l p q =
      ⊎_elim p (λ (e : T (eqb x 0 && quiet s)). q (eqb→eq x 0 (and_left (eqb x 0) (quiet s) e)))
      (or_cases (M.legal s x) (eqb x 0 && quiet s) l)

  idle_finish : (t : ℕ) (s : M.State) → Still M s → T (finish N t s) → T (finish M t s)
  unfolding finish
  idle_finish zero s still h = h
  idle_finish (suc t) s still h = ⊎_elim (finish-complete M (suc t) s) (λ (k : (x : ℕ) × (x < M.steps) × T (leads N (finish N t) s x)). onward k.0 k.1 k.2 (idle_finish t)) (finish-cases N t s h)
    where
      onward : (x : ℕ) → x < M.steps → T (leads N (finish N t) s x)
          → ((s : M.State) → Still M s → T (finish N t s) → T (finish M t s)) → T (finish M (suc t) s)
      onward x b k ih =
          idle_cases s x (leads-legal N (finish N t) s x k)
          (λ l. finish-step M t s x b (leads_of M (finish M t) s x l (λ w h. ih (M.next s x w) (I.next_still s x w) (leads-next N (finish N t) s x k w h))))
          (λ e. let w = M.word M.start in
          finish_more M t s (ih s still (subst (λ (r : M.State). T (finish N t r)) (ap (λ (y : ℕ). M.next s y w) e ∙ still w L.word-start) (leads-next N (finish N t) s x k w L.word-start))))

  finish_idle : (t : ℕ) (s : M.State) → T (finish M t s) → T (finish N t s)
  unfolding finish
  finish_idle zero s h = h
  finish_idle (suc t) s h = ⊎_elim (finish-complete N (suc t) s) (λ (k : (x : ℕ) × (x < M.steps) × T (leads M (finish M t) s x)). onward k.0 k.1 k.2 (finish_idle t)) (finish-cases M t s h)
    where
      onward : (x : ℕ) → x < M.steps → T (leads M (finish M t) s x)
          → ((s : M.State) → T (finish M t s) → T (finish N t s)) → T (finish N (suc t) s)
      onward x b k ih =
          let l = leads-legal M (finish M t) s x k in
          finish-step N t s x b (leads_of N (finish N t) s x (or_left (M.legal s x) (eqb x 0 && quiet s) l) (λ w h. ih (M.next s x w) (leads-next M (finish M t) s x k w h)))

  -- Within every number of cycles exactly the same states finish, so remaining numbers are the same.
  pub finish-same : (t : ℕ) (s : M.State) → Still M s → finish N t s ≡ finish M t s
  finish-same t s still = same_test (finish N t s) (finish M t s) (idle_finish t s still) (finish_idle t s)

  pub remaining-same : (s : M.State) → Still M s → remaining N s ≡ remaining M s
  unfolding remaining
  remaining-same s still = first-same (suc M.horizon) (λ t. finish N t s) (λ t. finish M t s) (λ t h. finish-same t s still)

  -- Where the start can finish within t cycles with empty steps permitted, it has a remaining number, of t at most.
  pub idling-least : (t : ℕ) → T (finish N t M.start) → HasNumber M M.start × (remaining M M.start ≤ t)
  idling-least t h = remaining_of_finish M L t M.start (idle_finish t M.start I.start_still h) L.rank_start

  -- The runs are those without empty steps: only what is legal differs.
  run-idling : (f : ℕ → M.State → ℕ) (t w : ℕ) → run N f t w ≡ run M f t w
  unfolding run
  run-idling f zero w = refl
  run-idling f (suc t) w = ap (λ (s : M.State). cond (M.complete s) s (M.next s (f (suc t) s) w)) (run-idling f t w)

  -- So it does where all runs of some choice of steps, each legal or empty, are complete after t cycles.
  pub idling_runs : (f : ℕ → M.State → ℕ) → AllLegal N f → (t : ℕ) → AllEnded N f t → HasNumber M M.start × (remaining M M.start ≤ t)
  idling_runs f legal t ends =
      idling-least t
      (start_has M L f (λ k s. T (finish N k s)) (finish-complete N) onward t
      (λ w h. subst (λ (s : M.State). T (M.complete s)) (run-idling f t w) (ends w h)))
    where
      permitted : (t w : ℕ) → w < M.words → Unfinished M L f t w → T (N.legal (run M f t w) (f (suc t) (run M f t w)))
      permitted t w h u =
          let s = run M f t w in
          ⊎_elim (λ (c : T (M.complete s)). absurd (contrary (M.complete s) c u)) (λ (l : T (N.legal s (f (suc t) s))). l)
          (or_cases (M.complete s) (N.legal s (f (suc t) s))
          (subst (λ (s : M.State). T (M.complete s || N.legal s (f (suc t) s))) (run-idling f t w) (legal w h t)))

      onward : (k t w : ℕ) → w < M.words → Unfinished M L f t w
          → ((v : ℕ) → T (finish N k (after M L f t w v))) → T (finish N (suc k) (run M f t w))
      onward k t w h u all =
          let s = run M f t w in
          let x = f (suc t) s in
          let l = permitted t w h u in
          finish-step N k s x (idle_cases s x l (L.step-below s x) (λ e. subst (λ (y : ℕ). y < M.steps) (sym e) I.empty_below))
          (leads_of N (finish N k) s x l (λ v b. all v))

  -- The longest of these runs has at least as many cycles: in every cycle before, some run is not complete.
  pub idling_longest : (f : ℕ → M.State → ℕ) → AllLegal N f → (t : ℕ) → t < remaining M M.start
      → (w : ℕ) × (w < M.words) × T (not (M.complete (run N f t w)))
  idling_longest f legal t h =
      all_failed M.words ended
      (refuted (all_below M.words ended) (λ a. not-le_of_lt h (idling_runs f legal t (all-at M.words ended a)).1))
    where
      ended : ℕ → Bool
      ended w = M.complete (run N f t w)

  -- A sound table with empty steps has at least as many cycles.
  pub idling_tables : (table : Table N) → Sound N table → HasNumber M M.start × (remaining M M.start ≤ table.cycles)
  idling_tables table sound = idling_runs (prescribed N table) sound.legal table.cycles sound.enough
