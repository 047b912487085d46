-- The schedule's table is ordered and sound, no sound table has fewer cycles, and where the start has no remaining number
-- no table is sound. Assumes nothing.
use Prim.Native.Nat.{ℕ, zero, suc, ◌-◌, ◌≤◌, ◌<◌}
use native.Mathlib.Nat.{le_refl, le_of_lt, sub_self, zero-lt-suc, lt_irrefl}
use native.Mathlib.Omega.{arith}
use mathlib.Core.Path.{◌≡◌, refl, sym, ◌∙◌, ap, subst}
use mathlib.Core.Logic.{⊎_elim}
use mathlib.Core.Bool.{false, not, ◌&&◌, ◌||◌}
use lib.ListN.{length, get_or}
use lib.Dec.{T, eqb, eqb_refl}
use Rattle.machine.specs.Sets.{all_below}
use Rattle.machine.specs.Machine.{Machine, finish, remaining, best, run}
use Rattle.machine.specs.Tables.{Row, Table, prescribed, order_line, Sound, schedule_rows}
use Rattle.machine.proofs.Truth.{and_right, both, or_left, or_right, decided, contrary, refuted, false_of, of_false}
use Rattle.machine.proofs.Sets.{le-or-lt, all-at, all_failed}
use Rattle.machine.proofs.Refusals.{Passes}
use Rattle.machine.proofs.Lawful.{Lawful}
use Rattle.machine.proofs.Finish.{finish-complete, finish_later, remaining-finish, remaining-least, remaining_of_finish, best-legal, best_finishes}
use Rattle.machine.proofs.Runs.{run-stopped, run-clock, run_ended_after, run-word, run-word-below, LegalRun, runs_finish}
use Rattle.machine.proofs.Lookup.{RowAt, row-at-has, prescribed-at}
use Rattle.machine.proofs.Rising.{no_row, table_of, mem-at, at_mem, rising_passes, schedule_rising, scheduled, scheduled_row, shows, row_of, of_row}

-- the schedule's table
unfoldable pub schedule : (M : Machine) → Table M
schedule M = table_of M (remaining M M.start) (schedule_rows M)

module _ (M : Machine) (L : Lawful M) where
  -- every sound table's cycles are at least the start's remaining number, which is there
  pub sound_least : (table : Table M) → Sound M table → (remaining M M.start ≤ M.horizon) × (remaining M M.start ≤ table.cycles)
  sound_least table sound =
      remaining_of_finish M L table.cycles M.start
      (runs_finish M L (prescribed M table) table.cycles sound.legal sound.enough) L.rank_start

  pub schedule_ordered : Passes (order_line M (schedule M))
  unfolding schedule
  schedule_ordered = rising_passes M L (remaining M M.start) (schedule_rows M) (schedule_rising M L)

module _ (M : Machine) (L : Lawful M) (found : remaining M M.start ≤ M.horizon) where
  -- after t cycles the schedule can finish in what is left of the start's remaining number
  left_over : (t w : ℕ) → w < M.words → t ≤ remaining M M.start → T (finish M (remaining M M.start - t) (scheduled M L t w))
  unfolding scheduled run
  left_over zero w h k = subst (λ (n : ℕ). T (finish M n M.start)) (omega arith) (remaining-finish M M.start found)
  left_over (suc t) w h k = step (left_over t w h (omega arith))
    where
      s : M.State
      s = scheduled M L t w

      n : ℕ
      n = remaining M M.start - t

      within : T (finish M n s) → remaining M s ≤ n
      within e = remaining-least M n s e (omega (arith, found))

      next : T (not (M.complete s)) → T (finish M n s) → T (finish M (remaining M M.start - suc t) (M.next s (best M s) w))
      next c e =
          finish_later M (remaining M s - 1) (remaining M M.start - suc t) (M.next s (best M s) w) (omega (arith, within e))
          (best_finishes M s c (omega (arith, within e, found)) w h)

      step : T (finish M n s) → T (finish M (remaining M M.start - suc t) (scheduled M L (suc t) w))
      step e =
          ⊎_elim
          (λ (c : T (M.complete s)). subst (λ (r : M.State). T (finish M (remaining M M.start - suc t) r))
          (sym (run-stopped M L (λ u r. best M r) t w c)) (finish-complete M (remaining M M.start - suc t) s c))
          (λ (c : T (not (M.complete s))). subst (λ (r : M.State). T (finish M (remaining M M.start - suc t) r))
          (sym (run-clock M L (λ u r. best M r) t w c)) (next c e)) (decided (M.complete s))

  -- so it has ended once the number is used up, and its steps are legal until then
  ended : (t w : ℕ) → w < M.words → remaining M M.start ≤ t → T (M.complete (scheduled M L t w))
  unfolding scheduled finish
  ended t w h k =
      run_ended_after M L (λ u r. best M r) (remaining M M.start) t w k
      (subst (λ (n : ℕ). T (finish M n (scheduled M L (remaining M M.start) w))) (sub_self (remaining M M.start))
      (left_over (remaining M M.start) w h (le_refl (remaining M M.start))))

  under_way : (t w : ℕ) → w < M.words → T (not (M.complete (scheduled M L t w))) → t < remaining M M.start
  under_way t w h c =
      ⊎_elim (λ (k : remaining M M.start ≤ t). absurd (contrary (M.complete (scheduled M L t w)) (ended t w h k) c))
      (λ (k : t < remaining M M.start). k) (le-or-lt (remaining M M.start) t)

  best-legal-at : (t w : ℕ) → w < M.words → T (not (M.complete (scheduled M L t w))) → T (M.legal (scheduled M L t w) (best M (scheduled M L t w)))
  best-legal-at t w h c =
      let k = under_way t w h c in
      best-legal M (scheduled M L t w) c
      (omega (arith, found, remaining-least M (remaining M M.start - t) (scheduled M L t w) (left_over t w h (le_of_lt k)) (omega (arith, found))))

  legal-run : (w : ℕ) → w < M.words → LegalRun M L (λ u r. best M r) w
  unfolding scheduled
  legal-run w h t =
      let s = scheduled M L t w in
      ⊎_elim (λ (c : T (M.complete s)). or_left (M.complete s) (M.legal s (best M s)) c)
      (λ (c : T (not (M.complete s))). or_right (M.complete s) (M.legal s (best M s)) (best-legal-at t w h c)) (decided (M.complete s))

  -- the word that is resolved in a scheduled state shows its row
  shown : (t w : ℕ) → T (not (M.complete (scheduled M L t w))) → T (shows M L t (M.word (scheduled M L t w)))
  unfolding shows scheduled
  shown t w c =
      let s = scheduled M L t w in
      subst (λ (r : M.State). T (eqb (M.word r) (M.word s) && not (M.complete r))) (sym (run-word M L (λ u r. best M r) t w))
      (both (eqb (M.word s) (M.word s)) (not (M.complete s)) (eqb_refl (M.word s)) c)

  -- an unfinished state that the schedule meets has a row
  row_stands : (t w : ℕ) → w < M.words → T (not (M.complete (scheduled M L t w)))
      → RowAt M L (schedule M) (suc t) (scheduled M L t w)
  unfolding scheduled_row scheduled schedule table_of
  row_stands t w h c =
      let v = M.word (scheduled M L t w) in
      let q = at_mem M L (schedule_rows M) (no_row M) (scheduled_row M L t v)
      (of_row M L t v (under_way t w h c) (run-word-below M L (λ u r. best M r) t w) (shown t w c)) in
      let here : get_or (schedule_rows M) (suc q.0 - 1) (no_row M) ≡ scheduled_row M L t v =
      ap (λ (i : ℕ). get_or (schedule_rows M) i (no_row M)) (back q.0) ∙ q.2 in
      record {
        place = suc q.0;
        within = (zero-lt-suc q.0, q.1);
        at-cycle = ap (λ (r : Row M). r.cycle) here;
        at-state = ap (λ (r : Row M). r.state) here ∙ run-word M L (λ u r. best M r) t w;
      }
    where
      back : (i : ℕ) → suc i - 1 ≡ i
      back i = omega arith

  -- every row is that of an unfinished state that the schedule meets
  row-met : (p : ℕ) → zero < p → p ≤ length (schedule_rows M)
      → (t : ℕ) × (w : ℕ) × (t < remaining M M.start) × (w < M.words) × T (shows M L t w) × ((schedule M).row p ≡ scheduled_row M L t w)
  unfolding schedule table_of
  row-met p h k =
      row_of M L (get_or (schedule_rows M) (p - 1) (no_row M)) (mem-at M L (schedule_rows M) (p - 1) (no_row M) (omega arith))

  -- the table prescribes the chosen step
  prescribed-best : (t w : ℕ) → w < M.words → T (not (M.complete (scheduled M L t w)))
      → prescribed M (schedule M) (suc t) (scheduled M L t w) ≡ best M (scheduled M L t w)
  unfolding scheduled_row schedule table_of
  prescribed-best t w h c =
      let q = prescribed-at M L (schedule M) (suc t) (scheduled M L t w) (row-at-has M L (schedule M) (row_stands t w h c)) in
      let r = row-met q.0.place q.0.within.0 q.0.within.1 in
      q.1 ∙ ap (λ (a : Row M). a.step) r.5 ∙ ap (λ (a : Row M). best M a.state) (sym r.5) ∙ ap (best M) q.0.at-state

  -- so its runs are the schedule's
  runs_scheduled : (t w : ℕ) → w < M.words → run M (prescribed M (schedule M)) t w ≡ scheduled M L t w
  unfolding run scheduled
  runs_scheduled zero w h = refl
  runs_scheduled (suc t) w h = step (runs_scheduled t w h)
    where
      f : ℕ → M.State → ℕ
      f = prescribed M (schedule M)

      s : M.State
      s = scheduled M L t w

      step : run M f t w ≡ s → run M f (suc t) w ≡ scheduled M L (suc t) w
      step e =
          ⊎_elim
          (λ (c : T (M.complete s)). run-stopped M L f t w (subst (λ (r : M.State). T (M.complete r)) (sym e) c) ∙ e
          ∙ sym (run-stopped M L (λ u r. best M r) t w c))
          (λ (c : T (not (M.complete s))). run-clock M L f t w (subst (λ (r : M.State). T (not (M.complete r))) (sym e) c)
          ∙ ap (λ (r : M.State). M.next r (f (suc t) r) w) e ∙ ap (λ (x : ℕ). M.next s x w) (prescribed-best t w h c)
          ∙ sym (run-clock M L (λ u r. best M r) t w c)) (decided (M.complete s))

  -- The schedule's table is sound.
  module _ where
    legal : (w : ℕ) → w < M.words → LegalRun M L (prescribed M (schedule M)) w
    legal w h t =
        subst (λ (s : M.State). T (M.complete s || M.legal s (prescribed M (schedule M) (suc t) s))) (sym (runs_scheduled t w h)) step
      where
        s : M.State
        s = scheduled M L t w

        x : ℕ
        x = prescribed M (schedule M) (suc t) s

        step : T (M.complete s || M.legal s x)
        step =
            ⊎_elim (λ (c : T (M.complete s)). or_left (M.complete s) (M.legal s x) c)
            (λ (c : T (not (M.complete s))). or_right (M.complete s) (M.legal s x)
            (subst (λ (y : ℕ). T (M.legal s y)) (sym (prescribed-best t w h c)) (best-legal-at t w h c))) (decided (M.complete s))

    enough : (w : ℕ) → w < M.words → T (M.complete (run M (prescribed M (schedule M)) (schedule M).cycles w))
    unfolding schedule table_of
    enough w h =
        subst (λ (s : M.State). T (M.complete s)) (sym (runs_scheduled (remaining M M.start) w h))
        (ended (remaining M M.start) w h (le_refl (remaining M M.start)))

    met : (p : ℕ) → zero < p → p ≤ (schedule M).rows
        → (t : ℕ) × (w : ℕ) × (w < M.words) × (((schedule M).row p).cycle ≡ suc t)
        × (((schedule M).row p).state ≡ run M (prescribed M (schedule M)) t w) × (M.complete ((schedule M).row p).state ≡ false)
    unfolding schedule table_of scheduled_row shows
    met p h k =
        let q = row-met p h k in
        let s = scheduled M L q.0 q.1 in (
          q.0,
          q.1,
          q.3,
          ap (λ (r : Row M). r.cycle) q.5,
          ap (λ (r : Row M). r.state) q.5 ∙ sym (runs_scheduled q.0 q.1 q.3),
          ap (λ (r : Row M). M.complete r.state) q.5
              ∙ false_of (M.complete s) (and_right (eqb (M.word s) q.1) (not (M.complete s)) q.4),
        )

    listed : (w : ℕ) → w < M.words → (t : ℕ) → M.complete (run M (prescribed M (schedule M)) t w) ≡ false
        → (p : ℕ) × (zero < p) × (p ≤ (schedule M).rows) × (((schedule M).row p).cycle ≡ suc t)
        × (((schedule M).row p).state ≡ run M (prescribed M (schedule M)) t w)
    listed w h t c =
        let q = row_stands t w h (of_false (ap M.complete (sym (runs_scheduled t w h)) ∙ c)) in
        (q.place, q.within.0, q.within.1, q.at-cycle, q.at-state ∙ sym (runs_scheduled t w h))

    -- were all runs complete earlier, the start's remaining number would be less
    not-early : (t : ℕ) → t < remaining M M.start → T (not (all_below M.words (λ w. M.complete (scheduled M L t w))))
    unfolding scheduled
    not-early t h =
        refuted (all_below M.words (λ w. M.complete (scheduled M L t w))) (λ a.
        let e : T (finish M t M.start) =
        runs_finish M L (λ u r. best M r) t legal-run (all-at M.words (λ w. M.complete (scheduled M L t w)) a) in
        lt_irrefl t (omega (arith, remaining-least M t M.start e (omega (arith, found)))))

    needed : (t : ℕ) → t < (schedule M).cycles
        → (w : ℕ) × (w < M.words) × (M.complete (run M (prescribed M (schedule M)) t w) ≡ false)
    unfolding schedule table_of
    needed t h =
        let q = all_failed M.words (λ w. M.complete (scheduled M L t w)) (not-early t h) in
        (q.0, q.1, ap M.complete (runs_scheduled t q.0 q.1) ∙ false_of (M.complete (scheduled M L t q.0)) q.2)

    pub schedule_sound : Sound M (schedule M)
    schedule_sound =
        record {
          legal = legal;
          ends = λ w h. ((schedule M).cycles, enough w h);
          met = met;
          listed = listed;
          enough = enough;
          needed = needed;
        }
