-- Demand 3 for graph and table files: what is accepted, that the schedule's file is and has the fewest cycles, and that 13
-- is given exactly when no table is accepted. Assumes nothing.
use Prim.Native.Nat.{ℕ, zero, suc, ◌-◌, ◌^◌, ◌≤◌, ◌<◌}
use native.Mathlib.Nat.{le_trans, lt_of_lt_of_le, mul-le-mul, zero-lt-suc, not-le_of_lt}
use native.Mathlib.Omega.{arith}
use mathlib.Core.Path.{◌≡◌, sym, ◌∙◌, ap, subst}
use mathlib.Core.Logic.Iff
use mathlib.Core.Logic.{⊎_elim, ◌↔◌, ◌≢◌}
use mathlib.Core.Bool.{Bool, true, false, cond}
use mathlib.Core.List.{List, [], ◌∷◌, Memᴰ}
use lib.ListN.{length, get_or}
use lib.Dec.{ltb, eqb→eq}
use lib.Pow.{pow_pos, pow_mono}
use Rattle.machine.specs.Refusals.{Line, placeless, taken, refused}
use Rattle.machine.specs.Machine.{Machine, remaining, best, run, state_count}
use Rattle.machine.specs.Tables.{Row, Sound, order_line, sound_lines, prescribed, schedule_rows}
use Rattle.machine.proofs.Sets.{le-or-lt}
use Rattle.machine.proofs.Says.{Denies, says_ltb, denies_ltb}
use Rattle.machine.proofs.Refusals.{Passes, AllPass, none, and, judge-taken, numbered, taken-past, refused-past, placeless_pass, placeless_later, placeless_here}
use Rattle.machine.proofs.Lawful.{Lawful}
use Rattle.machine.proofs.Runs.{run-word-below}
use Rattle.machine.proofs.Clock.{SoundByClock, sound_by_clock}
use Rattle.machine.proofs.Rising.{table_of, no_row, at_mem, scheduled, scheduled_row, row_of, schedule-length as rows-most}
use Rattle.machine.proofs.Schedule.{schedule, schedule_ordered, schedule_sound, sound_least}
use Rattle.machine.proofs.Sound.{accepted_sound, sound_accepted, lines_facts}
use Rattle.meaning.specs.Graph.{Graph, known, edition_of, file_lines, content, content_lines, operation_count}
use Rattle.meaning.specs.Steps.{State, machine_of}
use Rattle.meaning.specs.TableFile.{mask_bytes, most_rows, row_start, cycles_of, layout_line, table_in, schedule_file}
use Rattle.meaning.specs.Answers.{graph_lines, graph_verdict, schedule_lines, schedule_verdict, table_lines, check_verdict}
use Rattle.meaning.proofs.Taken.{Filed, graph_of, Accepted, accepted_of, few-operations, few-controls}
use Rattle.meaning.proofs.Legal.{done_below}
use Rattle.meaning.proofs.Instance.{lawful}
use Rattle.meaning.proofs.Bytes.{AreBytes}
use Rattle.meaning.proofs.TableFile.{row_mono, Fits, AllFit, file-cycles, file_passes, file-small, schedule-length}

-- the done set of every state of a run holds operations of the graph
run-done : (g : Graph) (f : ℕ → State → ℕ) (t w : ℕ) → (run (machine_of g) f t w).done < 2 ^ operation_count g
unfolding run
run-done g f zero w = pow_pos (operation_count g)
run-done g f (suc t) w = either ((machine_of g).complete s) (run-done g f t w)
  where
    s : State
    s = run (machine_of g) f t w

    either : (b : Bool) → s.done < 2 ^ operation_count g → (cond b s ((machine_of g).next s (f (suc t) s) w)).done < 2 ^ operation_count g
    either true h = h
    either false h = done_below g s (f (suc t) s) w

-- A schedule has no more rows than a table may have.
pub few-rows : (g : Graph) → Accepted g → remaining (machine_of g) (machine_of g).start ≤ (machine_of g).horizon
    → length (schedule_rows (machine_of g)) ≤ most_rows g.edition
unfolding most_rows
few-rows g a found =
    le_trans (rows-most (machine_of g) (lawful g a.taken))
    (mul-le-mul (le_trans found (few-operations a.within)) (pow_mono (few-controls a.within)))

-- A table, which is a list of bytes, is accepted for the graph file.
abbrev pub SomeAccepted : List ℕ → Type 0
SomeAccepted file = (table : List ℕ) × AreBytes table × (check_verdict file table ≡ taken)

-- No table, which is a list of bytes, is accepted for the graph file.
abbrev pub NoneAccepted : List ℕ → Type 0
NoneAccepted file = (table : List ℕ) → AreBytes table → check_verdict file table ≢ taken

-- The scheduler's own verdicts, 12, 13, 14 and a success: 1 to 11 have passed, and which of its lines are at fault.
module _ (file slots table : List ℕ) where
  abbrev M : Machine
  M = machine_of (content file)

  -- the start has a remaining number
  abbrev Found : Type 0
  Found = remaining M M.start ≤ M.horizon

  -- line 14, and line 13 before it
  abbrev fourteen : List Line
  fourteen = placeless 14 (ltb (length table) (length (schedule_file (content file)))) ∷ []

  abbrev thirteen : List Line
  thirteen = placeless 13 (ltb M.horizon (remaining M M.start)) ∷ fourteen

  enough : Denies (ltb (length slots) (state_count M)) (state_count M ≤ length slots)
  enough = denies_ltb (length slots) (state_count M)

  found : Denies (ltb M.horizon (remaining M M.start)) Found
  found = denies_ltb M.horizon (remaining M M.start)

  pub twelve_means : (schedule_verdict file slots table ≡ refused 12 0) ↔ ((graph_verdict file ≡ taken) × (length slots < state_count M))
  unfolding schedule_verdict graph_verdict schedule_lines numbered graph_lines file_lines content_lines
  twelve_means =
      Iff.trans (refused-past 12 0 (graph_lines file) (schedule_lines (content file) (length slots) (length table)) tt)
      (Iff.and Iff.rfl (placeless_here 12 thirteen tt (says_ltb (length slots) (state_count M))))

  pub thirteen_means : (schedule_verdict file slots table ≡ refused 13 0)
      ↔ ((graph_verdict file ≡ taken) × ((state_count M ≤ length slots) × (M.horizon < remaining M M.start)))
  unfolding schedule_verdict graph_verdict schedule_lines numbered graph_lines file_lines content_lines
  thirteen_means =
      Iff.trans (refused-past 13 0 (graph_lines file) (schedule_lines (content file) (length slots) (length table)) tt)
      (Iff.and Iff.rfl (Iff.trans (placeless_later 12 thirteen 13 0 tt enough)
      (Iff.and Iff.rfl (placeless_here 13 fourteen tt (says_ltb M.horizon (remaining M M.start))))))

  pub fourteen_means : (schedule_verdict file slots table ≡ refused 14 0)
      ↔ ((graph_verdict file ≡ taken) × ((state_count M ≤ length slots) × (Found × (length table < length (schedule_file (content file))))))
  unfolding schedule_verdict graph_verdict schedule_lines numbered graph_lines file_lines content_lines
  fourteen_means =
      Iff.trans (refused-past 14 0 (graph_lines file) (schedule_lines (content file) (length slots) (length table)) tt)
      (Iff.and Iff.rfl (Iff.trans (placeless_later 12 thirteen 14 0 tt enough)
      (Iff.and Iff.rfl (Iff.trans (placeless_later 13 fourteen 14 0 tt found)
      (Iff.and Iff.rfl (placeless_here 14 [] tt (says_ltb (length table) (length (schedule_file (content file))))))))))

  pub success_means : (schedule_verdict file slots table ≡ taken)
      ↔ ((graph_verdict file ≡ taken) × ((state_count M ≤ length slots) × (Found × (length (schedule_file (content file)) ≤ length table))))
  unfolding schedule_verdict graph_verdict schedule_lines
  success_means =
      Iff.trans (taken-past (graph_lines file) (schedule_lines (content file) (length slots) (length table)))
      (Iff.and Iff.rfl (Iff.trans (placeless_pass 12 thirteen enough)
      (Iff.and Iff.rfl (Iff.trans (placeless_pass 13 fourteen found)
      (Iff.and Iff.rfl (Iff.trans (placeless_pass 14 [] (denies_ltb (length table) (length (schedule_file (content file))))) (λ h. h.0, λ h. (h, none))))))))

-- For a graph file that is taken.
module _ (file : List ℕ) (ok : graph_verdict file ≡ taken) where
  graph : Accepted (content file)
  graph = accepted_of file ok

  filed : Filed file
  unfolding graph_verdict
  filed = (graph_of file ((judge-taken (graph_lines file)).0 ok)).0

  -- the machine of the graph that the file holds
  abbrev pub machine_in : Machine
  machine_in = machine_of (content file)

  pub lawful_in : Lawful machine_in
  lawful_in = lawful (content file) graph.taken

  -- the checker accepts exactly when refusals 15 to 20 pass
  pub accepts : (table : List ℕ) → (check_verdict file table ≡ taken) ↔ AllPass (table_lines (content file) table)
  unfolding check_verdict graph_verdict
  accepts table =
      let both = taken-past (graph_lines file) (table_lines (content file) table) in
      (λ e. (both.0 e).1, λ p. both.1 (ok, p))

  -- the table passes refusals 15 and 16
  pub record WellLaid (table : List ℕ) : Type 0 where
    pub layout : Passes (layout_line (content file).edition table)
    pub order : Passes (order_line machine_in (table_in (content file) table))

  -- Demand 3, the checker: a table that is well laid out and ordered is accepted exactly when it is sound.
  pub accepted_exactly : (table : List ℕ) → WellLaid table → (check_verdict file table ≡ taken) ↔ Sound machine_in (table_in (content file) table)
  unfolding table_lines
  accepted_exactly table laid = (λ e. to ((accepts table).0 e), λ s. (accepts table).1 (from s))
    where
      to : AllPass (table_lines (content file) table) → Sound machine_in (table_in (content file) table)
      to (and a (and b rest)) = accepted_sound machine_in lawful_in (table_in (content file) table) b rest

      from : Sound machine_in (table_in (content file) table) → AllPass (table_lines (content file) table)
      from s = and laid.layout (and laid.order (sound_accepted machine_in lawful_in (table_in (content file) table) laid.order s))

  -- The same clock by clock: each test falls either way when it is begun.
  pub accepted_by_clock : (table : List ℕ) → WellLaid table
      → (check_verdict file table ≡ taken) ↔ SoundByClock machine_in (table_in (content file) table)
  accepted_by_clock table laid =
      Iff.trans (accepted_exactly table laid) (sound_by_clock machine_in lawful_in (table_in (content file) table))

  -- an accepted table is well laid out, ordered and sound
  pub accepted_sound_file : (table : List ℕ) → check_verdict file table ≡ taken → WellLaid table × Sound machine_in (table_in (content file) table)
  unfolding table_lines
  accepted_sound_file table e = parts ((accepts table).0 e)
    where
      parts : AllPass (table_lines (content file) table) → WellLaid table × Sound machine_in (table_in (content file) table)
      parts (and a (and b rest)) =
          (record { layout = a; order = b }, accepted_sound machine_in lawful_in (table_in (content file) table) b rest)

  -- No accepted table has fewer cycles than the start's remaining number, which is there once one is accepted.
  pub accepted-least : (table : List ℕ) → check_verdict file table ≡ taken
      → (remaining machine_in machine_in.start ≤ machine_in.horizon) × (remaining machine_in machine_in.start ≤ cycles_of table)
  unfolding table_in
  accepted-least table e = sound_least machine_in lawful_in (table_in (content file) table) (accepted_sound_file table e).1

  module _ (found : remaining machine_in machine_in.start ≤ machine_in.horizon) where
    passes_sound : AllPass (sound_lines machine_in (schedule machine_in))
    passes_sound =
        sound_accepted machine_in lawful_in (schedule machine_in) (schedule_ordered machine_in lawful_in)
        (schedule_sound machine_in lawful_in found)

    -- done sets and steps are below 2 to the number of operations, so they fit their bytes
    fits_of : (x : ℕ) → x < 2 ^ operation_count (content file) → x < 256 ^ mask_bytes (content file).edition
    unfolding mask_bytes
    fits_of x h = lt_of_lt_of_le h (pow_mono (few-operations graph.within))

    row_fits : (p : ℕ) → zero < p → p ≤ (schedule machine_in).rows → Fits (content file) ((schedule machine_in).row p)
    row_fits p h k =
        let met = (schedule_sound machine_in lawful_in found).met p h k in
        let legal = (lines_facts machine_in lawful_in (schedule machine_in) passes_sound).lawful p (h, k) in
        record {
          done = fits_of ((schedule machine_in).row p).state.done
              (subst (λ (s : State). s.done < 2 ^ operation_count (content file)) (sym met.4)
              (run-done (content file) (prescribed machine_in (schedule machine_in)) met.0 met.1));
          step = fits_of ((schedule machine_in).row p).step
              (lawful_in.step-below ((schedule machine_in).row p).state ((schedule machine_in).row p).step legal);
        }

    pub rows_fit : AllFit (content file) (schedule_rows machine_in)
    unfolding schedule table_of
    rows_fit r m =
        let q = at_mem machine_in lawful_in (schedule_rows machine_in) (no_row machine_in) r m in
        subst (Fits (content file)) (ap (λ (i : ℕ). get_or (schedule_rows machine_in) i (no_row machine_in)) (back q.0) ∙ q.2)
        (row_fits (suc q.0) (zero-lt-suc q.0) q.1)
      where
        back : (i : ℕ) → suc i - 1 ≡ i
        back i = omega arith

    -- The schedule's file is accepted, with the start's remaining number as its cycles.
    pub schedule-accepted : check_verdict file (schedule_file (content file)) ≡ taken
    unfolding schedule_file schedule
    schedule-accepted =
        (accepts (schedule_file (content file))).1
        (file_passes (content file) (remaining machine_in machine_in.start) (schedule_rows machine_in) rows_fit (few-rows (content file) graph found)
        (schedule_ordered machine_in lawful_in) passes_sound)

    pub schedule-cycles : cycles_of (schedule_file (content file)) ≡ remaining machine_in machine_in.start
    unfolding schedule_file
    schedule-cycles = file-cycles (content file) (remaining machine_in machine_in.start) (schedule_rows machine_in)

    -- The schedule's file consists of bytes, and a buffer for as many rows as a table may have is room enough for it.
    pub schedule_bytes : AreBytes (schedule_file (content file))
    unfolding schedule_file content known scheduled_row scheduled
    schedule_bytes =
        file-small (content file) (remaining machine_in machine_in.start) (schedule_rows machine_in) edition
        (omega (arith, found, few-operations graph.within)) row
      where
        edition : edition_of file < 256
        edition = omega (arith, eqb→eq (edition_of file) 1 filed.edition-known)

        row : (r : Row machine_in) → Memᴰ r (schedule_rows machine_in) → (r.cycle < 256) × (r.state.values < 256)
        row r m =
            let q = row_of machine_in lawful_in r m in
            subst (λ (s : Row machine_in). (s.cycle < 256) × (s.state.values < 256)) (sym q.5) (
              omega (arith, found, few-operations graph.within, q.2),
              lt_of_lt_of_le (run-word-below machine_in lawful_in (λ u s. best machine_in s) q.0 q.1) (le_trans (pow_mono (few-controls graph.within)) (omega arith)),
            )

    pub room-enough : length (schedule_file (content file)) ≤ row_start (content file).edition (suc (most_rows (content file).edition))
    room-enough =
        subst (λ (k : ℕ). k ≤ row_start (content file).edition (suc (most_rows (content file).edition))) (sym (schedule-length (content file)))
        (row_mono (content file).edition (length (schedule_rows machine_in)) (most_rows (content file).edition) (few-rows (content file) graph found))

  -- no list at all is accepted where the start has no remaining number
  pub none_at_all : machine_in.horizon < remaining machine_in machine_in.start → (table : List ℕ) → check_verdict file table ≢ taken
  none_at_all h table e = not-le_of_lt h (accepted-least table e).0

  -- The start has a remaining number exactly when a table is accepted, and has none exactly when none is.
  pub some_accepted : (remaining machine_in machine_in.start ≤ machine_in.horizon) ↔ SomeAccepted file
  some_accepted =
      (λ h. (schedule_file (content file), schedule_bytes h, schedule-accepted h), λ a. (accepted-least a.0 a.2).0)

  pub none_accepted : (machine_in.horizon < remaining machine_in machine_in.start) ↔ NoneAccepted file
  none_accepted = (λ h table b. none_at_all h table, some)
    where
      some : NoneAccepted file → machine_in.horizon < remaining machine_in machine_in.start
      some nothing =
          ⊎_elim (λ (h : remaining machine_in machine_in.start ≤ machine_in.horizon). absurd (nothing (schedule_file (content file)) (schedule_bytes h) (schedule-accepted h)))
          (λ (h : machine_in.horizon < remaining machine_in machine_in.start). h)
          (le-or-lt (remaining machine_in machine_in.start) machine_in.horizon)

  -- The scheduler, given work slots for all reachable states.
  module _ (slots table : List ℕ) (enough : state_count machine_in ≤ length slots) where
    -- Demand 3, no schedule: 13 is given exactly when no table is accepted.
    pub thirteen_exactly : (schedule_verdict file slots table ≡ refused 13 0) ↔ NoneAccepted file
    thirteen_exactly =
        let means = thirteen_means file slots table in
        (λ e. none_accepted.0 (means.0 e).1.1, λ n. means.1 (ok, (enough, none_accepted.1 n)))

    -- Demand 3, the scheduler: with room for its file it succeeds exactly when a table is accepted; then the file that it
    -- writes is accepted, and no accepted table has fewer cycles.
    pub schedule_exactly : length (schedule_file (content file)) ≤ length table → (schedule_verdict file slots table ≡ taken) ↔ SomeAccepted file
    schedule_exactly room =
        let means = success_means file slots table in
        (λ e. some_accepted.0 (means.0 e).1.1.0, λ a. means.1 (ok, (enough, (some_accepted.1 a, room))))

    pub schedule_shortest : schedule_verdict file slots table ≡ taken
        → (check_verdict file (schedule_file (content file)) ≡ taken)
        × ((other : List ℕ) → check_verdict file other ≡ taken → cycles_of (schedule_file (content file)) ≤ cycles_of other)
    schedule_shortest e =
        let found = ((success_means file slots table).0 e).1.1.0 in
        (schedule-accepted found, λ other a. subst (λ (c : ℕ). c ≤ cycles_of other) (sym (schedule-cycles found)) (accepted-least other a).1)
