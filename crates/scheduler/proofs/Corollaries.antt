-- What the scheduler's promise says: one outcome for each input; each refusal, and a success, exactly when; the table of a
-- success is accepted, has the fewest cycles and consists of bytes; the states counted are the reachable ones; when a schedule
-- is certain, and that empty steps would not help. Assumes nothing.
use Prim.Native.Nat.{ℕ, suc, ◌+◌, ◌*◌, ◌≤◌, ◌<◌}
use native.Mathlib.Nat.{le_trans, not-le_of_lt}
use mathlib.Core.Path.{◌≡◌, refl, sym, ◌∙◌, ap, subst}
use mathlib.Core.Logic.Iff
use mathlib.Core.Logic.{◌↔◌, ◌≢◌}
use mathlib.Core.Bool.{cond, not}
use mathlib.Core.List.{List, ◌++◌}
use lib.ListN.{length, take, drop}
use lib.Seq.{take_at}
use lib.Dec.{T}
use Rattle.std.specs.Prelude.{Result, Ok, Err}
use Rattle.machine.specs.Refusals.{Verdict, taken, refused}
use Rattle.machine.specs.Machine.{Machine, finish, remaining, run, state_count}
use Rattle.machine.specs.Tables.{schedule_rows}
use Rattle.machine.proofs.Truth.{refuted}
use Rattle.machine.proofs.Refusals.{Given, judge-refused}
use Rattle.machine.proofs.Reach.{Counts, state-count}
use Rattle.meaning.specs.Graph.{content}
use Rattle.meaning.specs.Steps.{machine_of}
use Rattle.meaning.specs.TableFile.{most_rows, row_start, cycles_of, schedule_file}
use Rattle.meaning.specs.Answers.{Answer, answer, is_taken, graph_lines, graph_verdict, schedule_lines, schedule_verdict, scheduler, table_after, check_verdict}
use Rattle.meaning.specs.Certain.{certain, certain_cycles, idling_of}
use Rattle.meaning.proofs.Bytes.{AreBytes}
use Rattle.meaning.proofs.TableFile.{file-cycles, schedule-length, schedule_eights}
use Rattle.meaning.proofs.Demands.{SomeAccepted, NoneAccepted, twelve_means, thirteen_means, fourteen_means, success_means, lawful_in, schedule_bytes, room-enough, none_at_all, some_accepted, none_accepted, schedule_exactly, schedule_shortest}
use Rattle.meaning.proofs.Certain.{certain_found, certain-least}
use Rattle.meaning.proofs.Idling.{prescribed_in, AllPermitted, AllComplete, idling-within, idling_ended, idling_long}
use Rattle.refusals.specs.declared.Fault.{Fault}
use Rattle.refusals.specs.declared.Refusal.{Refusal}
use Rattle.refusals.specs.declared.Refusal.TheVariants.{Slots, Unschedulable, Room}
use Rattle.refusals.specs.Faults.{number_of, fault_verdict, verdict_of}
use Rattle.refusals.proofs.Unique.{fault_of, fault_back}
use Rattle.scheduler.specs.declared.Scheduled.{Scheduled}
use Rattle.scheduler.specs.Promise.{values_of, Promised}

-- the answer that has the values
answer_of : Verdict → Answer → Result Scheduled Fault
answer_of taken v = Ok (record { cycles = v.cycles; rows = v.rows; states = v.states })
answer_of (refused k p) v = Err (fault_of (refused k p))

answer_back : (r : Result Scheduled Fault) → answer_of (values_of r).verdict (values_of r) ≡ r
unfolding answer_of values_of fault_verdict
answer_back (Err f) = ap (λ (g : Fault). Err g) (fault_back f)
answer_back (Ok s) = refl

verdict-same : (r : Result Scheduled Fault) → verdict_of r ≡ (values_of r).verdict
unfolding values_of verdict_of
verdict-same (Err f) = refl
verdict-same (Ok s) = refl

-- Two outcomes that the promise allows are equal.
pub one_outcome : (file slots table : List ℕ) (r q : Result Scheduled Fault) (slots_last slots_other table_last table_other : List ℕ)
    → Promised file slots table r slots_last table_last → Promised file slots table q slots_other table_other
    → (r ≡ q) × (slots_last ≡ slots_other) × (table_last ≡ table_other)
one_outcome file slots table r q slots_last slots_other table_last table_other a b = (
  sym (answer_back r) ∙ ap (λ (v : Answer). answer_of v.verdict v) (a.answers ∙ sym b.answers) ∙ answer_back q,
  a.clears ∙ sym b.clears,
  a.writes ∙ sym b.writes,
)

answer-verdict : (v : Verdict) (c n k : ℕ) → (answer v c n k).verdict ≡ v
unfolding answer
answer-verdict taken c n k = refl
answer-verdict (refused x y) c n k = refl

-- What a call has answered.
module _ (file slots table : List ℕ) (r : Result Scheduled Fault) (slots_last table_last : List ℕ) (p : Promised file slots table r slots_last table_last) where
  -- the machine of the graph that the file holds
  abbrev M : Machine
  M = machine_of (content file)

  -- a success, with the schedule's cycles and rows and the reachable states
  abbrev success : Result Scheduled Fault
  success = Ok (record { cycles = remaining M M.start; rows = length (schedule_rows M); states = state_count M })

  -- a refusal that names no place
  abbrev refusal : Refusal → Result Scheduled Fault
  refusal k = Err (record { refusal = k; place = 0 })

  verdict_is : (values_of r).verdict ≡ schedule_verdict file slots table
  unfolding scheduler
  verdict_is =
      ap (λ (v : Answer). v.verdict) p.answers
      ∙ answer-verdict (schedule_verdict file slots table) (remaining M M.start) (length (schedule_rows M)) (state_count M)

  -- the answer is the verdict's
  refusal_is : (f : Fault) → (r ≡ Err f) ↔ (schedule_verdict file slots table ≡ fault_verdict f)
  unfolding values_of answer_of fault_verdict
  refusal_is f = (
    λ e. sym verdict_is ∙ ap (λ (s : Result Scheduled Fault). (values_of s).verdict) e,
    λ v. sym (answer_back r) ∙ ap (λ (w : Verdict). answer_of w (values_of r)) (verdict_is ∙ v) ∙ ap (λ (g : Fault). Err g) (fault_back f),
  )

  twelve_is : (r ≡ refusal Slots) ↔ (schedule_verdict file slots table ≡ refused 12 0)
  unfolding fault_verdict number_of
  twelve_is = refusal_is (record { refusal = Slots; place = 0 })

  thirteen_is : (r ≡ refusal Unschedulable) ↔ (schedule_verdict file slots table ≡ refused 13 0)
  unfolding fault_verdict number_of
  thirteen_is = refusal_is (record { refusal = Unschedulable; place = 0 })

  fourteen_is : (r ≡ refusal Room) ↔ (schedule_verdict file slots table ≡ refused 14 0)
  unfolding fault_verdict number_of
  fourteen_is = refusal_is (record { refusal = Room; place = 0 })

  success_is : (r ≡ success) ↔ (schedule_verdict file slots table ≡ taken)
  unfolding values_of answer_of scheduler answer
  success_is = (
    λ e. sym verdict_is ∙ ap (λ (s : Result Scheduled Fault). (values_of s).verdict) e,
    λ v. sym (answer_back r) ∙ ap (λ (a : Answer). answer_of a.verdict a) p.answers
        ∙ ap (λ (w : Verdict). let a = answer w (remaining M M.start) (length (schedule_rows M)) (state_count M) in answer_of a.verdict a) v,
  )

  -- A refusal is given exactly by the refusal table: its line is at fault at that place first, and no earlier line anywhere.
  pub refuses_exactly : (k q : ℕ)
      → (verdict_of r ≡ refused k q) ↔ Given k q (graph_lines file ++ schedule_lines (content file) (length slots) (length table))
  unfolding schedule_verdict
  refuses_exactly k q =
      Iff.trans (λ e. sym (verdict-same r ∙ verdict_is) ∙ e, λ e. verdict-same r ∙ verdict_is ∙ e)
      (judge-refused (graph_lines file ++ schedule_lines (content file) (length slots) (length table)) k q)

  -- So is each fault, by its number and place.
  pub faults_exactly : (f : Fault)
      → (r ≡ Err f) ↔ Given (number_of f.refusal) f.place (graph_lines file ++ schedule_lines (content file) (length slots) (length table))
  unfolding schedule_verdict fault_verdict
  faults_exactly f =
      Iff.trans (refusal_is f)
      (judge-refused (graph_lines file ++ schedule_lines (content file) (length slots) (length table)) (number_of f.refusal) f.place)

  -- 12 is given exactly when the graph is taken and there are fewer slots than reachable states.
  pub twelve_exactly : (r ≡ refusal Slots) ↔ ((graph_verdict file ≡ taken) × (length slots < state_count M))
  twelve_exactly = Iff.trans twelve_is (twelve_means file slots table)

  -- 13 is given exactly when the graph is taken, the slots are enough and no table is accepted.
  pub thirteen_exactly : (r ≡ refusal Unschedulable) ↔ ((graph_verdict file ≡ taken) × (state_count M ≤ length slots) × NoneAccepted file)
  thirteen_exactly =
      let means = Iff.trans thirteen_is (thirteen_means file slots table) in (
        λ e. let q = means.0 e in (q.0, q.1.0, (none_accepted file q.0).0 q.1.1),
        λ q. means.1 (q.0, (q.1, (none_accepted file q.0).1 q.2)),
      )

  -- It is given only when no list at all is accepted, of bytes or not, and whenever no table is, if the graph is taken and
  -- the slots are enough.
  pub thirteen_only : r ≡ refusal Unschedulable → (other : List ℕ) → check_verdict file other ≢ taken
  thirteen_only e =
      let q = (Iff.trans thirteen_is (thirteen_means file slots table)).0 e in none_at_all file q.0 q.1.1

  pub thirteen_given : graph_verdict file ≡ taken → state_count M ≤ length slots → NoneAccepted file → r ≡ refusal Unschedulable
  thirteen_given g h none = thirteen_exactly.1 (g, h, none)

  -- Never for a graph with no follow arc and no limit of 0 on a class in use, whatever slots and buffer are lent.
  pub certain_never_thirteen : T (certain (content file)) → r ≢ refusal Unschedulable
  certain_never_thirteen c e =
      let q = (thirteen_means file slots table).0 (thirteen_is.0 e) in not-le_of_lt q.1.1 (certain_found file q.0 c)

  -- Where it is given, empty steps would not help either: with them permitted the start cannot be brought to complete within
  -- any number of cycles, and the runs of no table with empty steps are ever all complete.
  pub thirteen_idling : r ≡ refusal Unschedulable → (t : ℕ) → T (not (finish (idling_of (content file)) t M.start))
  thirteen_idling e t =
      let q = (thirteen_means file slots table).0 (thirteen_is.0 e) in
      refuted (finish (idling_of (content file)) t M.start) (λ h. not-le_of_lt q.1.1 (idling-within file q.0 t h).0)

  pub thirteen_idling_tables : r ≡ refusal Unschedulable → (other : List ℕ) → AllPermitted (content file) other → (t : ℕ) → ¬ AllComplete (content file) other t
  thirteen_idling_tables e other legal t ends =
      let q = (thirteen_means file slots table).0 (thirteen_is.0 e) in not-le_of_lt q.1.1 (idling_ended file q.0 other legal t ends).0

  -- 14 is given exactly when the graph is taken, the slots are enough, a table is accepted, and the buffer is shorter than
  -- the schedule's file, which has 8 + 8r bytes for its r rows.
  pub fourteen_exactly : (r ≡ refusal Room)
      ↔ ((graph_verdict file ≡ taken) × (state_count M ≤ length slots) × SomeAccepted file × (length table < length (schedule_file (content file))))
  fourteen_exactly =
      let means = Iff.trans fourteen_is (fourteen_means file slots table) in (
        λ e. let q = means.0 e in (q.0, q.1.0, (some_accepted file q.0).0 q.1.1.0, q.1.1.1),
        λ q. means.1 (q.0, (q.1, ((some_accepted file q.0).1 q.2, q.3))),
      )

  -- Given a graph that is taken and slots for all reachable states.
  module _ (graph : graph_verdict file ≡ taken) (enough : state_count M ≤ length slots) where
    -- With room for the schedule's file the scheduler succeeds exactly when a table is accepted.
    pub succeeds_exactly : length (schedule_file (content file)) ≤ length table → (r ≡ success) ↔ SomeAccepted file
    succeeds_exactly room = Iff.trans success_is (schedule_exactly file graph slots table enough room)

    -- So it does with room for as many rows as a table may have, which is 3080 bytes.
    pub succeeds_roomy : row_start (content file).edition (suc (most_rows (content file).edition)) ≤ length table
        → (r ≡ success) ↔ SomeAccepted file
    succeeds_roomy room = (
      λ e. (some_accepted file graph).0 ((success_means file slots table).0 (success_is.0 e)).1.1.0,
      λ a. (succeeds_exactly (le_trans (room-enough file graph ((some_accepted file graph).1 a)) room)).1 a,
    )

    -- A graph with no follow arc and no limit of 0 on a class in use is scheduled, given room for the schedule's file or for as
    -- many rows as a table may have.
    pub certain_succeeds : T (certain (content file)) → length (schedule_file (content file)) ≤ length table → r ≡ success
    certain_succeeds c room = (succeeds_exactly room).1 ((some_accepted file graph).0 (certain_found file graph c))

    pub certain-roomy : T (certain (content file)) → row_start (content file).edition (suc (most_rows (content file).edition)) ≤ length table
        → r ≡ success
    certain-roomy c room = (succeeds_roomy room).1 ((some_accepted file graph).0 (certain_found file graph c))

  -- a success
  module _ (cycles rows states : ℕ) (e : r ≡ Ok (record { cycles = cycles; rows = rows; states = states })) where
    verdict-taken : schedule_verdict file slots table ≡ taken
    unfolding values_of
    verdict-taken = sym verdict_is ∙ ap (λ (q : Result Scheduled Fault). (values_of q).verdict) e

    -- what has passed then
    graph : graph_verdict file ≡ taken
    graph = ((success_means file slots table).0 verdict-taken).0

    enough : state_count M ≤ length slots
    enough = ((success_means file slots table).0 verdict-taken).1.0

    found : remaining M M.start ≤ M.horizon
    found = ((success_means file slots table).0 verdict-taken).1.1.0

    -- A success answers the schedule's cycles and rows, and how many states are reachable.
    pub counts-answered : r ≡ success
    counts-answered = success_is.1 verdict-taken

    cycles_are : cycles ≡ remaining M M.start
    unfolding values_of
    cycles_are = ap (λ (q : Result Scheduled Fault). (values_of q).cycles) (sym e ∙ counts-answered)

    rows_are : rows ≡ length (schedule_rows M)
    unfolding values_of
    rows_are = ap (λ (q : Result Scheduled Fault). (values_of q).rows) (sym e ∙ counts-answered)

    states_are : states ≡ state_count M
    unfolding values_of
    states_are = ap (λ (q : Result Scheduled Fault). (values_of q).states) (sym e ∙ counts-answered)

    -- the first bytes of the buffer, as many as a table of so many rows has, are the schedule's file
    written-file : take (row_start (content file).edition (suc rows)) table_last ≡ schedule_file (content file)
    unfolding table_after is_taken
    written-file =
        ap (take (row_start (content file).edition (suc rows))) (p.writes ∙ ap (λ (v : Verdict). cond (is_taken v) (schedule_file (content file) ++ drop (length (schedule_file (content file))) table) table) verdict-taken)
        ∙ take_at (schedule_file (content file)) (drop (length (schedule_file (content file))) table) (row_start (content file).edition (suc rows))
        (schedule-length (content file) ∙ ap (λ (k : ℕ). row_start (content file).edition (suc k)) (sym rows_are))

    best : (check_verdict file (schedule_file (content file)) ≡ taken)
        × ((other : List ℕ) → check_verdict file other ≡ taken → cycles_of (schedule_file (content file)) ≤ cycles_of other)
    best = schedule_shortest file graph slots table enough verdict-taken

    file-cycles_are : cycles_of (schedule_file (content file)) ≡ cycles
    unfolding schedule_file
    file-cycles_are = file-cycles (content file) (remaining M M.start) (schedule_rows M) ∙ sym cycles_are

    -- The table written is accepted, and carries the number of cycles that was answered.
    pub accepted : check_verdict file (take (row_start (content file).edition (suc rows)) table_last) ≡ taken
    accepted = subst (λ (t : List ℕ). check_verdict file t ≡ taken) (sym written-file) best.0

    pub cycles-written : cycles_of (take (row_start (content file).edition (suc rows)) table_last) ≡ cycles
    cycles-written = ap cycles_of written-file ∙ file-cycles_are

    -- It consists of bytes: those of the schedule's file, which are 8 + 8r for r rows.
    pub written_bytes : AreBytes (take (row_start (content file).edition (suc rows)) table_last)
    written_bytes = subst AreBytes (sym written-file) (schedule_bytes file graph found)

    pub written-length : length (schedule_file (content file)) ≡ 8 + 8 * rows
    written-length = schedule_eights (content file) ∙ ap (λ (k : ℕ). 8 + 8 * k) (sym rows_are)

    -- No accepted table has fewer cycles.
    pub shortest : (other : List ℕ) → check_verdict file other ≡ taken → cycles ≤ cycles_of other
    shortest other a = subst (λ (k : ℕ). k ≤ cycles_of other) file-cycles_are (best.1 other a)

    -- The states counted are the reachable states, each once.
    pub states_counted : Counts M states
    states_counted = subst (Counts M) (sym states_are) (state-count M (lawful_in file graph))

    -- A graph with no follow arc and no limit of 0 on a class in use gets as many cycles as it has operations at most.
    pub certain-cycles : T (certain (content file)) → cycles ≤ certain_cycles (content file)
    certain-cycles c = subst (λ (k : ℕ). k ≤ certain_cycles (content file)) (sym cycles_are) (certain-least file graph c)

    -- Empty steps would not give fewer cycles: not if the start could be brought to complete within t cycles with them permitted,
    -- however the tests fall, and not by a table with empty steps whose runs are all complete after t cycles.
    pub idling_never_helps : (t : ℕ) → T (finish (idling_of (content file)) t M.start) → cycles ≤ t
    idling_never_helps t h = subst (λ (k : ℕ). k ≤ t) (sym cycles_are) (idling-within file graph t h).1

    pub idling_tables : (other : List ℕ) → AllPermitted (content file) other → (t : ℕ) → AllComplete (content file) other t → cycles ≤ t
    idling_tables other legal t ends = subst (λ (k : ℕ). k ≤ t) (sym cycles_are) (idling_ended file graph other legal t ends).1

    -- So such a table's longest run has at least that many: in every cycle before, some run is not complete.
    pub idling_longest : (other : List ℕ) → AllPermitted (content file) other → (t : ℕ) → t < cycles
        → (w : ℕ) × (w < M.words) × T (not (M.complete (run (idling_of (content file)) (prescribed_in (content file) other) t w)))
    idling_longest other legal t h = idling_long file graph other legal t (subst (λ (k : ℕ). t < k) cycles_are h)
