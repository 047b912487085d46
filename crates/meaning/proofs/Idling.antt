-- Request 02: permitting empty steps where immediacy allows them gives no schedule where there is none, and none with a shorter
-- longest run. Assumes nothing.
use Prim.Native.Nat.{ℕ, ◌^◌, ◌≤◌, ◌<◌}
use mathlib.Core.Path.{◌≡◌, refl, sym, ◌∙◌, subst}
use mathlib.Core.Logic.{⊎_elim, ◌↔◌}
use mathlib.Core.Bool.{false, not}
use mathlib.Core.List.{List}
use lib.Dec.{T}
use lib.Pow.{pow_pos}
use Rattle.machine.specs.Sets.{has}
use Rattle.machine.specs.Refusals.{taken}
use Rattle.machine.specs.Machine.{finish, remaining, run}
use Rattle.machine.specs.Tables.{prescribed}
use Rattle.machine.proofs.Truth.{decided, refuted, same_test}
use Rattle.machine.proofs.Sets.{has-zero, set_ext}
use Rattle.machine.proofs.Says.{says_all, says_not, says_test, says_eqb, says_and, denies_not, denies_and, denies_any}
use Rattle.machine.proofs.Idling.{Still, Idle, AllLegal, AllEnded, idling-least, idling_runs, idling_longest}
use Rattle.meaning.specs.Graph.{Graph, content, operation_count, control_count, arc_count, producer, source, target, kind}
use Rattle.meaning.specs.Steps.{State, complete, demanded, after, machine_of}
use Rattle.meaning.specs.TableFile.{table_in}
use Rattle.meaning.specs.Answers.{graph_verdict}
use Rattle.meaning.specs.Certain.{quiet, idling_of}
use Rattle.meaning.proofs.Taken.{Taken, accepted_of}
use Rattle.meaning.proofs.Legal.{done_below, values-below, history, nothing-else, fork-kept, fork-open}
use Rattle.meaning.proofs.Instance.{settled, state_ext, open_values}
use Rattle.meaning.proofs.Demands.{machine_in, lawful_in}

-- The empty step leaves a state as it is that has no operations but the graph's, and no values but those of resolved controls.
still_of : (g : Graph) (s : State) → s.done < 2 ^ operation_count g → s.values < 2 ^ control_count g
    → ((b : ℕ) → b < control_count g → T (not (settled g s b)) → has s.values b ≡ false) → Still (machine_of g) s
still_of g s d v unset w h =
    state_ext (after g s 0 w) s (set_ext (operation_count g) (after g s 0 w).done s.done (done_below g s 0 w) d same-done)
    (set_ext (control_count g) (after g s 0 w).values s.values (values-below g s 0 w) v same-values)
  where
    empty : (j : ℕ) → T (not (has 0 j))
    empty j = refuted (has 0 j) (subst T (has-zero j))

    same-done : (j : ℕ) → j < operation_count g → has (after g s 0 w).done j ≡ has s.done j
    same-done j k =
        same_test (has (after g s 0 w).done j) (has s.done j)
        (λ t. ⊎_elim (λ (u : T (has s.done j)). u) (λ (u : T (has 0 j)). absurd (subst T (has-zero j) u)) (nothing-else g s 0 w j t).1)
        (λ t. history g s 0 w j t k)

    same-values : (b : ℕ) → b < control_count g → has (after g s 0 w).values b ≡ has s.values b
    same-values b k =
        ⊎_elim (fork-kept g s 0 w b k)
        (λ (n : T (not (settled g s b))). fork-open g s 0 w b k n (empty (producer g b)) ∙ sym (unset b k n)) (decided (settled g s b))

pub idle : (g : Graph) → Taken g → Idle (machine_of g)
idle g ok =
    record {
      empty_below = pow_pos (operation_count g);
      start_still = still_of g (machine_of g).start (pow_pos (operation_count g)) (pow_pos (control_count g)) (λ b h n. has-zero b);
      next_still = λ s x w. still_of g (after g s x w) (done_below g s x w) (values-below g s x w) (open_values g ok s x w);
    }

-- Nothing is demanded exactly when every follow arc whose source is done has its target done, too.
pub quiet_means : (g : Graph) (s : State) → T (quiet g s)
    ↔ ((a : ℕ) → a < arc_count g → kind g a ≡ 1 → target g a < operation_count g → T (has s.done (source g a)) → T (has s.done (target g a)))
unfolding quiet demanded
quiet_means g s =
    let r = says_all {n = operation_count g} (λ j. says_not (denies_any {n = arc_count g} (λ a.
    denies_and (says_and (says_and (says_eqb (kind g a) 1) (says_eqb (target g a) j)) (says_test (has s.done (source g a))))
    (denies_not (says_test (has s.done j)))))) in (
      λ t a h e l d. r.to t (target g a) l a h ((e, refl), d),
      λ p. r.from (λ j h a k q. let e = q.0.1 in rw (← e) (p a k q.0.0 (rw e h) q.1)),
    )

-- A table of any bytes, for any graph.
module _ (g : Graph) (table : List ℕ) where
  -- the steps that it prescribes
  abbrev pub prescribed_in : ℕ → State → ℕ
  prescribed_in = prescribed (machine_of g) (table_in g table)

  -- on every word each is legal, or empty where immediacy allows it, in every clock until the run is complete
  abbrev pub AllPermitted : Type 0
  AllPermitted = AllLegal (idling_of g) prescribed_in

  -- after t cycles the run on every word is complete
  abbrev pub AllComplete : ℕ → Type 0
  AllComplete = AllEnded (idling_of g) prescribed_in

-- For a graph file that is taken.
module _ (file : List ℕ) (ok : graph_verdict file ≡ taken) where
  idle_in : Idle (machine_in file ok)
  idle_in = idle (content file) (accepted_of file ok).taken

  -- The start has a remaining number, of t at most,
  abbrev FoundWithin : ℕ → Type 0
  FoundWithin t =
      (remaining (machine_in file ok) (machine_in file ok).start ≤ (machine_in file ok).horizon) × (remaining (machine_in file ok) (machine_in file ok).start ≤ t)

  -- where it can be brought to complete within t cycles, however the tests fall, with empty steps permitted,
  pub idling-within : (t : ℕ) → T (finish (idling_of (content file)) t (machine_in file ok).start) → FoundWithin t
  idling-within = idling-least (machine_in file ok) (lawful_in file ok) idle_in (quiet (content file))

  -- and where the runs that a table with empty steps prescribes are all complete after t cycles.
  pub idling_ended : (table : List ℕ) → AllPermitted (content file) table → (t : ℕ) → AllComplete (content file) table t → FoundWithin t
  idling_ended table = idling_runs (machine_in file ok) (lawful_in file ok) idle_in (quiet (content file)) (prescribed_in (content file) table)

  -- The longest of these runs has at least as many cycles.
  pub idling_long : (table : List ℕ) → AllPermitted (content file) table → (t : ℕ) → t < remaining (machine_in file ok) (machine_in file ok).start
      → (w : ℕ) × (w < (machine_in file ok).words) × T (not (complete (content file) (run (idling_of (content file)) (prescribed_in (content file) table) t w)))
  idling_long table = idling_longest (machine_in file ok) (lawful_in file ok) idle_in (quiet (content file)) (prescribed_in (content file) table)
