-- The query's part by what the checker answered. Assumes nothing.
use Prim.Native.Nat.{ℕ, suc, ◌≤◌, ◌<◌, zero-le}
use native.Mathlib.Nat.{le_refl}
use native.Mathlib.Omega.{arith}
use mathlib.Core.Path.{◌≡◌, refl, sym, ◌∙◌, ap}
use mathlib.Core.Logic.{⊎_elim}
use mathlib.Core.Bool.{Bool, true, false, not, ◌||◌}
use mathlib.Core.List.{List}
use lib.ListN.{length}
use lib.Dec.{T, eqb, ltb}
use borrow.Author.Tests.{eqb-false, ltb-false}
use Rattle.std.specs.Prelude.{Result, Ok, Err}
use Rattle.machine.specs.Refusals.{Verdict, taken, refused}
use Rattle.machine.proofs.Truth.{not-or_left, not-or-right, decided, of_false, false_of, true_of}
use Rattle.meaning.specs.TableFile.{cycles_of, rows_of}
use Rattle.meaning.specs.Answers.{Answer, answer, is_taken, check_verdict, checker, cycle_start, Part, rows_of_cycle}
use Rattle.meaning.proofs.Query.{query-rows}
use Rattle.refusals.specs.declared.Fault.{Fault}
use Rattle.refusals.specs.Faults.{fault_verdict, verdict_of}
use Rattle.checker.specs.declared.Acceptance.{Acceptance}
use Rattle.checker.specs.Checked.{values_of}

module _ (file table : List ℕ) where
  -- the verdict of the checker's answer
  pub said_verdict : (r : Result Acceptance Fault) → values_of r ≡ checker file table → verdict_of r ≡ check_verdict file table
  unfolding verdict_of values_of checker answer
  said_verdict r e = of r ∙ ap (λ (a : Answer). a.verdict) e ∙ by (check_verdict file table)
    where
      of : (s : Result Acceptance Fault) → verdict_of s ≡ (values_of s).verdict
      of (Ok a) = refl
      of (Err f) = refl

      by : (v : Verdict) → (answer v (cycles_of table) (rows_of table) 0).verdict ≡ v
      by taken = refl
      by (refused k p) = refl

  pub front : (f : Fault) (t : ℕ) → values_of (Err f) ≡ checker file table → rows_of_cycle file table t ≡ record { start = 0; end = 0 }
  unfolding verdict_of fault_verdict rows_of_cycle is_taken
  front f t e = rw (← said_verdict (Err f) e) refl

  module _ (a : Acceptance) (t : ℕ) (e : values_of (Ok a) ≡ checker file table) where
    accepted : check_verdict file table ≡ taken
    unfolding verdict_of
    accepted = sym (said_verdict (Ok a) e)

    cycles-right : a.cycles ≡ cycles_of table
    unfolding values_of checker answer
    cycles-right = ap (λ (u : Answer). u.cycles) e ∙ rw accepted refl

    pub at-end : (eqb t 0 || ltb a.cycles t) ≡ true → rows_of_cycle file table t ≡ record { start = length table; end = length table }
    unfolding rows_of_cycle is_taken
    at-end h = rw (accepted, ← cycles-right, h) refl

    -- a cycle of the table: where its rows begin and end
    module _ (h : (eqb t 0 || ltb a.cycles t) ≡ false) where
      pub of-cycle : rows_of_cycle file table t ≡ record { start = cycle_start file table t; end = cycle_start file table (suc t) }
      unfolding rows_of_cycle is_taken
      of-cycle = rw (accepted, ← cycles-right, h) refl

      -- the table has cycle t
      some : 0 < t
      some = omega (arith, eqb-false t 0 (false_of (eqb t 0) (not-or_left (eqb t 0) (ltb a.cycles t) (of_false h))))

      pub above-none : t ≤ cycles_of table
      above-none =
          omega (arith, cycles-right, ltb-false a.cycles t (false_of (ltb a.cycles t) (not-or-right (eqb t 0) (ltb a.cycles t) (of_false h))))

  -- every part begins before it ends, and ends in the table
  pub part_bounds : (t : ℕ) → ((rows_of_cycle file table t).start ≤ (rows_of_cycle file table t).end) × ((rows_of_cycle file table t).end ≤ length table)
  unfolding rows_of_cycle is_taken
  part_bounds t = by (check_verdict file table) refl
    where
      Bounds : Part → Type 0
      Bounds p = (p.start ≤ p.end) × (p.end ≤ length table)

      outside : Bool
      outside = eqb t 0 || ltb (cycles_of table) t

      inside : check_verdict file table ≡ taken → T (not outside) → Bounds (rows_of_cycle file table t)
      inside e n =
          let held = query-rows file table t e
          (omega (arith, eqb-false t 0 (false_of (eqb t 0) (not-or_left (eqb t 0) (ltb (cycles_of table) t) n))))
          (ltb-false (cycles_of table) t (false_of (ltb (cycles_of table) t) (not-or-right (eqb t 0) (ltb (cycles_of table) t) n))) in
          (held.ordered, held.within)

      by : (v : Verdict) → check_verdict file table ≡ v → Bounds (rows_of_cycle file table t)
      by taken e =
          ⊎_elim (λ (o : T outside). rw (e, true_of outside o) (le_refl (length table), le_refl (length table))) (inside e) (decided outside)
      by (refused k p) e = rw e (le_refl 0, zero-le)
