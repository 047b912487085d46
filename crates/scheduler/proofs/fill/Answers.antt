-- `scheduler::fill` meets its contract. Assumes nothing.
use Prim.Native.Nat.{ℕ, suc, ◌+◌, ◌≤◌}
use native.Mathlib.Nat.{zero-add, le_trans}
use native.Mathlib.Omega.{arith}
use mathlib.Core.Path.{◌≡◌, refl, sym, ◌∙◌, ap, subst}
use mathlib.Core.List.{List}
use lib.ListN.{length}
use borrow.Author.Tests.{ltb-true, ltb-false}
use Rattle.std.proofs.Common.{rules}
use Rattle.std.specs.Prelude.{Err}
use Rattle.machine.specs.Tables.{schedule_rows}
use Rattle.meaning.specs.Graph.{Graph}
use Rattle.meaning.specs.Steps.{machine_of}
use Rattle.meaning.specs.TableFile.{most_rows, row_start, schedule_file}
use Rattle.meaning.proofs.TableFile.{row_mono, schedule-length}
use Rattle.meaning.proofs.Taken.{Accepted}
use Rattle.meaning.proofs.Demands.{few-rows}
use Rattle.parts.specs.Fields.{graph_in}
use Rattle.refusals.specs.Faults.{number_of, verdict_of}
use Rattle.reader.proofs.Verdicts.{taken-accepted}
use Rattle.scheduler.specs.Rows.{PlanAsks, PlanGives}
use Rattle.scheduler.specs.Promise.{FillGives, RowsIn}
use Rattle.scheduler.proofs.Answering.{refused-if, passed-if}
use Rattle.scheduler.proofs.fill.Goals as goal
use Rattle.scheduler.proofs.fill.Goals.{then-table-row_start+in_ok-refuse_if, else-table-row_start}

-- so many rows, counted from 0
counted : {rows n : ℕ} → n ≡ 0 + rows → n ≡ rows
counted {rows = rows} e = e ∙ zero-add rows

-- the schedule's rows, and where they end
module _ {g : Graph} (accepted : Accepted g) {slots : List ℕ} {cycles : ℕ} (q : PlanAsks g slots cycles) where
  abbrev rows : ℕ
  rows = length (schedule_rows (machine_of g))

  -- a buffer for any table has room
  ample : {most end room : ℕ} → most ≡ most_rows g.edition → end ≡ row_start g.edition (suc most) → end ≤ room
      → length (schedule_file g) ≤ room
  ample {most = most} {room = room} m n h =
      subst (λ (k : ℕ). k ≤ room) (sym (schedule-length g))
      (le_trans (row_mono g.edition rows most (omega (arith, few-rows g accepted q.planning.numbered, m))) (omega (arith, h, n)))

  -- where the rows would end, once they are counted
  end_is : {n end : ℕ} → end ≡ row_start g.edition (suc n) → n ≡ 0 + rows → end ≡ length (schedule_file g)
  end_is n k = n ∙ ap (λ (m : ℕ). row_start g.edition (suc m)) (counted k) ∙ sym (schedule-length g)

  -- the rows in a buffer that has room
  written-in : {before after : List ℕ} {n : ℕ} → PlanGives g before after n → length (schedule_file g) ≤ length before → RowsIn g before after n
  written-in {before = before} p h =
      record {
        count = counted p.count;
        table = p.table (subst (λ (k : ℕ). k ≤ length before) (schedule-length g ∙ ap (λ (k : ℕ). row_start g.edition (suc k)) (sym (zero-add rows))) h);
        room = h;
      }

pub returns-in_err-refuse_if : goal.returns-in_err-refuse_if
unfolding number_of verdict_of
returns-in_err-refuse_if c =
    let t = c.args.settled.now.taken.now in
    let g = graph_in t.graph in
    let f = c.in_err-refuse_if.field-0.0 in
    let e : c.from_residual.result ≡ Err f = search rules in
    let r = refused-if 14 _ f c.in_err-refuse_if.ensures in
    let end = end_is (taken-accepted t) c.requires c.row_start-then-table-row_start.ensures.right c.plan-rows.ensures.count in
    let over = ltb-true (length c.args.table.now) c.row_start-then-table-row_start.result r.1 in
    subst (FillGives g c.args.table.now c.args.table.now) (sym e) (record { verdict = r.0; table = refl; short = omega (arith, end, over) })

pub returns : goal.returns
unfolding number_of verdict_of
returns c =
    let t = c.args.settled.now.taken.now in
    let g = graph_in t.graph in
    let k = taken-accepted t in
    let q = c.requires in
    written-in k q c.plan.ensures
    (elim c.if-table-row_start.branch [
      | then-table-row_start+in_ok-refuse_if w ↦
          let r = passed-if 14 _ w.in_ok-refuse_if.ensures in
          let end = end_is k q w.row_start-then-table-row_start.ensures.right w.plan-rows.ensures.count in
          let over = ltb-false (length c.args.table.now) w.row_start-then-table-row_start.result r in
          omega (arith, end, over)
      | else-table-row_start w ↦ ample k q c.most_rows.ensures c.row_start.ensures.right w.if-table-row_start.false
    ])
