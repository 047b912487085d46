-- `scheduler::lay` meets its contract. Assumes nothing.
use Prim.Native.Nat.{ℕ, ◌^◌, ◌≤◌, ◌<◌, zero-le}
use native.Mathlib.Nat.{le_trans}
use native.Mathlib.Omega.{arith}
use mathlib.Core.Path.{◌≡◌, refl, sym, ◌∙◌, subst}
use mathlib.Core.Bool.{true}
use mathlib.Core.List.{List}
use lib.ListN.{length}
use borrow.Author.Tests.{eqb-true, ltb-true, ltb-false}
use Rattle.std.proofs.Common.{rules}
use Rattle.std.specs.Prelude.{Err}
use Rattle.machine.specs.Machine.{remaining}
use Rattle.machine.specs.Tables.{schedule_rows}
use Rattle.meaning.specs.Graph.{Graph, known}
use Rattle.meaning.specs.Steps.{machine_of}
use Rattle.meaning.specs.TableFile.{row_start}
use Rattle.meaning.proofs.Taken.{Accepted, few-operations}
use Rattle.meaning.proofs.TableFile.{row_mono, schedule-length}
use Rattle.parts.specs.Fields.{graph_in}
use Rattle.refusals.specs.Faults.{number_of, verdict_of}
use Rattle.reader.proofs.Verdicts.{taken-accepted}
use Rattle.scheduler.specs.Rows.{Planning}
use Rattle.scheduler.specs.Promise.{Answered, later_lines, RowsIn, LayAsks}
use Rattle.scheduler.proofs.Answering.{start-number, planning, no_number, refused-if, passed-if, thirteen, fourteen, nothing_left, answered-refused, answered-taken, file-written}
use Rattle.scheduler.proofs.lay.Goals as goal

-- the start has a remaining number
module _ {g : Graph} (accepted : Accepted g) {slots : List ℕ} {number : ℕ} (q : LayAsks g slots number) {most : ℕ} (e : most ≡ (machine_of g).horizon)
    (h : number ≤ most) where
  low : number ≤ (machine_of g).horizon
  low = subst (λ (k : ℕ). number ≤ k) e h

  plans : Planning g slots
  plans = planning g accepted slots number q.store q.held low

  number_is : number ≡ remaining (machine_of g) (machine_of g).start
  number_is = start-number g accepted slots number q.store q.held low

-- the rows are in the buffer, so it has room for the header
headed : {g : Graph} {before after : List ℕ} {rows : ℕ} → RowsIn g before after rows → row_start g.edition 1 ≤ length before
headed {g = g} {before = before} r =
    le_trans (row_mono g.edition 0 (length (schedule_rows (machine_of g))) zero-le)
    (subst (λ (k : ℕ). k ≤ length before) (schedule-length g) r.room)

-- a known edition is a byte
edition-byte : (edition : ℕ) → known edition ≡ true → edition < 2 ^ 8
unfolding known
edition-byte edition e = omega (arith, eqb-true edition 1 e)

pub returns-in_err-refuse_if : goal.returns-in_err-refuse_if
unfolding number_of verdict_of
returns-in_err-refuse_if c =
    let a = c.args in
    let t = a.settled.now.taken.now in
    let g = graph_in t.graph in
    let q = c.requires in
    let lines = later_lines g (length a.table.now) in
    let f = c.in_err-refuse_if.field-0.0 in
    let e : c.from_residual.result ≡ Err f = search rules in
    let r = refused-if 13 _ f c.in_err-refuse_if.ensures in
    subst (Answered g lines a.settled.now.slots.now.used a.table.now a.table.now) (sym e)
    (answered-refused g lines a.settled.now.slots.now.used a.table.now f
    (thirteen g (length a.table.now)
    (no_number g (taken-accepted t) a.settled.now.slots.now.slots.now a.number q.store q.held
    (subst (λ (k : ℕ). k < a.number) c.horizon.ensures (ltb-true c.horizon.result a.number r.1))) ∙ sym r.0))

pub fill-requires : goal.fill-requires
unfolding number_of verdict_of
fill-requires c =
    let k = taken-accepted c.args.settled.now.taken.now in
    let h = ltb-false c.horizon.result c.args.number (passed-if 13 _ c.in_ok-refuse_if.ensures) in
    record { planning = plans k c.requires c.horizon.ensures h; number = number_is k c.requires c.horizon.ensures h }

pub returns-in_err-rows : goal.returns-in_err-rows
unfolding number_of verdict_of
returns-in_err-rows c =
    let a = c.args in
    let t = a.settled.now.taken.now in
    let g = graph_in t.graph in
    let lines = later_lines g (length a.table.now) in
    let f = c.in_err-rows.field-0.0 in
    let e : c.from_residual-in_err-rows.result ≡ Err f = search rules in
    let short = c.in_err-rows.ensures in
    let h = ltb-false c.horizon.result a.number (passed-if 13 _ c.in_ok-refuse_if.ensures) in
    rw (e, short.table)
    (answered-refused g lines a.settled.now.slots.now.used a.table.now f
    (fourteen g (length a.table.now) (plans (taken-accepted t) c.requires c.horizon.ensures h).numbered short.short ∙ sym short.verdict))

pub put_header-requires-clause-edition_in_bounds : goal.put_header-requires-clause-edition_in_bounds
put_header-requires-clause-edition_in_bounds c = omega (arith, headed c.in_ok-rows.ensures, c.fill.auto.table)

pub put_header-requires-clause-edition_bound : goal.put_header-requires-clause-edition_bound
unfolding number_of verdict_of
put_header-requires-clause-edition_bound c =
    let t = c.args.settled.now.taken.now in
    let k = taken-accepted t in
    let h = ltb-false c.horizon.result c.args.number (passed-if 13 _ c.in_ok-refuse_if.ensures) in
    (edition-byte t.graph.edition t.of_known, omega (arith, low k c.requires c.horizon.ensures h, few-operations k.within))

pub returns : goal.returns
unfolding number_of verdict_of
returns c =
    let a = c.args in
    let t = a.settled.now.taken.now in
    let g = graph_in t.graph in
    let k = taken-accepted t in
    let lines = later_lines g (length a.table.now) in
    let rows = c.in_ok-rows.ensures in
    let h = ltb-false c.horizon.result a.number (passed-if 13 _ c.in_ok-refuse_if.ensures) in
    let number = number_is k c.requires c.horizon.ensures h in
    answered-taken g lines a.settled.now.slots.now.used a.number c.in_ok-rows.rows a.table.now c.put_header.new.table
    (nothing_left g (length a.table.now) (plans k c.requires c.horizon.ensures h).numbered rows.room) number rows.count
    (file-written g t.graph.edition a.number c.in_ok-rows.rows a.table.now c.fill.new.table c.put_header.new.table refl number rows
    c.put_header.ensures)
