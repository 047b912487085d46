-- `scheduler::settle_and_lay` meets its contract. Assumes nothing.
use Prim.Native.Nat.{ℕ}
use native.Mathlib.Omega.{arith}
use mathlib.Core.Path.{◌≡◌, sym, ◌∙◌, ap, subst, subst₂}
use mathlib.Core.List.{List}
use lib.ListN.{length}
use Rattle.machine.specs.Machine.{state_count}
use Rattle.meaning.specs.Graph.{Graph}
use Rattle.meaning.specs.Answers.{schedule_lines}
use Rattle.meaning.specs.Steps.{machine_of}
use Rattle.parts.specs.declared.State.{State as Fields}
use Rattle.parts.specs.Fields.{graph_in, state_of}
use Rattle.refusals.specs.Faults.{number_of, fault_verdict}
use Rattle.reader.proofs.Verdicts.{taken-accepted}
use Rattle.scheduler.specs.Search.{Ready, Settles, SettledTo}
use Rattle.scheduler.specs.Promise.{Answered, later_lines}
use Rattle.scheduler.proofs.SearchLaws.{start-ready, all-met}
use Rattle.scheduler.proofs.Answering.{twelve, not_twelve, answered-refused, answered-same}
use Rattle.std.proofs.Common.{rules}
use Rattle.std.specs.Prelude.{Option, Some, Err}
use Rattle.std.specs.Option.{ok_or}
use Rattle.refusals.specs.declared.Fault.{Fault}
use Rattle.refusals.specs.declared.Refusal.{Refusal}
use Rattle.scheduler.proofs.settle_and_lay.Goals as goal

pub settle-requires : goal.settle-requires
settle-requires c =
    let g = graph_in c.args.taken.now.graph in
    subst₂ (Ready g) (sym c.requires) (sym (c.start.ensures g)) (start-ready g (length c.args.slots.now.slots.now))

-- the start is settled, and so all reachable states
started : {g : Graph} {before after : List ℕ} {start : Fields} {found : Option ℕ} {number : ℕ} → state_of start ≡ (machine_of g).start
    → found ≡ Some number → SettledTo g before after (state_of start) found → Settles g before after (machine_of g).start number
started {g = g} {before = before} {after = after} e f s = subst₂ (SettledTo g before after) e f s

pub returns-in_err-number : goal.returns-in_err-number
unfolding number_of fault_verdict
returns-in_err-number c =
    let a = c.args in
    let g = graph_in a.taken.now.graph in
    let lent = length a.slots.now.slots.now in
    let room = length a.table.now in
    let e : c.from_residual.result ≡ Err c.in_err-number.field-0.0 = search rules in
    let s = subst (SettledTo g a.slots.now.slots.now c.settle.new.slots.slots.now (state_of c.start.result)) c.in_err-number.ensures.ok_part
    c.settle.ensures in
    let fault : Fault = record { refusal = Refusal.Slots; place = 0 } in
    let told = c.in_err-number.ensures.value ∙ ap (λ (o : Option ℕ). ok_or o fault) c.in_err-number.ensures.ok_part in
    let same : c.in_err-number.field-0.0 ≡ fault = cc told in
    subst (Answered g (schedule_lines g lent room) (state_count (machine_of g)) a.table.now a.table.now) (sym (e ∙ ap (λ (f : Fault). Err f) same))
    (answered-refused g (schedule_lines g lent room) (state_count (machine_of g)) a.table.now fault (twelve g lent room s))

pub lay-requires : goal.lay-requires
lay-requires c =
    let s = started (c.start.ensures (graph_in c.args.taken.now.graph)) c.in_ok-number.ensures.ok_part c.settle.ensures in
    record { store = s.grown.store; held = s.held }

pub returns : goal.returns
returns c =
    let a = c.args in
    let g = graph_in a.taken.now.graph in
    let room = length a.table.now in
    let lent = length a.slots.now.slots.now in
    let slots = c.settle.new.slots in
    let s = started (c.start.ensures g) c.in_ok-number.ensures.ok_part c.settle.ensures in
    let count = all-met g slots.slots.now slots.used c.in_ok-number.number slots.in_order (taken-accepted a.taken.now) s.grown.store s.held in
    answered-same g (later_lines g room) (schedule_lines g lent room) slots.used (state_count (machine_of g)) a.table.now c.lay.new.table
    c.lay.result (not_twelve g lent room (omega (arith, count, slots.in_order.within, s.grown.same_length))) count c.lay.ensures
