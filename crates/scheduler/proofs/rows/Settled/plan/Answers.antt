-- `scheduler::rows::Settled::plan` meets its contract. Assumes nothing.
use Prim.Native.Nat.{ℕ, suc, ◌^◌, ◌≤◌}
use native.Mathlib.Nat.{le_antisymm}
use native.Mathlib.Numerals.{add-one}
use native.Mathlib.Omega.{arith}
use mathlib.Core.Path.{sym, ◌∙◌, ap, subst}
use mathlib.Core.List.{List}
use borrow.Author.Rules.{rules}
use Rattle.machine.specs.Sets.{list_below}
use Rattle.machine.proofs.Sets.{list_length}
use Rattle.meaning.specs.Graph.{Graph, control_count}
use Rattle.meaning.proofs.Taken.{few-controls}
use Rattle.parts.specs.Fields.{graph_in}
use Rattle.scheduler.specs.Rows.{PlanAsks, PlanGives, Meets, cycle_rows, Laid}
use Rattle.reader.proofs.Verdicts.{taken-accepted}
use Rattle.scheduler.proofs.Answering.{cycles-room}
use Rattle.scheduler.proofs.RowLaws.{lays_none, lays-turn, rows_are, cycle-rows, meets-start}
use Rattle.scheduler.proofs.rows.Settled.plan.Goals as goal

pub loop-past-init : goal.loop-past-init
unfolding list_below
loop-past-init c =
    let t = c.args.self.now in
    let g = graph_in t.taken.now.graph in (
      meets-start g c.start-states.result (c.start-states.ensures g) (few-controls t.taken.now.within),
      lays_none g _,
    )

pub cycle-requires : goal.cycle-requires
cycle-requires c =
    let t = c.args.self.now in
    let g = graph_in t.taken.now.graph in
    let k = taken-accepted t.taken.now in
    let l = c.loop-past in
    let q = c.requires in
    record {
      planning = q.planning;
      meets = l.invariant.0;
      edition = l.invariant.1.edition;
      few = omega (
        arith,
        l.invariant.1.laid.count,
        list_length l.past 16 (cycle_rows g) (λ t h. cycle-rows g t (few-controls k.within)),
      );
      early = cycles-room g k (suc l.past) (omega (arith, c.loop-past-test.true, q.number, q.planning.numbered));
    }

pub loop-past-preserved : goal.loop-past-preserved
loop-past-preserved c =
    let g = graph_in c.args.self.now.taken.now.graph in
    let l = c.loop-past in (
      subst (λ (n : ℕ). Meets g n 0 (2 ^ control_count g) c.cycle.new.states) (sym (add-one l.past)) c.cycle.ensures.meets,
      lays-turn g (cycle_rows g) l.past _ l.rows c.cycle.new.rows l.invariant.1 c.cycle.ensures.lays,
    )

-- at the end all rows are laid
all-laid : {g : Graph} {slots : List ℕ} {cycles past rows : ℕ} {before after : List ℕ} → PlanAsks g slots cycles → past ≤ cycles → cycles ≤ past
    → Laid g before after 0 rows (list_below past (cycle_rows g)) → PlanGives g before after rows
all-laid {g = g} {rows = rows} {before = before} {after = after} q h i l =
    subst (Laid g before after 0 rows)
    (ap (λ (k : ℕ). list_below k (cycle_rows g)) (le_antisymm h i ∙ q.number) ∙ sym (rows_are g)) l

pub returns : goal.returns
returns c =
    let g = graph_in c.args.self.now.taken.now.graph in
    let l = c.loop-past in
    let lent = l.invariant.1.lent in
    subst (λ (t : List ℕ). PlanGives g c.args.table.now t l.rows.count) (search rules)
    (all-laid c.requires (omega arith) c.loop-past-test.false l.invariant.1.laid)
