-- `scheduler::rows::Settled::chosen` meets its contract. Assumes nothing.
use native.Mathlib.Omega.{arith}
use mathlib.Core.Path.{sym, ◌∙◌}
use Rattle.parts.specs.Fields.{graph_in, state_of}
use Rattle.reader.proofs.Verdicts.{taken-accepted}
use Rattle.scheduler.proofs.Moves.{next-below}
use Rattle.scheduler.proofs.SearchLaws.{reachable-values}
use Rattle.scheduler.proofs.Chosen.{number_positive, bound_small, passed-next, passed_found, passed_some}
use Rattle.scheduler.proofs.rows.Settled.chosen.Goals as goal

pub number_of-bound-requires : goal.number_of-bound-requires
number_of-bound-requires c =
    let t = c.args.self.now in
    let q = c.requires in
    record {
      values_bound = reachable-values (graph_in t.taken.now.graph) (taken-accepted t.taken.now) (state_of c.args.s)
          (q.store.good.reach (state_of c.args.s) q.held.0 q.held.1);
      held = q.held;
    }

pub overflow_sub-bound : goal.overflow_sub-bound
overflow_sub-bound c =
    let t = c.args.self.now in
    let n = c.number_of-bound in
    number_positive (graph_in t.taken.now.graph) (taken-accepted t.taken.now) t.slots.now.slots.now (state_of c.args.s) c.requires n.result
    n.ensures

pub attains-requires : goal.attains-requires
attains-requires c =
    let t = c.args.self.now in
    let g = graph_in t.taken.now.graph in
    let k = taken-accepted t.taken.now in
    let n = c.number_of-bound in
    let next = c.in-Some.ensures g (state_of c.args.s) k.within c.moves_in-moves.ensures c.loop-step.invariant.within in
    record {
      choosing = c.requires;
      lawful = next.lawful;
      numbered = bound_small g k t.slots.now.slots.now (state_of c.args.s) c.requires n.result n.ensures;
    }

pub returns-then-attains : goal.returns-then-attains
returns-then-attains c =
    let t = c.args.self.now in
    let g = graph_in t.taken.now.graph in
    let k = taken-accepted t.taken.now in
    let n = c.number_of-bound in
    let next = c.in-Some.ensures g (state_of c.args.s) k.within c.moves_in-moves.ensures c.loop-step.invariant.within in
    passed_found g k t.slots.now.slots.now (state_of c.args.s) c.requires n.result n.ensures c.loop-step.from c.in-Some.step
    c.loop-step.invariant next (sym c.if-attains.true ∙ c.attains.ensures)

pub overflow_add-from : goal.overflow_add-from
overflow_add-from c =
    let t = c.args.self.now in
    let g = graph_in t.taken.now.graph in
    let k = taken-accepted t.taken.now in
    let next = c.in-Some.ensures g (state_of c.args.s) k.within c.moves_in-moves.ensures c.loop-step.invariant.within in
    omega (arith, next-below k.within c.moves_in-moves.ensures next)

pub loop-step-smaller : goal.loop-step-smaller
loop-step-smaller c =
    let t = c.args.self.now in
    let g = graph_in t.taken.now.graph in
    let k = taken-accepted t.taken.now in
    let next = c.in-Some.ensures g (state_of c.args.s) k.within c.moves_in-moves.ensures c.loop-step.invariant.within in
    omega (arith, next.from, next-below k.within c.moves_in-moves.ensures next)

pub loop-step-preserved : goal.loop-step-preserved
loop-step-preserved c =
    let t = c.args.self.now in
    let g = graph_in t.taken.now.graph in
    let k = taken-accepted t.taken.now in
    let n = c.number_of-bound in
    let next = c.in-Some.ensures g (state_of c.args.s) k.within c.moves_in-moves.ensures c.loop-step.invariant.within in
    passed-next g k t.slots.now.slots.now (state_of c.args.s) c.requires n.result n.ensures c.loop-step.from c.in-Some.step
    c.loop-step.invariant next (sym c.if-attains.false ∙ c.attains.ensures)

pub unreachable-requires : goal.unreachable-requires
unreachable-requires c =
    let t = c.args.self.now in
    let g = graph_in t.taken.now.graph in
    let k = taken-accepted t.taken.now in
    let n = c.number_of-bound in
    passed_some g k t.slots.now.slots.now (state_of c.args.s) c.requires n.result n.ensures c.loop-step.from c.loop-step.invariant
    (c.in_default.ensures g (state_of c.args.s) k.within c.moves_in-moves.ensures c.loop-step.invariant.within)
