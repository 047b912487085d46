-- `scheduler::search::settle` and `settle_after` meet their contracts. Assumes nothing.
use Prim.Native.Nat.{ℕ, max, ◌+◌, ◌*◌, ◌≤◌, ◌<◌}
use native.Mathlib.Omega.{arith}
use mathlib.Core.Path.{◌≡◌, sym, ◌∙◌, subst}
use mathlib.Core.Bool.{not}
use mathlib.Core.List.{List}
use lib.Dec.{T}
use Rattle.std.specs.Prelude.{None}
use Rattle.machine.proofs.Truth.{of_true, of_false}
use Rattle.meaning.specs.Graph.{Graph}
use Rattle.meaning.proofs.Taken.{Accepted}
use Rattle.meaning.specs.Steps.{State, machine_of, complete, legal, after}
use Rattle.meaning.proofs.Instance.{undone, rank_falls}
use Rattle.steps.specs.declared.Fork.{Fork}
use Rattle.parts.specs.Fields.{graph_in, state_of}
use Rattle.steps.specs.Forks.{fork_of, falls as outcome, fallen}
use Rattle.scheduler.specs.Slots.{Finds, StoredAs}
use Rattle.reader.proofs.Verdicts.{taken-accepted}
use Rattle.scheduler.specs.Search.{Ready, Settles, Branching, Storable}
use Rattle.scheduler.proofs.Moves.{next-below, in_forks, goes}
use Rattle.scheduler.proofs.SearchLaws.{complete_storable, stored_settled, settled-after, reachable-values}
use Rattle.scheduler.proofs.Turns.{Tried, tried_none, tried_next, tried_all, Branched, branched_none, branched_skip, branched_ready, branched_next, branched_all, forks_small}
use Rattle.scheduler.proofs.search.+settle.Goals as goal
use Rattle.scheduler.proofs.search.+settle.Goals.{settle_after-then-falls+in_ok-settle, settle_after-else-falls}

-- the next state of a word over the controls that a step begins, as the code has it
there : {g : Graph} (accepted : Accepted g) {slots : List ℕ} {s r : State} → Ready g slots s → (step : ℕ) {fork : Fork} → fork ≡ fork_of g s step
    → {word : ℕ} → word ≤ fork.begun → r ≡ fallen fork word → r ≡ after g s step word
there {g = g} accepted {s = s} q step f h e =
    e ∙ goes g s step f (reachable-values g accepted s q.reachable) (omega (arith, in_forks g s step f h, forks_small g s accepted step))

-- A word is tried of a step.
module _ {g : Graph} (accepted : Accepted g) {slots : List ℕ} {s : State} {step : ℕ} (q : Branching g slots s step) {fork : Fork}
    (f : fork ≡ fork_of g s step) {word worst : ℕ} (h : word ≤ fork.begun) {middle : List ℕ} (b : Branched g s step slots middle worst word) where
  turned : {last : List ℕ} {number : ℕ} {r : State} → T (outcome fork word) → r ≡ fallen fork word → Settles g middle last r number
      → Branched g s step slots last (max worst number) (word + 1)
  turned {last = last} {number = number} {r = r} t e n =
      branched_next g s accepted step slots middle last worst number word q.lawful b (in_forks g s step f h)
      (subst (λ (k : Fork). T (outcome k word)) f t)
      (subst (λ (k : State). Settles g middle last k number) (there accepted q.ready step f h e) n)

  skipped : T (not (outcome fork word)) → Branched g s step slots middle worst (word + 1)
  skipped n = branched_skip g s step slots middle worst word b (subst (λ (k : Fork). T (not (outcome k word))) f n)

pub settle-of-key-requires : goal.settle-of-key-requires
settle-of-key-requires t c =
    reachable-values (graph_in c.args.taken.now.graph) (taken-accepted c.args.taken.now) (state_of c.args.s) c.requires.reachable

pub settle-returns-then-complete : goal.settle-returns-then-complete
settle-returns-then-complete t c =
    let a = c.args in
    let g = graph_in a.taken.now.graph in
    let k = taken-accepted a.taken.now in
    let s = state_of a.s in
    let slots = a.slots.now in
    let absent = subst (λ (r : State). Finds slots.slots.now r None) c.of-key.ensures c.in_default.ensures in
    stored_settled g k slots.slots.now c.insert.new.self.slots.now slots.used slots.in_order s 0
    (complete_storable g slots.slots.now s c.requires absent (of_true (sym c.complete.ensures ∙ c.if-complete.true))) c.insert.result
    (subst (λ (r : State). StoredAs slots.slots.now c.insert.new.self.slots.now slots.used r 0 c.insert.result) c.of-key.ensures c.insert.ensures)

pub settle-loop-step-init : goal.settle-loop-step-init
settle-loop-step-init t c =
    let a = c.args in
    tried_none (graph_in a.taken.now.graph) (state_of a.s) a.slots.now.slots.now c.requires.store

pub settle-settle_after-requires : goal.settle-settle_after-requires
settle-settle_after-requires t c =
    let a = c.args in
    let g = graph_in a.taken.now.graph in
    let k = taken-accepted a.taken.now in
    let q = c.requires in
    let l = c.loop-step in
    let n = c.in-Some-next_step.ensures g (state_of a.s) k.within c.moves_in-moves.ensures l.invariant.within in
    let less : 2 * undone g (state_of a.s) < t = omega (arith, c.decreases) in (
      less,
      record {
        ready = record { store = l.invariant.grown.store; reachable = q.reachable };
        unfinished = of_false (sym c.complete.ensures ∙ c.if-complete.false);
        lawful = n.lawful;
      },
    )

pub settle-overflow_add-from : goal.settle-overflow_add-from
settle-overflow_add-from t c =
    let a = c.args in
    let g = graph_in a.taken.now.graph in
    let k = taken-accepted a.taken.now in
    let s = state_of a.s in
    let n = c.in-Some-next_step.ensures g s k.within c.moves_in-moves.ensures c.loop-step.invariant.within in
    omega (arith, next-below k.within c.moves_in-moves.ensures n)

pub settle-loop-step-smaller : goal.settle-loop-step-smaller
settle-loop-step-smaller t c =
    let a = c.args in
    let g = graph_in a.taken.now.graph in
    let k = taken-accepted a.taken.now in
    let s = state_of a.s in
    let n = c.in-Some-next_step.ensures g s k.within c.moves_in-moves.ensures c.loop-step.invariant.within in
    omega (arith, n.from, next-below k.within c.moves_in-moves.ensures n)

pub settle-loop-step-preserved : goal.settle-loop-step-preserved
settle-loop-step-preserved t c =
    let a = c.args in
    let g = graph_in a.taken.now.graph in
    let k = taken-accepted a.taken.now in
    let s = state_of a.s in
    let l = c.loop-step in
    rw c.min-least.ensures
    (tried_next g s k a.slots.now.slots.now l.slots.slots.now c.settle_after.new.slots.slots.now l.least c.in_ok-worst.worst l.from
    c.in-Some-next_step.step l.invariant (c.in-Some-next_step.ensures g s k.within c.moves_in-moves.ensures l.invariant.within)
    c.in_ok-worst.ensures)

-- all steps are tried
last : {g : Graph} (accepted : Accepted g) {before slots : List ℕ} {s r : State} → Ready g before s → Finds before r None
    → r ≡ s → T (not (complete g s)) → {least from : ℕ} → Tried g s before slots least from
    → ((z : ℕ) → from ≤ z → z < (machine_of g).steps → T (not (legal g s z))) → Storable g slots s least
last {g = g} accepted {before = before} {slots = slots} {s = s} q absent e left {least = least} {from = from} tried none =
    tried_all g s accepted before slots least from tried none left q.reachable (subst (λ (k : State). Finds before k None) e absent)

pub settle-insert-requires-2-clause-finds : goal.settle-insert-requires-2-clause-finds
settle-insert-requires-2-clause-finds t c =
    let a = c.args in
    let g = graph_in a.taken.now.graph in
    let k = taken-accepted a.taken.now in
    let l = c.loop-step in
    let none = c.in_default-next_step.ensures g (state_of a.s) k.within c.moves_in-moves.ensures l.invariant.within in
    subst (λ (r : State). Finds l.slots.slots.now r None) (sym c.of-key.ensures)
    (last k c.requires c.in_default.ensures c.of-key.ensures (of_false (sym c.complete.ensures ∙ c.if-complete.false)) l.invariant none).absent

pub settle-returns : goal.settle-returns
settle-returns t c =
    let a = c.args in
    let g = graph_in a.taken.now.graph in
    let k = taken-accepted a.taken.now in
    let s = state_of a.s in
    let l = c.loop-step in
    let slots = l.slots in
    let none = c.in_default-next_step.ensures g s k.within c.moves_in-moves.ensures l.invariant.within in
    let storable = last k c.requires c.in_default.ensures c.of-key.ensures (of_false (sym c.complete.ensures ∙ c.if-complete.false)) l.invariant none in
    settled-after g a.slots.now.slots.now slots.slots.now c.insert-2.new.self.slots.now s c.insert-2.result l.invariant.grown
    (stored_settled g k slots.slots.now c.insert-2.new.self.slots.now slots.used slots.in_order s l.least storable c.insert-2.result
    (subst (λ (r : State). StoredAs slots.slots.now c.insert-2.new.self.slots.now slots.used r l.least c.insert-2.result) c.of-key.ensures
    c.insert-2.ensures))

pub settle_after-loop-word-init : goal.settle_after-loop-word-init
settle_after-loop-word-init t c =
    let a = c.args in
    branched_none (graph_in a.taken.now.graph) (state_of a.s) a.step a.slots.now.slots.now c.requires.ready.store

pub settle_after-settle-requires : goal.settle_after-settle-requires
settle_after-settle-requires t c =
    let a = c.args in
    let g = graph_in a.taken.now.graph in
    let k = taken-accepted a.taken.now in
    let s = state_of a.s in
    let q = c.requires in
    let l = c.loop-word in
    let f = c.fork_of-fork.ensures in
    let h = c.loop-word-test.true in
    let at = there k q.ready a.step f h c.fallen.ensures in
    let falls : undone g (state_of c.fallen.result) < undone g s =
    subst (λ (r : State). undone g r < undone g s) (sym at) (rank_falls g k.taken s a.step l.word q.lawful) in
    let less : 2 * undone g (state_of c.fallen.result) + 1 < t = omega (arith, c.decreases, falls) in (
      less,
      subst (Ready g l.slots.slots.now) (sym at)
          (branched_ready g s k a.step a.slots.now.slots.now l.slots.slots.now l.worst l.word q.ready.reachable q.unfinished
          q.lawful l.invariant (in_forks g s a.step f h)),
    )

pub settle_after-loop-word-preserved : goal.settle_after-loop-word-preserved
settle_after-loop-word-preserved t c =
    let k = taken-accepted c.args.taken.now in
    let q = c.requires in
    let l = c.loop-word in
    let f = c.fork_of-fork.ensures in
    let h = c.loop-word-test.true in
    elim c.if-falls.branch [
      | settle_after-then-falls+in_ok-settle w ↦
          rw (w.slots-is, w.worst-is, w.max-worst.ensures)
          (turned k q f h l.invariant (of_true (sym c.falls.ensures ∙ w.if-falls.true)) w.fallen.ensures w.in_ok-settle.ensures)
      | settle_after-else-falls w ↦
          rw (w.slots-is, w.worst-is) (skipped k q f h l.invariant (of_false (sym c.falls.ensures ∙ w.if-falls.false)))
    ]

pub settle_after-returns-after-falls : goal.settle_after-returns-after-falls
unfolding fork_of
settle_after-returns-after-falls t c =
    let a = c.args in
    let g = graph_in a.taken.now.graph in
    let k = taken-accepted a.taken.now in
    let s = state_of a.s in
    let q = c.requires in
    let l = c.loop-word in
    let f = c.fork_of-fork.ensures in
    let h = c.loop-word-test.true in
    branched_all g s k a.step a.slots.now.slots.now c.if-falls.slots.slots.now c.if-falls.worst (l.word + 1)
    (elim c.if-falls.branch [
      | settle_after-then-falls+in_ok-settle w ↦
          rw (w.slots-is, w.worst-is, w.max-worst.ensures)
          (turned k q f h l.invariant (of_true (sym c.falls.ensures ∙ w.if-falls.true)) w.fallen.ensures w.in_ok-settle.ensures)
      | settle_after-else-falls w ↦
          rw (w.slots-is, w.worst-is) (skipped k q f h l.invariant (of_false (sym c.falls.ensures ∙ w.if-falls.false)))
    ])
    (subst (λ (o : Fork). o.begun < l.word + 1) f (omega arith))
