-- `scheduler::rows::Settled::attains` meets its contract. Assumes nothing.
use Prim.Native.Nat.{ℕ, ◌+◌, ◌≤◌, ◌<◌}
use native.Mathlib.Nat.{lt_of_lt_of_le}
use native.Mathlib.Omega.{arith}
use mathlib.Core.Path.{◌≡◌, sym, ◌∙◌, subst}
use mathlib.Core.Bool.{not}
use mathlib.Core.List.{List}
use lib.Dec.{T}
use lib.Pow.{pow_mono}
use Rattle.machine.proofs.Truth.{of_true, of_false}
use Rattle.meaning.specs.Graph.{Graph}
use Rattle.meaning.specs.Steps.{State, after}
use Rattle.meaning.proofs.Legal.{values-below}
use Rattle.meaning.proofs.Taken.{Accepted, few-controls}
use Rattle.parts.specs.Fields.{graph_in, state_of}
use Rattle.steps.specs.declared.Fork.{Fork}
use Rattle.steps.specs.Forks.{begun, fork_of, falls, fallen}
use Rattle.scheduler.specs.Slots.{Holds}
use Rattle.scheduler.specs.Search.{Held}
use Rattle.scheduler.specs.Rows.{Attaining}
use Rattle.reader.proofs.Verdicts.{taken-accepted}
use Rattle.scheduler.proofs.Moves.{in_forks, goes}
use Rattle.scheduler.proofs.SearchLaws.{reachable-values}
use Rattle.scheduler.proofs.Turns.{forks_small}
use Rattle.scheduler.proofs.Chosen.{next-held, Attained, attained_none, attained_skip, attained_next, attained_all, attained_not}
use Rattle.scheduler.proofs.rows.Settled.attains.Goals as goal
use Rattle.scheduler.proofs.rows.Settled.attains.Goals.{else-falls-via-then-falls+else-bound-number_of, else-falls-via-else-falls}

-- A word is tried.
module _ {g : Graph} (accepted : Accepted g) {slots : List ℕ} {step bound : ℕ} {s : State} (q : Attaining g slots s step bound) {fork : Fork}
    (f : fork ≡ fork_of g s step) {word : ℕ} (h : word ≤ fork.begun) where
  begun-word : word ≤ begun g s.done step
  begun-word = in_forks g s step f h

  -- where it leads
  leads-to : fallen fork word ≡ after g s step word
  leads-to =
      let o = q.choosing in
      goes g s step f (reachable-values g accepted s (o.store.good.reach s o.held.0 o.held.1))
      (omega (arith, begun-word, forks_small g s accepted step))

  -- it is held there, where r is that state as the code has it
  held-there : (r : State) → r ≡ fallen fork word → Held slots r
  held-there r e =
      subst (Held slots) (sym (e ∙ leads-to)) (next-held g accepted slots s q.choosing step bound q.lawful q.numbered word begun-word)

  numbered : (r : State) (n : ℕ) → r ≡ fallen fork word → Holds slots r n → Holds slots (after g s step word) n
  numbered r n e held = subst (λ (k : State). Holds slots k n) (e ∙ leads-to) held

  skipped : Attained g s step bound word → T (not (falls fork word)) → Attained g s step bound (word + 1)
  skipped a n =
      attained_skip g accepted slots s q.choosing step bound q.lawful q.numbered word a (subst (λ (k : Fork). T (not (falls k word))) f n)

  turned : Attained g s step bound word → T (falls fork word) → (r : State) (n : ℕ) → r ≡ fallen fork word → Holds slots r n
      → n ≤ bound → Attained g s step bound (word + 1)
  turned a t r n e held k =
      attained_next g accepted slots s q.choosing step bound q.lawful q.numbered word n a begun-word (subst (λ (k : Fork). T (falls k word)) f t)
      (numbered r n e held) k

pub loop-word-init : goal.loop-word-init
loop-word-init c =
    let t = c.args.self.now in
    let q = c.requires in
    attained_none (graph_in t.taken.now.graph) (taken-accepted t.taken.now) t.slots.now.slots.now (state_of c.args.s) q.choosing c.args.step
    c.args.bound q.lawful q.numbered

pub number_of-requires : goal.number_of-requires
number_of-requires c =
    let t = c.args.self.now in
    let g = graph_in t.taken.now.graph in
    let k = taken-accepted t.taken.now in
    let q = c.requires in
    let f = c.fork_of-fork.ensures in
    let h = c.loop-word-test.true in
    record {
      values_bound = subst (λ (r : State). r.values < 16) (sym (c.fallen.ensures ∙ leads-to k q f h))
          (lt_of_lt_of_le (values-below g (state_of c.args.s) c.args.step c.loop-word.word) (pow_mono (few-controls k.within)));
      held = held-there k q f h (state_of c.fallen.result) c.fallen.ensures;
    }

pub returns-then-bound-number_of : goal.returns-then-bound-number_of
returns-then-bound-number_of c =
    let t = c.args.self.now in
    let g = graph_in t.taken.now.graph in
    let k = taken-accepted t.taken.now in
    let q = c.requires in
    let f = c.fork_of-fork.ensures in
    let h = c.loop-word-test.true in
    attained_not g k t.slots.now.slots.now (state_of c.args.s) q.choosing c.args.step c.args.bound q.lawful q.numbered c.loop-word.word
    c.number_of.result (begun-word k q f h)
    (numbered k q f h (state_of c.fallen.result) c.number_of.result c.fallen.ensures c.number_of.ensures) c.if-bound-number_of.true

pub loop-word-preserved : goal.loop-word-preserved
loop-word-preserved c =
    let k = taken-accepted c.args.self.now.taken.now in
    let q = c.requires in
    let f = c.fork_of-fork.ensures in
    let h = c.loop-word-test.true in
    elim c.else-falls.branch [
      | else-falls-via-then-falls+else-bound-number_of w ↦
          turned k q f h c.loop-word.invariant (of_true (sym c.falls.ensures ∙ w.if-falls.true)) (state_of w.fallen.result) w.number_of.result
          w.fallen.ensures w.number_of.ensures w.if-bound-number_of.false
      | else-falls-via-else-falls w ↦ skipped k q f h c.loop-word.invariant (of_false (sym c.falls.ensures ∙ w.if-falls.false))
    ]

pub returns-else-falls : goal.returns-else-falls
unfolding fork_of
returns-else-falls c =
    let t = c.args.self.now in
    let g = graph_in t.taken.now.graph in
    let k = taken-accepted t.taken.now in
    let q = c.requires in
    let f = c.fork_of-fork.ensures in
    let h = c.loop-word-test.true in
    attained_all g k t.slots.now.slots.now (state_of c.args.s) q.choosing c.args.step c.args.bound q.lawful q.numbered (c.loop-word.word + 1)
    (elim c.else-falls.branch [
      | else-falls-via-then-falls+else-bound-number_of w ↦
          turned k q f h c.loop-word.invariant (of_true (sym c.falls.ensures ∙ w.if-falls.true)) (state_of w.fallen.result) w.number_of.result
          w.fallen.ensures w.number_of.ensures w.if-bound-number_of.false
      | else-falls-via-else-falls w ↦ skipped k q f h c.loop-word.invariant (of_false (sym c.falls.ensures ∙ w.if-falls.false))
    ])
    (subst (λ (o : Fork). o.begun < c.loop-word.word + 1) f (omega arith))
