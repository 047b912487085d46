-- `scheduler::rows::Settled::cycle` meets its contract. Assumes nothing.
use Prim.Native.Nat.{ℕ, ◌^◌, ◌≤◌, ◌<◌}
use native.Mathlib.Nat.{lt_of_lt_of_le, not-suc-le-zero, le_antisymm}
use native.Mathlib.Omega.{arith}
use mathlib.Core.Path.{◌≡◌, sym, ◌∙◌, subst}
use mathlib.Core.Bool.{not}
use mathlib.Core.List.{List}
use lib.Dec.{T}
use lib.Pow.{pow_mono}
use Rattle.machine.specs.Sets.{list_below}
use Rattle.machine.proofs.Truth.{of_true, of_false}
use Rattle.machine.proofs.Sets.{list_length}
use Rattle.meaning.specs.Graph.{Graph, control_count}
use Rattle.meaning.specs.Steps.{State, complete, after}
use Rattle.meaning.specs.TableFile.{most_rows}
use Rattle.meaning.proofs.Taken.{Accepted, few-controls}
use Rattle.parts.specs.declared.State.{State as Fields}
use Rattle.parts.specs.Fields.{graph_in, state_of, row_of as row_in}
use Rattle.steps.specs.declared.Fork.{Fork}
use Rattle.steps.specs.Forks.{word_count, fork_of, fallen}
use Rattle.steps.proofs.After.{words-all}
use Rattle.scheduler.specs.declared.table.Rows.{Rows}
use Rattle.scheduler.specs.Rows.{CycleAsks, Choosing, state_at, row_of, cycle_rows, Lays}
use Rattle.reader.proofs.Verdicts.{taken-accepted}
use Rattle.scheduler.proofs.Moves.{goes}
use Rattle.scheduler.proofs.SearchLaws.{reachable-values}
use Rattle.scheduler.proofs.RowLaws.{here, Passing, passing_stays, passing_row, passing_on, row_one, lays_none, met-choosing}
use Rattle.scheduler.proofs.rows.Settled.cycle.Goals as goal
use Rattle.scheduler.proofs.rows.Settled.cycle.Goals.{then-not-complete, then-s-word, else-s-word, else-not-complete}

-- What is known from the start.
module _ {g : Graph} (accepted : Accepted g) {slots : List ℕ} {past : ℕ} {before : Rows} {started : List Fields}
    (q : CycleAsks g slots past started before) where
  words : {count : ℕ} → count ≡ word_count g → count ≡ 2 ^ control_count g
  words e = e ∙ words-all g accepted.within

  -- A word passes.
  module _ {word : ℕ} {rows : Rows} {states : List Fields} (p : Passing g past word before rows states) {count : ℕ}
      (e : count ≡ word_count g) (h : word < count) where
    in_words : word < 2 ^ control_count g
    in_words = subst (λ (k : ℕ). word < k) (words e) h

    small : word < 16
    small = lt_of_lt_of_le in_words (pow_mono (few-controls accepted.within))

    -- few enough rows are laid
    few : rows.count < most_rows rows.edition
    unfolding most_rows
    few =
        omega (
          arith,
          p.lays.laid.count,
          small,
          list_length word 1 (row_of g past) (λ w k. row_one g past w),
          q.early,
          q.few,
        )

    -- its state is unfinished
    module _ (left : T (not (complete g (state_at states word)))) where
      choosing : Choosing g slots (state_at states word)
      choosing =
          let at = here g past word states p.going in_words in
          subst (Choosing g slots) (sym at)
          (met-choosing g slots q.planning past word in_words (subst (λ (s : State). T (not (complete g s))) at left))

      values-small : (state_at states word).values < 16
      values-small =
          let c = choosing in
          reachable-values g accepted (state_at states word) (c.store.good.reach (state_at states word) c.held.0 c.held.1)

      -- where a step leads
      leads-to : (step : ℕ) (f : Fork) (r : Fields) → f ≡ fork_of g (state_at states word) step → state_of r ≡ fallen f word
          → state_of r ≡ after g (state_at states word) step word
      leads-to step f r i k = k ∙ goes g (state_at states word) step i values-small small

pub loop-word-init : goal.loop-word-init
unfolding list_below
loop-word-init c =
    let m = c.requires.meets in
    record {
      going = record { gone = record { size = m.size; at = λ w h k. absurd (not-suc-le-zero k) }; still = m };
      lays = lays_none (graph_in c.args.self.now.taken.now.graph) c.args.rows.now;
    }

pub chosen-step-requires : goal.chosen-step-requires
chosen-step-requires c =
    choosing (taken-accepted c.args.self.now.taken.now) c.requires c.loop-word.invariant c.word_count-words.ensures c.loop-word-test.true
    (of_false (sym c.complete.ensures ∙ c.if-not-complete.true))

pub lay-requires : goal.lay-requires
unfolding most_rows
lay-requires c =
    let k = taken-accepted c.args.self.now.taken.now in
    let q = c.requires in
    let l = c.loop-word in
    let e = c.word_count-words.ensures in
    let h = c.loop-word-test.true in
    let left = of_false (sym c.complete.ensures ∙ c.if-not-complete.true) in
    (few k q l.invariant e h, omega (arith, q.early), omega (arith, values-small k q l.invariant e h left))

pub bounds-states-word : goal.bounds-states-word
bounds-states-word c =
    small (taken-accepted c.args.self.now.taken.now) c.requires c.loop-word.invariant c.word_count-words.ensures c.loop-word-test.true

pub bounds-states-word-then-not-complete : goal.bounds-states-word-then-not-complete
bounds-states-word-then-not-complete c =
    small (taken-accepted c.args.self.now.taken.now) c.requires c.loop-word.invariant c.word_count-words.ensures c.loop-word-test.true

pub loop-word-preserved : goal.loop-word-preserved
unfolding row_in
loop-word-preserved c =
    let k = taken-accepted c.args.self.now.taken.now in
    let g = graph_in c.args.self.now.taken.now.graph in
    let q = c.requires in
    let l = c.loop-word in
    let p = l.invariant in
    let e = c.word_count-words.ensures in
    let h = c.loop-word-test.true in
    let done = c.complete in
    elim c.if-not-complete.branch [
      | then-not-complete w ↦
          let left = of_false (sym done.ensures ∙ w.if-not-complete.true) in
          let there = leads-to k q p e h left w.chosen-step.result w.fork_of.result w.fallen.result w.fork_of.ensures w.fallen.ensures in
          rw (w.states-is, w.rows-is)
          (elim w.if-s-word.branch [
            | then-s-word v ↦
                rw v.rows-is
                (passing_row p (in_words k q p e h) w.chosen-step.result left w.chosen-step.ensures (small k q p e h) w.fallen.result there
                v.if-s-word.true (v.lay.ensures g (sym (p.lays.edition ∙ q.edition))))
            | else-s-word v ↦
                rw v.rows-is
                (passing_on p (in_words k q p e h) w.chosen-step.result left w.chosen-step.ensures (small k q p e h) w.fallen.result there
                v.if-s-word.false)
          ])
      | else-not-complete w ↦
          rw (w.states-is, w.rows-is) (passing_stays p (in_words k q p e h) (of_true (sym done.ensures ∙ w.if-not-complete.false)))
    ]

-- At the end all words have passed.
all-passed : {g : Graph} {past word count : ℕ} {before after : Rows} {states : List Fields} → count ≡ 2 ^ control_count g → word ≤ count
    → count ≤ word → Passing g past word before after states → Passing g past (2 ^ control_count g) before after states
all-passed {g = g} {past = past} {before = before} {after = after} {states = states} e m n p =
    subst (λ (w : ℕ). Passing g past w before after states) (le_antisymm m n ∙ e) p

lays_all : {g : Graph} {past : ℕ} {before after : Rows} {states : List Fields} → Passing g past (2 ^ control_count g) before after states
    → Lays g before after (cycle_rows g past)
unfolding cycle_rows
lays_all p = p.lays

pub returns : goal.returns
returns c =
    let k = taken-accepted c.args.self.now.taken.now in
    let all = all-passed (words k c.requires c.word_count-words.ensures) (omega arith) c.loop-word-test.false c.loop-word.invariant in
    record { lays = lays_all all; meets = all.going.gone }
