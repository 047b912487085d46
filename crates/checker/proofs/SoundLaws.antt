-- Refusals 17 to 20 by what the code has read: rows by their fields, next states by words. Assumes nothing.
use Prim.Native.Nat.{ℕ, suc, ◌+◌, ◌-◌, ◌^◌, ◌<◌}
use native.Mathlib.Numerals.{add-one}
use native.Mathlib.Omega.{arith}
use mathlib.Core.Path.{◌≡◌, refl, sym, ◌∙◌, ap}
use mathlib.Core.Bool.{Bool, true, false, cond, not, ◌&&◌, ◌||◌}
use mathlib.Core.List.{List, [], ◌∷◌}
use lib.Dec.{eqb, ltb}
use lib.Pow.{pow_mono}
use borrow.Author.Tests.{lt-ltb, eq-eqb, ne_eqb}
use Rattle.machine.specs.Sets.{all_below, any_below, list_below}
use Rattle.machine.specs.Refusals.{Line, placeless, taken, refused, judge}
use Rattle.machine.specs.Tables.{follows, continues, last_cycle, order_line, sound_lines}
use Rattle.machine.proofs.Sets.{any_same, all_same}
use Rattle.machine.proofs.Refusals.{otherwise, judge-append, two_at}
use Rattle.meaning.specs.Graph.{Graph}
use Rattle.meaning.specs.Steps.{State, machine_of, complete, legal, after, same}
use Rattle.meaning.specs.TableFile.{cycles_of, rows_of, layout_line, table_in}
use Rattle.meaning.specs.Answers.{table_lines}
use Rattle.meaning.proofs.Taken.{Within, few-controls}
use Rattle.parts.specs.declared.Row.{Row as Fields}
use Rattle.parts.specs.declared.State.{State as Held}
use Rattle.parts.specs.Fields.{state_of, row_of}
use Rattle.steps.specs.declared.Fork.{Fork}
use Rattle.steps.specs.Forks.{word_count, fork_of, fallen}
use Rattle.steps.proofs.After.{fallen-after, words-all}
use Rattle.checker.specs.Rows.{Holds, came_from, covered, unfounded, row_lines, gap_line}

-- What a row leads to on the words, by its fork.
module _ (g : Graph) (small : Within g) (r : Fields) (narrow : r.state.values < 2 ^ 32) {fork : Fork}
    (of : fork ≡ fork_of g (state_of r.state) r.step) (f : State → Bool) where
  abbrev next : ℕ → State
  next = after g (state_of r.state) r.step

  by_fork : (w : ℕ) → w < word_count g → f (fallen fork w) ≡ f (next w)
  by_fork w h =
      ap f (rw of (fallen-after g (state_of r.state) r.step w narrow
      (omega (arith, words-all g small, pow_mono {j = 4} (few-controls small)))))

  any_word : any_below (word_count g) (λ w. f (fallen fork w)) ≡ any_below (machine_of g).words (λ w. f (next w))
  any_word = any_same (word_count g) (λ w. f (fallen fork w)) (λ w. f (next w)) by_fork ∙ rw (words-all g small) refl

  all-word : all_below (word_count g) (λ w. f (fallen fork w)) ≡ all_below (machine_of g).words (λ w. f (next w))
  all-word = all_same (word_count g) (λ w. f (fallen fork w)) (λ w. f (next w)) by_fork ∙ rw (words-all g small) refl

rows_in : (g : Graph) (table : List ℕ) → (table_in g table).rows ≡ rows_of table
unfolding table_in
rows_in g table = refl

module _ (g : Graph) (table : List ℕ) (i : ℕ) where
  -- row i + 1 is q; the row that asks is p
  module _ (q p : Fields) (at : Holds g table (suc i) q) where
    pub not_came : (q.cycle + 1 ≡ p.cycle → ⊥) → false ≡ came_from g table (suc i) (row_of g p)
    unfolding came_from row_of
    not_came h = rw (← at, ne_eqb (suc q.cycle) p.cycle (λ e. h (add-one q.cycle ∙ e))) refl

    pub came : Within g → q.state.values < 2 ^ 32 → {fork : Fork} → fork ≡ fork_of g (state_of q.state) q.step
        → (b : Bool) → q.cycle + 1 ≡ p.cycle → b ≡ any_below (word_count g) (λ w. same (fallen fork w) (state_of p.state))
        → b ≡ came_from g table (suc i) (row_of g p)
    unfolding came_from row_of
    came small narrow of b h e =
        rw (← at, eq-eqb (suc q.cycle) p.cycle (sym (add-one q.cycle) ∙ h))
        (e ∙ any_word g small q narrow of (λ s. same s (state_of p.state)))

  -- row i + 1 is p
  module _ (p : Fields) (at : Holds g table (suc i) p) where
    pub follows-start : (eqb p.cycle 1 && same (machine_of g).start (state_of p.state)) ≡ true
        → true ≡ follows (machine_of g) (table_in g table) (suc i)
    unfolding follows row_of
    follows-start h = rw (← at, h) refl

    pub follows-row : (b : Bool) → (eqb p.cycle 1 && same (machine_of g).start (state_of p.state)) ≡ false
        → b ≡ any_below (rows_of table) (λ j. came_from g table (suc j) (row_of g p))
        → b ≡ follows (machine_of g) (table_in g table) (suc i)
    unfolding follows row_of came_from
    follows-row b h e = rw (← at, h, rows_in g table) e

    pub continues-row : Within g → p.state.values < 2 ^ 32 → {fork : Fork} → fork ≡ fork_of g (state_of p.state) p.step
        → (b : Bool) → b ≡ all_below (word_count g) (λ w. covered g table (p.cycle + 1) (fallen fork w))
        → b ≡ continues (machine_of g) (table_in g table) (suc i)
    unfolding continues row_of covered
    continues-row small narrow of b e =
        rw (← at, ← add-one p.cycle) (e ∙ all-word g small p narrow of (covered g table (p.cycle + 1)))

    -- refusals 17 and 18 of the row
    pub founded : (b : Bool) → b ≡ complete g (state_of p.state)
        → unfounded g table i ≡ (b || not (follows (machine_of g) (table_in g table) (suc i)))
    unfolding unfounded row_of
    founded b e = rw (← at, ← e) refl

  pub row-verdict : let p = (table_in g table).row (suc i) in
      judge (row_lines g table i) ≡ cond (unfounded g table i) (refused 17 (i + 1)) (cond (not (legal g p.state p.step)) (refused 18 (i + 1)) taken)
  unfolding row_lines
  row-verdict = two_at 17 18 (suc i) _ _ ∙ rw (add-one i) refl

-- refusal 19 of the row at a place, and of the start
module _ (g : Graph) (table : List ℕ) where
  pub gap-row : (p : ℕ) (b : Bool) → (p ≡ 0 → ⊥) → p < 2 ^ 32 → b ≡ continues (machine_of g) (table_in g table) (suc (p - 1))
      → not b ≡ (ltb p (2 ^ 32) && (gap_line g table).fault p)
  unfolding gap_line
  gap-row p b h k e =
      let i : suc (p - 1) ≡ p = omega arith in
      rw (lt-ltb p (2 ^ 32) k, ne_eqb p 0 h) (ap not (e ∙ ap (continues (machine_of g) (table_in g table)) i))

  pub gap-start : (p : ℕ) (s : Held) (b : Bool) → p ≡ 0 → ((h : Graph) → state_of s ≡ (machine_of h).start)
      → b ≡ covered g table 1 (state_of s) → not b ≡ (ltb p (2 ^ 32) && (gap_line g table).fault p)
  unfolding gap_line
  gap-start p s b h at e = rw h (ap not (e ∙ ap (covered g table 1) (at g)))

-- Refusals 17 to 20, and 15 to 20, in order.
module _ (g : Graph) (table : List ℕ) where
  unfoldable pub cycles_line : Line
  cycles_line = placeless 20 (not (eqb (cycles_of table) (last_cycle (machine_of g) (table_in g table))))

  pub sound_verdict : judge (sound_lines (machine_of g) (table_in g table))
      ≡ otherwise (judge (list_below (rows_of table) (row_lines g table))) (otherwise (judge (gap_line g table ∷ [])) (judge (cycles_line ∷ [])))
  unfolding sound_lines row_lines unfounded gap_line covered table_in judge cycles_line
  sound_verdict =
      judge-append (list_below (rows_of table) (row_lines g table)) (gap_line g table ∷ cycles_line ∷ [])
      ∙ ap (otherwise (judge (list_below (rows_of table) (row_lines g table)))) (judge-append (gap_line g table ∷ []) (cycles_line ∷ []))

  pub table-verdict : judge (table_lines g table)
      ≡ otherwise (judge (layout_line g.edition table ∷ []))
      (otherwise (judge (order_line (machine_of g) (table_in g table) ∷ [])) (judge (sound_lines (machine_of g) (table_in g table))))
  unfolding table_lines
  table-verdict =
      let order = order_line (machine_of g) (table_in g table) in
      let sound = sound_lines (machine_of g) (table_in g table) in
      judge-append (layout_line g.edition table ∷ []) (order ∷ sound)
      ∙ ap (otherwise (judge (layout_line g.edition table ∷ []))) (judge-append (order ∷ []) sound)
