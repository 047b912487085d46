-- `checker::rows_of` meets its contract. Assumes nothing.
use Prim.Native.Nat.{ℕ, ◌≤◌}
use native.Mathlib.Omega.{arith}
use mathlib.Core.Path.{◌≡◌, sym, subst}
use mathlib.Core.List.{List}
use lib.ListN.{length}
use borrow.Author.Rules.{rules}
use Rattle.meaning.specs.Answers.{Part, rows_of_cycle}
use Rattle.checker.specs.declared.Span.{Span}
use Rattle.checker.specs.Checked.{part_of}
use Rattle.checker.proofs.Parts.{part_bounds}
use Rattle.checker.proofs.rows_of.Goals as goal

-- the span begins before it ends, and ends in the table
bounds : (file table : List ℕ) (t : ℕ) (s : Span) → part_of s ≡ rows_of_cycle file table t
    → (s.start ≤ s.end) × (s.end ≤ length table)
unfolding part_of
bounds file table t s e = subst (λ (p : Part). (p.start ≤ p.end) × (p.end ≤ length table)) (sym e) (part_bounds file table t)

pub slice_bounds-result-count : goal.slice_bounds-result-count
slice_bounds-result-count c = omega (arith, (bounds _ _ _ _ c.span_of-span.ensures).0)

pub slice_bounds-result-start : goal.slice_bounds-result-start
slice_bounds-result-start c = omega (arith, (bounds _ _ _ _ c.span_of-span.ensures).0)

pub slice_bounds-result-end : goal.slice_bounds-result-end
slice_bounds-result-end c = omega (arith, (bounds _ _ _ _ c.span_of-span.ensures).1)

pub returns : goal.returns
unfolding part_of
returns c = rw (← c.span_of-span.ensures) (search rules)
