-- The checker's answer by the verdicts on graph and table. Assumes nothing.
use Prim.Native.Nat.{ℕ}
use mathlib.Core.Path.{◌≡◌, refl, ◌∙◌}
use mathlib.Core.List.{List}
use Rattle.std.specs.Prelude.{Ok, Err}
use Rattle.machine.specs.Refusals.{taken, judge}
use Rattle.machine.proofs.Refusals.{otherwise, judge-append}
use Rattle.meaning.specs.Graph.{content}
use Rattle.meaning.specs.TableFile.{cycles_of, rows_of}
use Rattle.meaning.specs.Answers.{answer, graph_lines, graph_verdict, table_lines, check_verdict, checker}
use Rattle.refusals.specs.declared.Fault.{Fault}
use Rattle.refusals.specs.Faults.{fault_verdict}
use Rattle.checker.specs.Checked.{values_of}

module _ (file table : List ℕ) where
  -- the graph's refusals first
  check-verdict : check_verdict file table ≡ otherwise (graph_verdict file) (judge (table_lines (content file) table))
  unfolding check_verdict graph_verdict
  check-verdict = judge-append (graph_lines file) (table_lines (content file) table)

  -- the answers
  pub refused-answer : (f : Fault) → check_verdict file table ≡ fault_verdict f → values_of (Err f) ≡ checker file table
  unfolding values_of fault_verdict checker answer
  refused-answer f e = rw e refl

  pub graph-refused : (f : Fault) → graph_verdict file ≡ fault_verdict f → values_of (Err f) ≡ checker file table
  unfolding fault_verdict otherwise
  graph-refused f e = refused-answer f (check-verdict ∙ rw e refl)

  pub table-refused : (f : Fault) → graph_verdict file ≡ taken → judge (table_lines (content file) table) ≡ fault_verdict f
      → values_of (Err f) ≡ checker file table
  unfolding otherwise
  table-refused f g e = refused-answer f (check-verdict ∙ rw (g, e) refl)

  pub table-accepted : (cycles rows : ℕ) → graph_verdict file ≡ taken → judge (table_lines (content file) table) ≡ taken
      → cycles ≡ cycles_of table → rows ≡ rows_of table → values_of (Ok (record { cycles = cycles; rows = rows })) ≡ checker file table
  unfolding values_of otherwise checker answer
  table-accepted cycles rows g e c r = rw (check-verdict, g, e, c, r) refl
