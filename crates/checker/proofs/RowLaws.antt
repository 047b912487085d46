-- The order of rows, the last row's cycle, and where a cycle's rows begin, as the code finds them. Assumes nothing.
use Prim.Native.Nat.{ℕ, suc, ◌-◌, ◌^◌, ◌≤◌, ◌<◌}
use native.Mathlib.Omega.{arith}
use mathlib.Core.Path.{◌≡◌, refl, ◌∙◌, ap, ap₂}
use mathlib.Core.Bool.{Bool, false, not, ◌&&◌}
use mathlib.Core.List.{List}
use lib.Dec.{ltb}
use borrow.Author.Tests.{lt-ltb, le-ltb, ne_eqb}
use Rattle.machine.specs.Sets.{count_below}
use Rattle.machine.specs.Refusals.{Line}
use Rattle.machine.specs.Tables.{Row, rises, last_cycle, order_line}
use Rattle.meaning.specs.Graph.{Graph, content}
use Rattle.meaning.specs.Steps.{machine_of}
use Rattle.meaning.specs.TableFile.{rows_of, row_start, table_in}
use Rattle.meaning.specs.Answers.{cycle_start}
use Rattle.parts.specs.declared.Row.{Row as Fields}
use Rattle.parts.specs.Fields.{row_of}
use Rattle.checker.specs.Rows.{Holds}

module _ (g : Graph) (table : List ℕ) where
  -- refusal 16
  abbrev pub order : Line
  order = order_line (machine_of g) (table_in g table)

  -- no row is above the first
  pub order-first : (p : ℕ) → p ≤ 1 → false ≡ (ltb p (2 ^ 32) && order.fault p)
  unfolding order_line
  order-first p h = rw (lt-ltb p (2 ^ 32) (omega arith), le-ltb 1 p h) refl

  -- row p by the fields of both rows
  pub order-fault : (p : ℕ) (a b : Fields) (on : Bool) → 1 < p → p < 2 ^ 32 → Holds g table (suc (p - 2)) a
      → Holds g table (suc (p - 1)) b → on ≡ rises (machine_of g) (row_of g a) (row_of g b)
      → not on ≡ (ltb p (2 ^ 32) && order.fault p)
  unfolding order_line
  order-fault p a b on h k ra rb e =
      let i : suc (p - 2) ≡ p - 1 = omega arith in
      let j : suc (p - 1) ≡ p = omega arith in
      rw (lt-ltb p (2 ^ 32) k, lt-ltb 1 p h)
      (ap not (e ∙ ap₂ (rises (machine_of g)) (ra ∙ ap (table_in g table).row i) (rb ∙ ap (table_in g table).row j)))

  -- the last row's cycle
  pub last_none : (n : ℕ) → n ≡ rows_of table → n ≡ 0 → 0 ≡ last_cycle (machine_of g) (table_in g table)
  unfolding table_in last_cycle
  last_none n fits h = rw (← fits, h) refl

  pub last_some : (n : ℕ) (r : Fields) → n ≡ rows_of table → (n ≡ 0 → ⊥) → Holds g table (suc (n - 1)) r
      → r.cycle ≡ last_cycle (machine_of g) (table_in g table)
  unfolding table_in last_cycle row_of
  last_some n r fits h at =
      let e : n ≡ suc (n - 1) = omega arith in
      ap (λ (s : Row (machine_of g)). s.cycle) at ∙ rw (← fits, ne_eqb n 0 h, ← e) refl

  -- row i + 1 is of a cycle before t
  abbrev pub earlier : ℕ → ℕ → Bool
  earlier t i = ltb ((table_in g table).row (suc i)).cycle t

-- where the rows of cycles before t end, by their number
pub start_of_cycle : (file table : List ℕ) (t n k : ℕ) → n ≡ rows_of table → k ≡ count_below n (earlier (content file) table t)
    → row_start (content file).edition (suc k) ≡ cycle_start file table t
unfolding cycle_start table_in
start_of_cycle file table t n k fits e = rw (← fits, ← e) refl
