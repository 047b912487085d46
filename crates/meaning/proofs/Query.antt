-- The query's part of an accepted table is exactly the rows of that cycle. Assumes nothing.
use Prim.Native.Nat.{ℕ, zero, suc, ◌+◌, ◌-◌, ◌≤◌, ◌<◌}
use native.Mathlib.Nat.{not-suc-le-zero, le_refl, le_trans, eq-or-lt_of_le, lt_irrefl, add-zero, lt-suc_self, mul-le-mul_left, le_of_mul-le-mul_left, mul-lt-mul_of_pos_left, lt_of_mul-lt-mul_left}
use native.Mathlib.Omega.{arith}
use mathlib.Core.Path.{◌≡◌, refl, sym, subst}
use mathlib.Core.Logic.{⊎_elim, ◌↔◌}
use mathlib.Core.Bool.{Bool, cond, not, ◌&&◌}
use mathlib.Core.List.{List, ◌∷◌, ◌++◌}
use lib.ListN.{length}
use lib.Dec.{T, eqb, ltb, eqb→eq, ltb→lt, lt→ltb}
use borrow.Author.Tests.{le-ltb, ne_eqb}
use Rattle.machine.specs.Sets.{count_below}
use Rattle.machine.specs.Refusals.{Line, taken}
use Rattle.machine.specs.Machine.{Machine}
use Rattle.machine.specs.Tables.{Row, Table, rises, order_line}
use Rattle.machine.proofs.Truth.{and_left, or_cases, not-and, not-not_elim, decided, contrary, true_of, false_of}
use Rattle.machine.proofs.Sets.{below-cases, le-or-lt, count-le, count_mono}
use Rattle.machine.proofs.Refusals.{Passes, AllPass, and, judge-taken, pass_append}
use Rattle.meaning.specs.Graph.{content}
use Rattle.meaning.specs.Steps.{machine_of}
use Rattle.meaning.specs.TableFile.{row_bytes, row_start, cycles_of, rows_of, layout_line, table_in}
use Rattle.meaning.specs.Answers.{is_taken, graph_lines, table_lines, check_verdict, cycle_start, Part, rows_of_cycle}
use Rattle.meaning.proofs.TableFile.{row-end, layout_length}

count_full : (n : ℕ) (f : ℕ → Bool) → ((i : ℕ) → i < n → T (f i)) → count_below n f ≡ n
unfolding count_below
count_full zero f h = refl
count_full (suc n) f h = rw (true_of (f n) (h n (lt-suc_self n)), count_full n f (λ i l. h i (omega arith))) (omega arith)

-- a test that, once it fails, fails on, holds at just the first places, as many as it is counted
pub count_at : (n : ℕ) (f : ℕ → Bool) → ((i j : ℕ) → i ≤ j → j < n → T (f j) → T (f i)) → (i : ℕ) → i < n → T (f i) ↔ (i < count_below n f)
unfolding count_below
count_at zero f down i h = absurd (not-suc-le-zero h)
count_at (suc n) f down i h = ⊎_elim all (some (count_at n f (λ j k l m. down j k l (omega arith)) i)) (decided (f n))
  where
    all : T (f n) → T (f i) ↔ (i < count_below n f + cond (f n) 1 0)
    all t =
        let full = count_full (suc n) f (λ j l. down j n (omega arith) (lt-suc_self n) t) in
        (λ s. subst (λ (k : ℕ). i < k) (sym full) h, λ l. down i n (omega arith) (lt-suc_self n) t)

    some : (i < n → T (f i) ↔ (i < count_below n f)) → T (not (f n)) → T (f i) ↔ (i < count_below n f + cond (f n) 1 0)
    some rest t = rw (false_of (f n) t, add-zero) (⊎_elim rest last (below-cases h))
      where
        last : i ≡ n → T (f i) ↔ (i < count_below n f)
        last e = (λ s. absurd (contrary (f n) (subst (λ (k : ℕ). T (f k)) e s) t), λ l. absurd (lt_irrefl n (omega (arith, count-le n f))))

-- numbers that do not fall from one to the next do not fall
mono_steps : (f : ℕ → ℕ) (n : ℕ) → ((i : ℕ) → suc i < n → f i ≤ f (suc i)) → (i j : ℕ) → i ≤ j → j < n → f i ≤ f j
mono_steps f n up i zero h k = subst (λ (m : ℕ). f m ≤ f 0) (omega arith) (le_refl (f 0))
mono_steps f n up i (suc j) h k =
    ⊎_elim (λ (e : i ≡ suc j). subst (λ (m : ℕ). f m ≤ f (suc j)) (sym e) (le_refl (f (suc j))))
    (λ (l : i < suc j). le_trans (mono_steps f n up i j (omega arith) (omega arith)) (up j k)) (eq-or-lt_of_le h)

-- rows in order have their cycles in order
module _ (M : Machine) where
  rises-cycle : (a b : Row M) → T (rises M a b) → a.cycle ≤ b.cycle
  unfolding rises
  rises-cycle a b t =
      ⊎_elim (λ (s : T (ltb a.cycle b.cycle)). omega (arith, ltb→lt a.cycle b.cycle s))
      (λ (s : T (eqb a.cycle b.cycle && M.before a.state b.state)).
      omega (arith, eqb→eq a.cycle b.cycle (and_left (eqb a.cycle b.cycle) (M.before a.state b.state) s)))
      (or_cases (ltb a.cycle b.cycle) (eqb a.cycle b.cycle && M.before a.state b.state) t)

module _ (M : Machine) (table : Table M) (order : Passes (order_line M table)) where
  next-cycle : (i : ℕ) → suc i < table.rows → (table.row (suc i)).cycle ≤ (table.row (suc (suc i))).cycle
  unfolding order_line
  next-cycle i h =
      let p = suc (suc i) in
      let above : p - 1 ≡ suc i = omega arith in
      subst (λ (k : ℕ). (table.row k).cycle ≤ (table.row p).cycle) above
      (rises-cycle M (table.row (p - 1)) (table.row p)
      (not-not_elim (rises M (table.row (p - 1)) (table.row p))
      (not-and (ltb 1 p) (not (rises M (table.row (p - 1)) (table.row p))) (order p (omega arith)) (lt→ltb 1 p (omega arith)))))

  -- the rows of the cycles before t are the first rows
  before_at : (t i : ℕ) → i < table.rows
      → ((table.row (suc i)).cycle < t) ↔ (i < count_below table.rows (λ k. ltb (table.row (suc k)).cycle t))
  before_at t i h = (λ l. first.0 (lt→ltb (cycle i) t l), λ l. ltb→lt (cycle i) t (first.1 l))
    where
      cycle : ℕ → ℕ
      cycle k = (table.row (suc k)).cycle

      first : T (ltb (cycle i) t) ↔ (i < count_below table.rows (λ k. ltb (cycle k) t))
      first =
          count_at table.rows (λ k. ltb (cycle k) t)
          (λ j k l m s. lt→ltb (cycle j) t (omega (arith, mono_steps cycle table.rows next-cycle j k l m, ltb→lt (cycle k) t s))) i h

-- rows stand in the file as they are counted
row-le : (edition a b : ℕ) → (row_start edition (suc a) ≤ row_start edition (suc b)) ↔ (a ≤ b)
unfolding row_bytes
row-le edition a b =
    rw (row-end edition a, row-end edition b)
    (λ h. le_of_mul-le-mul_left {k = row_bytes edition} (omega arith) (omega arith), λ h. omega (arith, mul-le-mul_left (row_bytes edition) h))

row_lt : (edition a b : ℕ) → (row_start edition (suc a) < row_start edition (suc b)) ↔ (a < b)
unfolding row_bytes
row_lt edition a b =
    rw (row-end edition a, row-end edition b)
    (λ h. lt_of_mul-lt-mul_left (row_bytes edition) (omega arith), λ h. omega (arith, mul-lt-mul_of_pos_left {k = row_bytes edition} h (omega arith)))

-- what is not below t is not among the first n, and the other way round
not-below : (c t i n : ℕ) → (c < t) ↔ (i < n) → (t ≤ c) ↔ (n ≤ i)
not-below c t i n e = (
  λ h. ⊎_elim (λ (k : n ≤ i). k) (λ (k : i < n). omega (arith, e.1 k)) (le-or-lt n i),
  λ h. ⊎_elim (λ (k : t ≤ c). k) (λ (k : c < t). omega (arith, e.0 k)) (le-or-lt t c),
)

module _ (file table : List ℕ) where
  abbrev edition : ℕ
  edition = (content file).edition

  abbrev M : Machine
  M = machine_of (content file)

  abbrev rows : Table M
  rows = table_in (content file) table

  -- row i, counted from 0, is of a cycle before t
  abbrev earlier : ℕ → ℕ → Bool
  earlier t i = ltb (rows.row (suc i)).cycle t

  -- The rows of cycle t are those that stand from where the rows of earlier cycles end to where those of later ones begin.
  pub cycle-rows : Passes (order_line M rows) → (t p : ℕ) → 0 < p → p ≤ rows.rows
      → ((rows.row p).cycle ≡ t) ↔ ((cycle_start file table t ≤ row_start edition p) × (row_start edition p < cycle_start file table (suc t)))
  unfolding cycle_start
  cycle-rows order t zero h k = absurd (not-suc-le-zero h)
  cycle-rows order t (suc i) h k = (
    λ e. ((row-le edition (count t) i).1 (from.0 (omega arith)), (row_lt edition i (count (suc t))).1 (upto.0 (omega arith))),
    λ b. omega (arith, from.1 ((row-le edition (count t) i).0 b.0), upto.1 ((row_lt edition i (count (suc t))).0 b.1)),
  )
    where
      count : ℕ → ℕ
      count u = count_below rows.rows (earlier u)

      from : (t ≤ (rows.row (suc i)).cycle) ↔ (count t ≤ i)
      from = not-below (rows.row (suc i)).cycle t i (count t) (before_at M rows order t i k)

      upto : ((rows.row (suc i)).cycle < suc t) ↔ (i < count (suc t))
      upto = before_at M rows order (suc t) i k

  cycle-order : (t : ℕ) → cycle_start file table t ≤ cycle_start file table (suc t)
  unfolding cycle_start
  cycle-order t =
      (row-le edition (count_below rows.rows (earlier t)) (count_below rows.rows (earlier (suc t)))).1
      (count_mono rows.rows (earlier t) (earlier (suc t)) (λ i h s.
      lt→ltb (rows.row (suc i)).cycle (suc t) (omega (arith, ltb→lt (rows.row (suc i)).cycle t s))))

  cycle-end : Passes (layout_line edition table) → (t : ℕ) → cycle_start file table t ≤ length table
  unfolding cycle_start table_in
  cycle-end layout t =
      rw (layout_length edition table layout)
      ((row-le edition (count_below rows.rows (earlier t)) (rows_of table)).1 (count-le rows.rows (earlier t)))

  -- what an accepted table has passed
  passed : check_verdict file table ≡ taken → Passes (layout_line edition table) × Passes (order_line M rows)
  unfolding check_verdict table_lines
  passed e =
      let lines = table_lines (content file) table in
      first ((pass_append (graph_lines file) lines).0 ((judge-taken (graph_lines file ++ lines)).0 e)).1
    where
      first : {l m : Line} {ls : List Line} → AllPass (l ∷ m ∷ ls) → Passes l × Passes m
      first (and h (and k r)) = (h, k)

  -- the part, from one row's start to another's or the table's end, holds exactly the rows of cycle t
  pub record HoldsCycle (t : ℕ) (part : Part) : Type 0 where
    pub starts : (i : ℕ) × (part.start ≡ row_start edition (suc i))
    pub ends : (i : ℕ) × (part.end ≡ row_start edition (suc i))
    pub ordered : part.start ≤ part.end
    pub within : part.end ≤ length table
    pub exactly : (p : ℕ) → 0 < p → p ≤ rows.rows
        → ((rows.row p).cycle ≡ t) ↔ ((part.start ≤ row_start edition p) × (row_start edition p < part.end))

  -- What the query gives for a cycle of an accepted table.
  pub query-rows : (t : ℕ) → check_verdict file table ≡ taken → 0 < t → t ≤ cycles_of table → HoldsCycle t (rows_of_cycle file table t)
  unfolding rows_of_cycle is_taken cycle_start
  query-rows t e h k =
      rw (e, ne_eqb t 0 (λ z. omega arith), le-ltb (cycles_of table) t k) (found (passed e))
    where
      found : Passes (layout_line edition table) × Passes (order_line M rows)
          → HoldsCycle t (record { start = cycle_start file table t; end = cycle_start file table (suc t) })
      found q =
          record {
            starts = (count_below rows.rows (earlier t), refl);
            ends = (count_below rows.rows (earlier (suc t)), refl);
            ordered = cycle-order t;
            within = cycle-end q.0 (suc t);
            exactly = cycle-rows q.1 t;
          }
