-- Tables of rows over any rule of steps: the checker's refusals 16 to 20, what a sound table is, and the schedule's table.
use Rattle.std.specs.Prelude.{ℕ, zero, suc, ◌<◌, ◌≤◌, ◌-◌, ◌≡◌, Bool, false, cond, not, ◌&&◌, ◌||◌, List, [], ◌∷◌, ◌++◌, T, eqb, ltb}
use Rattle.machine.specs.Sets.{all_below, any_below, first_below, list_below}
use Rattle.machine.specs.Refusals.{Line, line, line_at, placeless}
use Rattle.machine.specs.Machine.{Machine, remaining, best, run}

pub record Row (M : Machine) : Type 0 where
  pub cycle : ℕ
  pub state : M.State
  pub step : ℕ

-- A table: its cycle number, the number of its rows, and its rows, counted from 1.
pub record Table (M : Machine) : Type 0 where
  pub cycles : ℕ
  pub rows : ℕ
  pub row : ℕ → Row M

module _ (M : Machine) where
  -- rows rise by cycle, then by their states' order
  unfoldable pub rises : Row M → Row M → Bool
  rises a b = ltb a.cycle b.cycle || (eqb a.cycle b.cycle && M.before a.state b.state)

module _ (M : Machine) (table : Table M) where
  -- row p stands at cycle t with state s
  unfoldable pub stands_at : ℕ → M.State → ℕ → Bool
  stands_at t s p = eqb (table.row p).cycle t && M.same (table.row p).state s

  -- some row does
  unfoldable pub has_row : ℕ → M.State → Bool
  has_row t s = any_below table.rows (λ i. stands_at t s (suc i))

  -- The step that the table prescribes at cycle t in state s; where it has no row, a number that is no step.
  unfoldable pub prescribed : ℕ → M.State → ℕ
  prescribed t s =
      cond (has_row t s) (table.row (suc (first_below table.rows (λ i. stands_at t s (suc i))))).step M.steps

  -- row p is the start at cycle 1, or a next state of a row one cycle earlier
  unfoldable pub follows : ℕ → Bool
  follows p =
      (eqb (table.row p).cycle 1 && M.same M.start (table.row p).state)
      || any_below table.rows (λ i. eqb (suc (table.row (suc i)).cycle) (table.row p).cycle
      && any_below M.words (λ w. M.same (M.next (table.row (suc i)).state (table.row (suc i)).step w) (table.row p).state))

  -- every next state of row p is complete or has a row in the next cycle
  unfoldable pub continues : ℕ → Bool
  continues p =
      all_below M.words (λ w. let s = M.next (table.row p).state (table.row p).step w in
      M.complete s || has_row (suc (table.row p).cycle) s)

  -- the last row's cycle, 0 with no rows
  unfoldable pub last_cycle : ℕ
  last_cycle = cond (eqb table.rows 0) 0 (table.row table.rows).cycle

  -- refusal 16: a row is not above the row before
  unfoldable pub order_line : Line
  order_line = line 16 (suc table.rows) (λ p. ltb 1 p && not (rises M (table.row (p - 1)) (table.row p)))

  -- refusals 17 and 18, row by row, then 19 and 20
  unfoldable pub sound_lines : List Line
  sound_lines =
      list_below table.rows (λ i.
      line_at 17 (suc i) (M.complete (table.row (suc i)).state || not (follows (suc i)))
      ∷ line_at 18 (suc i) (not (M.legal (table.row (suc i)).state (table.row (suc i)).step))
      ∷ [])
      ++ line 19 (suc table.rows) (λ p. not (cond (eqb p 0) (M.complete M.start || has_row 1 M.start) (continues p)))
      ∷ placeless 20 (not (eqb table.cycles last_cycle))
      ∷ []

  -- Demand 3: what an accepted table is. The run that it prescribes, whichever way the tests fall, is legal in every
  -- clock and ends complete; its rows are just the unfinished states so met; its cycle number is the longest run's.
  pub record Sound : Type 0 where
    pub legal : (w : ℕ) → w < M.words → (t : ℕ)
        → let s = run M prescribed t w in T (M.complete s || M.legal s (prescribed (suc t) s))
    pub ends : (w : ℕ) → w < M.words → (t : ℕ) × T (M.complete (run M prescribed t w))
    pub met : (p : ℕ) → zero < p → p ≤ table.rows
        → (t : ℕ) × (w : ℕ) × (w < M.words) × ((table.row p).cycle ≡ suc t) × ((table.row p).state ≡ run M prescribed t w)
        × (M.complete (table.row p).state ≡ false)
    pub listed : (w : ℕ) → w < M.words → (t : ℕ) → M.complete (run M prescribed t w) ≡ false
        → (p : ℕ) × (zero < p) × (p ≤ table.rows) × ((table.row p).cycle ≡ suc t) × ((table.row p).state ≡ run M prescribed t w)
    pub enough : (w : ℕ) → w < M.words → T (M.complete (run M prescribed table.cycles w))
    pub needed : (t : ℕ) → t < table.cycles → (w : ℕ) × (w < M.words) × (M.complete (run M prescribed t w) ≡ false)

module _ (M : Machine) where
  -- The schedule's rows: at each cycle, for each word in order, the unfinished state whose resolved tests fell so, with
  -- its chosen step.
  unfoldable pub schedule_rows : List (Row M)
  schedule_rows =
      list_below (remaining M M.start) (λ t. list_below M.words (λ w.
      let s = run M (λ u r. best M r) t w in
      cond (eqb (M.word s) w && not (M.complete s)) (record { cycle = suc t; state = s; step = best M s } ∷ []) []))
