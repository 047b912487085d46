-- Two tables with the same cycle number and the same rows are judged alike, whatever they hold outside their rows: a
-- table is often known as a list and as the bytes of a file. Assumes nothing.
use Prim.Native.Nat.{ℕ, zero, suc, ◌-◌, ◌≤◌, ◌<◌}
use native.Mathlib.Nat.{lt-suc_self}
use native.Mathlib.Omega.{arith}
use mathlib.Core.Path.{◌≡◌, refl, ◌∙◌, ap, ap₂, subst}
use mathlib.Core.Bool.{Bool, cond, not, ◌&&◌, ◌||◌}
use mathlib.Core.List.{List, [], ◌∷◌, ◌++◌}
use lib.Dec.{T, eqb, ltb}
use Rattle.machine.specs.Sets.{all_below, any_below, list_below}
use Rattle.machine.specs.Refusals.{Line, line, line_at, placeless}
use Rattle.machine.specs.Machine.{Machine}
use Rattle.machine.specs.Tables.{Row, Table, rises, stands_at, has_row, follows, continues, last_cycle, order_line, sound_lines}
use Rattle.machine.proofs.Sets.{all_same, any_same}
use Rattle.machine.proofs.Refusals.{Passes, AllPass, and}

-- a line for another that finds the same at each of its places
line_same : (k n : ℕ) (f g : ℕ → Bool) → ((p : ℕ) → p < n → f p ≡ g p) → Passes (line k n f) → Passes (line k n g)
line_same k n f g e h p l = subst (λ (b : Bool). T (not b)) (e p l) (h p l)

-- the same in the midst of others
swap : (ls : List Line) (l m : Line) (ks : List Line) → (Passes l → Passes m) → AllPass (ls ++ l ∷ ks) → AllPass (ls ++ m ∷ ks)
swap [] l m ks f (and h t) = and (f h) t
swap (k ∷ ls) l m ks f (and h t) = and h (swap ls l m ks f t)

list_same {ℓ} : {A : Type ℓ} (n : ℕ) (f g : ℕ → List A) → ((i : ℕ) → i < n → f i ≡ g i) → list_below n f ≡ list_below n g
unfolding list_below
list_same zero f g e = refl
list_same {A} (suc n) f g e = ap₂ (λ (a b : List A). a ++ b) (list_same n f g (λ i h. e i (omega arith))) (e n (lt-suc_self n))

module _ (M : Machine) where
  -- row b holds a next state of row a, one cycle later
  abbrev succeeds : Row M → Row M → Bool
  succeeds a b = eqb (suc a.cycle) b.cycle && any_below M.words (λ w. M.same (M.next a.state a.step w) b.state)

  -- the table's lines 17 and 18 for a row, and its line 19
  abbrev row_lines : Table M → ℕ → List Line
  row_lines table i =
      line_at 17 (suc i) (M.complete (table.row (suc i)).state || not (follows M table (suc i)))
      ∷ line_at 18 (suc i) (not (M.legal (table.row (suc i)).state (table.row (suc i)).step))
      ∷ []

  abbrev closed_line : Table M → Line
  closed_line table =
      line 19 (suc table.rows)
      (λ p. not (cond (eqb p 0) (M.complete M.start || has_row M table 1 M.start) (continues M table p)))

  -- the last of n rows
  last_same : (n : ℕ) (f g : ℕ → Row M) → ((i : ℕ) → i < n → f (suc i) ≡ g (suc i))
      → cond (eqb n 0) 0 (f n).cycle ≡ cond (eqb n 0) 0 (g n).cycle
  last_same zero f g e = refl
  last_same (suc n) f g e = ap (λ (r : Row M). cond (eqb (suc n) 0) 0 r.cycle) (e n (lt-suc_self n))

  -- two tables that differ at most outside their rows
  module _ (cycles rows : ℕ) (f g : ℕ → Row M) (e : (i : ℕ) → i < rows → f (suc i) ≡ g (suc i)) where
    abbrev A : Table M
    A = record { cycles = cycles; rows = rows; row = f }

    abbrev B : Table M
    B = record { cycles = cycles; rows = rows; row = g }

    rises-same : (p : ℕ) → p < suc rows → ltb 1 p && not (rises M (f (p - 1)) (f p)) ≡ ltb 1 p && not (rises M (g (p - 1)) (g p))
    rises-same zero h = refl
    rises-same (suc zero) h = refl
    rises-same (suc (suc i)) h =
        ap₂ (λ (r s : Row M). ltb 1 (suc (suc i)) && not (rises M r s))
        (subst (λ (k : ℕ). f k ≡ g k) (omega arith) (e i (omega arith))) (e (suc i) (omega arith))

    order_same : Passes (order_line M A) → Passes (order_line M B)
    unfolding order_line
    order_same = line_same 16 (suc rows) (order_line M A).fault (order_line M B).fault rises-same

    has_same : (t : ℕ) (s : M.State) → has_row M A t s ≡ has_row M B t s
    unfolding has_row stands_at
    has_same t s =
        any_same rows (λ i. stands_at M A t s (suc i)) (λ i. stands_at M B t s (suc i)) (λ i h.
        ap (λ (r : Row M). eqb r.cycle t && M.same r.state s) (e i h))

    follows_same : (i : ℕ) → i < rows → follows M A (suc i) ≡ follows M B (suc i)
    unfolding follows
    follows_same i h =
        ap (λ (r : Row M). (eqb r.cycle 1 && M.same M.start r.state) || any_below rows (λ k. succeeds (f (suc k)) r)) (e i h)
        ∙ ap (λ (b : Bool). (eqb (g (suc i)).cycle 1 && M.same M.start (g (suc i)).state) || b)
        (any_same rows (λ k. succeeds (f (suc k)) (g (suc i))) (λ k. succeeds (g (suc k)) (g (suc i)))
        (λ k l. ap (λ (r : Row M). succeeds r (g (suc i))) (e k l)))

    continues-same : (i : ℕ) → i < rows → continues M A (suc i) ≡ continues M B (suc i)
    unfolding continues
    continues-same i h =
        ap (λ (r : Row M). all_below M.words (λ w. goes_on A r (M.next r.state r.step w))) (e i h)
        ∙ all_same M.words (λ w. goes_on A (g (suc i)) (next w)) (λ w. goes_on B (g (suc i)) (next w))
        (λ w k. ap (λ (b : Bool). M.complete (next w) || b) (has_same (suc (g (suc i)).cycle) (next w)))
      where
        goes_on : Table M → Row M → M.State → Bool
        goes_on table r s = M.complete s || has_row M table (suc r.cycle) s

        next : ℕ → M.State
        next w = M.next (g (suc i)).state (g (suc i)).step w

    closed_same : (p : ℕ) → p < suc rows → (closed_line A).fault p ≡ (closed_line B).fault p
    closed_same zero h = ap (λ (b : Bool). not (M.complete M.start || b)) (has_same 1 M.start)
    closed_same (suc i) h =
        ap₂ (λ (b c : Bool). not (cond (eqb (suc i) 0) (M.complete M.start || b) c)) (has_same 1 M.start) (continues-same i (omega arith))

    row_same : (i : ℕ) → i < rows → row_lines A i ≡ row_lines B i
    row_same i h =
        ap₂ (λ (r : Row M) (b : Bool). line_at 17 (suc i) (M.complete r.state || not b)
        ∷ line_at 18 (suc i) (not (M.legal r.state r.step))
        ∷ []) (e i h) (follows_same i h)

    lines_same : AllPass (sound_lines M A) → AllPass (sound_lines M B)
    unfolding sound_lines last_cycle
    lines_same h =
        subst AllPass (ap₂ (λ (ls : List Line) (n : ℕ). ls ++ closed_line B ∷ placeless 20 (not (eqb cycles n)) ∷ [])
        (list_same rows (row_lines A) (row_lines B) row_same) (last_same rows f g e))
        (swap (list_below rows (row_lines A)) (closed_line A) (closed_line B) (placeless 20 (not (eqb cycles (last_cycle M A))) ∷ [])
        (line_same 19 (suc rows) (closed_line A).fault (closed_line B).fault closed_same) h)

module _ (M : Machine) (A B : Table M) (cycles : A.cycles ≡ B.cycles) (rows : A.rows ≡ B.rows)
    (row : (p : ℕ) → 0 < p → p ≤ A.rows → A.row p ≡ B.row p) where
  -- the second table, with the first one's counts
  counted : record { cycles = A.cycles; rows = A.rows; row = B.row } ≡ B
  counted = λ i. record { cycles = cycles i; rows = rows i; row = B.row }

  agree : (i : ℕ) → i < A.rows → A.row (suc i) ≡ B.row (suc i)
  agree i h = row (suc i) (omega arith) h

  pub order_view : Passes (order_line M A) → Passes (order_line M B)
  order_view h =
      subst (λ (t : Table M). Passes (order_line M t)) counted (order_same M A.cycles A.rows A.row B.row agree h)

  pub lines_view : AllPass (sound_lines M A) → AllPass (sound_lines M B)
  lines_view h =
      subst (λ (t : Table M). AllPass (sound_lines M t)) counted (lines_same M A.cycles A.rows A.row B.row agree h)
