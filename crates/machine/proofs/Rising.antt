-- Lists of rows that rise, and the schedule's rows: which they are, that they rise, and how many. Assumes nothing.
use Prim.Native.Nat.{ℕ, zero, suc, ◌-◌, ◌*◌, ◌≤◌, ◌<◌, zero-le, suc-le-suc}
use native.Mathlib.Nat.{not-suc-le-zero, zero-lt-suc, le_of_suc-le-suc, le_refl, mul-one}
use native.Mathlib.Omega.{arith}
use mathlib.Core.Path.{◌≡◌, refl, sym, subst, subst₂}
use mathlib.Core.Logic.{⊎_elim}
use mathlib.Core.Bool.{Bool, true, false, cond, not, ◌&&◌}
use mathlib.Core.List.{List, [], ◌∷◌, ◌++◌, Memᴰ}
use lib.ListN.{length, get_or}
use lib.Dec.{T, eqb, ltb, eqb→eq, eqb_refl, ltb→lt, lt→ltb}
use Rattle.machine.specs.Sets.{list_below}
use Rattle.machine.specs.Machine.{Machine, remaining, best, run}
use Rattle.machine.specs.Tables.{Row, Table, rises, order_line, schedule_rows}
use Rattle.machine.proofs.Truth.{and_left, both, or_left, or_right, true_of, and-not, not-not_intro}
use Rattle.machine.proofs.Sets.{mem-list, list-mem, list_length}
use Rattle.machine.proofs.Refusals.{Passes}
use Rattle.machine.proofs.Lawful.{Lawful}

-- what stands where a table has no row
abbrev pub no_row : (M : Machine) → Row M
no_row M = record { cycle = 0; state = M.start; step = 0 }

-- the table of a number of cycles and a list of rows
unfoldable pub table_of : (M : Machine) → ℕ → List (Row M) → Table M
table_of M cycles l = record { cycles = cycles; rows = length l; row = λ p. get_or l (p - 1) (no_row M) }

module _ (M : Machine) (L : Lawful M) where
  -- every row is below every later one
  pub data Rising : List (Row M) → Type 0 where
    none : Rising []
    first : {r : Row M} {rs : List (Row M)} → ((q : Row M) → Memᴰ q rs → T (rises M r q)) → Rising rs → Rising (r ∷ rs)

  rising_append : {l m : List (Row M)} → Rising l → Rising m
      → ((a b : Row M) → Memᴰ a l → Memᴰ b m → T (rises M a b)) → Rising (l ++ m)
  rising_append none k h = k
  rising_append {m = m} (first {r = r} {rs = rs} f j) k h =
      first (λ q i. ⊎_elim (λ (u : Memᴰ q rs). f q u) (λ (v : Memᴰ q m). h r q (mathlib.Core.List.Memᴰ.head refl) v) (mathlib.Core.List.Memᴰ.append_cases rs i))
      (rising_append j k (λ a b u v. h a b (mathlib.Core.List.Memᴰ.tail u) v))

  pub mem-at : (l : List (Row M)) (i : ℕ) (d : Row M) → i < length l → Memᴰ (get_or l i d) l
  mem-at [] i d h = absurd (not-suc-le-zero h)
  mem-at (r ∷ rs) zero d h = mathlib.Core.List.Memᴰ.head refl
  mem-at (r ∷ rs) (suc i) d h = mathlib.Core.List.Memᴰ.tail (mem-at rs i d (le_of_suc-le-suc h))

  -- a member stands somewhere
  pub at_mem : (l : List (Row M)) (d r : Row M) → Memᴰ r l → (i : ℕ) × (i < length l) × (get_or l i d ≡ r)
  at_mem [] d r m = absurd (mathlib.Core.List.Memᴰ.not-nil m)
  at_mem (a ∷ l) d r m =
      ⊎_elim (λ (e : r ≡ a). (zero, zero-lt-suc (length l), sym e))
      (λ (k : Memᴰ r l). let q = at_mem l d r k in (suc q.0, suc-le-suc q.1, q.2)) (mathlib.Core.List.Memᴰ.cases_cons m)

  rising_at : {l : List (Row M)} → Rising l → (d : Row M) (i j : ℕ) → i < j → j < length l → T (rises M (get_or l i d) (get_or l j d))
  rising_at none d i j h k = absurd (not-suc-le-zero k)
  rising_at (first {rs = rs} f r) d i zero h k = absurd (not-suc-le-zero h)
  rising_at (first {rs = rs} f r) d zero (suc j) h k = f (get_or rs j d) (mem-at rs j d (le_of_suc-le-suc k))
  rising_at (first {rs = rs} f r) d (suc i) (suc j) h k = rising_at r d i j (le_of_suc-le-suc h) (le_of_suc-le-suc k)

  -- a table of rising rows passes refusal 16
  pub rising_passes : (cycles : ℕ) (l : List (Row M)) → Rising l → Passes (order_line M (table_of M cycles l))
  unfolding order_line table_of
  rising_passes cycles l r p h =
      and-not (ltb 1 p) (not (rises M (table.row (p - 1)) (table.row p)))
      (λ t. not-not_intro (rises M (table.row (p - 1)) (table.row p))
      (rising_at r (no_row M) (p - 1 - 1) (p - 1) (omega (arith, ltb→lt 1 p t)) (omega (arith, ltb→lt 1 p t))))
    where
      table : Table M
      table = table_of M cycles l

  -- The state that the schedule meets after t cycles on the word w, and its row.
  unfoldable pub scheduled : ℕ → ℕ → M.State
  scheduled t w = run M (λ u r. best M r) t w

  unfoldable pub scheduled_row : ℕ → ℕ → Row M
  scheduled_row t w = record { cycle = suc t; state = scheduled t w; step = best M (scheduled t w) }

  -- the word is the one that is resolved in the state, and the state is unfinished
  unfoldable pub shows : ℕ → ℕ → Bool
  shows t w = eqb (M.word (scheduled t w)) w && not (M.complete (scheduled t w))

  row_at : ℕ → ℕ → List (Row M)
  row_at t w = cond (shows t w) (scheduled_row t w ∷ []) []

  rows_at : ℕ → List (Row M)
  rows_at t = list_below M.words (row_at t)

  rows_are : schedule_rows M ≡ list_below (remaining M M.start) rows_at
  unfolding schedule_rows rows_at row_at shows scheduled_row scheduled
  rows_are = refl

  in_row : (t w : ℕ) (r : Row M) → Memᴰ r (row_at t w) → T (shows t w) × (r ≡ scheduled_row t w)
  unfolding row_at
  in_row t w r m = go (shows t w) m
    where
      go : (b : Bool) → Memᴰ r (cond b (scheduled_row t w ∷ []) []) → T b × (r ≡ scheduled_row t w)
      go true k = (tt, mathlib.Core.List.Memᴰ.eq_of_singleton k)
      go false k = absurd (mathlib.Core.List.Memᴰ.not-nil k)

  row_in : (t w : ℕ) → T (shows t w) → Memᴰ (scheduled_row t w) (row_at t w)
  unfolding row_at
  row_in t w h = rw (true_of (shows t w) h) (mathlib.Core.List.Memᴰ.head refl)

  -- the rows are those of the unfinished states met, each for the word that is resolved in it
  pub row_of : (r : Row M) → Memᴰ r (schedule_rows M)
      → (t : ℕ) × (w : ℕ) × (t < remaining M M.start) × (w < M.words) × T (shows t w) × (r ≡ scheduled_row t w)
  unfolding rows_at
  row_of r m =
      let a = mem-list (remaining M M.start) rows_at r (subst (λ (l : List (Row M)). Memᴰ r l) rows_are m) in
      let b = mem-list M.words (row_at a.0) r a.2 in
      let c = in_row a.0 b.0 r b.2 in
      (a.0, b.0, a.1, b.1, c.0, c.1)

  pub of_row : (t w : ℕ) → t < remaining M M.start → w < M.words → T (shows t w) → Memᴰ (scheduled_row t w) (schedule_rows M)
  unfolding rows_at
  of_row t w h k s =
      subst (λ (l : List (Row M)). Memᴰ (scheduled_row t w) l) (sym rows_are)
      (list-mem (remaining M M.start) rows_at (scheduled_row t w) t h
      (list-mem M.words (row_at t) (scheduled_row t w) w k (row_in t w s)))

  -- rows of one cycle rise by their words, rows of different cycles by their cycles
  rising_row : (t w : ℕ) → Rising (row_at t w)
  unfolding row_at
  rising_row t w = go (shows t w)
    where
      go : (b : Bool) → Rising (cond b (scheduled_row t w ∷ []) [])
      go true = first (λ q m. absurd (mathlib.Core.List.Memᴰ.not-nil m)) none
      go false = none

  word-rises : (t v w : ℕ) → T (shows t v) → T (shows t w) → v < w → T (rises M (scheduled_row t v) (scheduled_row t w))
  unfolding rises scheduled_row shows
  word-rises t v w a b h =
      or_right (ltb (suc t) (suc t)) (eqb (suc t) (suc t) && M.before (scheduled t v) (scheduled t w))
      (both (eqb (suc t) (suc t)) (M.before (scheduled t v) (scheduled t w)) (eqb_refl (suc t))
      (L.before-word (scheduled t v) (scheduled t w) (omega (arith, h, word-is v a, word-is w b))))
    where
      word-is : (u : ℕ) → T (shows t u) → M.word (scheduled t u) ≡ u
      word-is u k = eqb→eq (M.word (scheduled t u)) u (and_left (eqb (M.word (scheduled t u)) u) (not (M.complete (scheduled t u))) k)

  rising_words : (t n : ℕ) → Rising (list_below n (row_at t))
  unfolding list_below
  rising_words t zero = none
  rising_words t (suc n) = rising_append (rising_words t n) (rising_row t n) above
    where
      above : (a b : Row M) → Memᴰ a (list_below n (row_at t)) → Memᴰ b (row_at t n) → T (rises M a b)
      above a b i j =
          let p = mem-list n (row_at t) a i in
          let q = in_row t p.0 a p.2 in
          let r = in_row t n b j in
          subst₂ (λ (x y : Row M). T (rises M x y)) (sym q.1) (sym r.1) (word-rises t p.0 n q.0 r.0 p.1)

  cycle-rises : (t u v w : ℕ) → t < u → T (rises M (scheduled_row t v) (scheduled_row u w))
  unfolding rises scheduled_row
  cycle-rises t u v w h = or_left (ltb (suc t) (suc u)) _ (lt→ltb (suc t) (suc u) (omega arith))

  rising_cycles : (n : ℕ) → Rising (list_below n rows_at)
  unfolding list_below rows_at
  rising_cycles zero = none
  rising_cycles (suc n) = rising_append (rising_cycles n) (here n) above
    where
      here : (t : ℕ) → Rising (rows_at t)
      here t = rising_words t M.words

      above : (a b : Row M) → Memᴰ a (list_below n rows_at) → Memᴰ b (rows_at n) → T (rises M a b)
      above a b i j =
          let p = mem-list n rows_at a i in
          let q = mem-list M.words (row_at p.0) a p.2 in
          let r = mem-list M.words (row_at n) b j in
          subst₂ (λ (x y : Row M). T (rises M x y)) (sym (in_row p.0 q.0 a q.2).1) (sym (in_row n r.0 b r.2).1)
          (cycle-rises p.0 n q.0 r.0 p.1)

  pub schedule_rising : Rising (schedule_rows M)
  schedule_rising = subst Rising (sym rows_are) (rising_cycles (remaining M M.start))

  -- at most a row for each cycle and word
  pub schedule-length : length (schedule_rows M) ≤ remaining M M.start * M.words
  unfolding rows_at row_at
  schedule-length =
      subst (λ (l : List (Row M)). length l ≤ remaining M M.start * M.words) (sym rows_are)
      (list_length (remaining M M.start) M.words rows_at (λ t h.
      subst (λ (k : ℕ). length (rows_at t) ≤ k) (mul-one M.words)
      (list_length M.words 1 (row_at t) (λ w k. one (shows t w) (scheduled_row t w)))))
    where
      one : (b : Bool) (r : Row M) → length (cond b (r ∷ []) []) ≤ 1
      one true r = le_refl 1
      one false r = zero-le
