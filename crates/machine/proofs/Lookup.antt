-- Looking a row up in a table by cycle and state. Assumes nothing.
use Prim.Native.Nat.{ℕ, zero, suc, ◌≤◌, ◌<◌}
use native.Mathlib.Nat.{zero-lt-suc, lt_irrefl}
use mathlib.Core.Path.{◌≡◌, refl, subst}
use lib.Dec.{T, eqb, eqb→eq, eqb_refl}
use Rattle.machine.specs.Sets.{first_below}
use Rattle.machine.specs.Machine.{Machine}
use Rattle.machine.specs.Tables.{Table, stands_at, has_row, prescribed}
use Rattle.machine.proofs.Truth.{and_left, and_right, both, true_of}
use Rattle.machine.proofs.Sets.{any_at, any_of, first_some}
use Rattle.machine.proofs.Lawful.{Lawful}

module _ (M : Machine) (L : Lawful M) (table : Table M) where
  -- p is the number of a row
  abbrev pub IsRow : ℕ → Type 0
  IsRow p = (zero < p) × (p ≤ table.rows)

  -- a row at cycle t with state s
  pub record RowAt (t : ℕ) (s : M.State) : Type 0 where
    pub place : ℕ
    pub within : IsRow place
    pub at-cycle : (table.row place).cycle ≡ t
    pub at-state : (table.row place).state ≡ s

  stands_row : (t : ℕ) (s : M.State) (i : ℕ) → i < table.rows → T (stands_at M table t s (suc i)) → RowAt t s
  unfolding stands_at
  stands_row t s i h b =
      let r = table.row (suc i) in
      record {
        place = suc i;
        within = (zero-lt-suc i, h);
        at-cycle = eqb→eq r.cycle t (and_left (eqb r.cycle t) (M.same r.state s) b);
        at-state = L.same-eq r.state s (and_right (eqb r.cycle t) (M.same r.state s) b);
      }

  row_stands : (t : ℕ) (s : M.State) (p : ℕ) → (table.row p).cycle ≡ t → (table.row p).state ≡ s → T (stands_at M table t s p)
  unfolding stands_at
  row_stands t s p c e =
      let r = table.row p in
      both (eqb r.cycle t) (M.same r.state s) (subst (λ (u : ℕ). T (eqb r.cycle u)) c (eqb_refl r.cycle))
      (subst (λ (u : M.State). T (M.same r.state u)) e (L.eq-same r.state))

  pub has-row-at : (t : ℕ) (s : M.State) → T (has_row M table t s) → RowAt t s
  unfolding has_row
  has-row-at t s b =
      let q = any_at table.rows (λ i. stands_at M table t s (suc i)) b in stands_row t s q.0 q.1 q.2

  pub row-at-has : {t : ℕ} {s : M.State} → RowAt t s → T (has_row M table t s)
  unfolding has_row
  row-at-has {t} {s} r = place r.place r.within r.at-cycle r.at-state
    where
      place : (p : ℕ) → IsRow p → (table.row p).cycle ≡ t → (table.row p).state ≡ s → T (has_row M table t s)
      place zero h c e = absurd (lt_irrefl zero h.0)
      place (suc i) h c e = any_of table.rows (λ j. stands_at M table t s (suc j)) i h.1 (row_stands t s (suc i) c e)

  -- where there is a row, the step prescribed is that of such a row
  first-row : (t : ℕ) (s : M.State) → T (has_row M table t s) → RowAt t s
  unfolding has_row
  first-row t s b =
      let f = first_some table.rows (λ i. stands_at M table t s (suc i)) b in
      stands_row t s (first_below table.rows (λ i. stands_at M table t s (suc i))) f.below f.holds

  first_step : (t : ℕ) (s : M.State) (b : T (has_row M table t s)) → prescribed M table t s ≡ (table.row (first-row t s b).place).step
  unfolding prescribed first-row stands_row
  first_step t s b = rw (true_of (has_row M table t s) b) refl

  pub prescribed-at : (t : ℕ) (s : M.State) → T (has_row M table t s) → (r : RowAt t s) × (prescribed M table t s ≡ (table.row r.place).step)
  prescribed-at t s b = (first-row t s b, first_step t s b)
