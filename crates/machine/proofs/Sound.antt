-- The checker accepts exactly the sound tables: a table whose rows rise passes refusals 17 to 20 just when it is sound.
-- Assumes nothing.
use Prim.Native.Nat.{ℕ, zero, suc, ◌-◌, ◌≤◌, ◌<◌, zero-le}
use native.Mathlib.Nat.{not-suc-le-zero, zero-lt-suc, lt-suc_self, lt_irrefl, le_refl, le_of_eq, le_antisymm, eq-or-lt_of_le}
use native.Mathlib.Omega.{arith}
use mathlib.Core.Path.{◌≡◌, refl, sym, ◌∙◌, ap, ap₂, subst, subst₂}
use mathlib.Core.Logic.{◌⊎◌, inl, inr, ⊎_elim, ◌↔◌}
use mathlib.Core.Bool.{Bool, false, cond, not, ◌||◌}
use mathlib.Core.List.{List, [], ◌∷◌}
use lib.Dec.{T, eqb, eqb_refl}
use borrow.Author.Tests.{eq-eqb, ne_eqb}
use Rattle.machine.specs.Sets.{list_below}
use Rattle.machine.specs.Refusals.{Line, line, line_at, placeless}
use Rattle.machine.specs.Machine.{Machine, run}
use Rattle.machine.specs.Tables.{Row, Table, rises, has_row, prescribed, follows, continues, last_cycle, order_line, sound_lines, Sound}
use Rattle.machine.proofs.Truth.{or_left, or_right, not-and, and-not, decided, contrary, false_of, of_false}
use Rattle.machine.proofs.Sets.{below-cases, le-or-lt, trichotomy}
use Rattle.machine.proofs.Says.{Says, Denies, says_test, denies_test, says_ltb, says_eqb, denies_not, says_and, says_or, denies_or, denies_and, says_all, says_any}
use Rattle.machine.proofs.Refusals.{Passes, AllPass, none, and, pass_append}
use Rattle.machine.proofs.Lawful.{Lawful}
use Rattle.machine.proofs.Runs.{run-clock, run_ended_after, run-unfinished-before, branch, run-legal}
use Rattle.machine.proofs.Lookup.{IsRow, RowAt, has-row-at, row-at-has, prescribed-at}

-- Refusal tables that are put together from the tables of places, and lines that look at one place.
pass_list-at : (n : ℕ) (f : ℕ → List Line) → AllPass (list_below n f) → (i : ℕ) → i < n → AllPass (f i)
unfolding list_below
pass_list-at zero f a i h = absurd (not-suc-le-zero h)
pass_list-at (suc n) f a i h =
    let r = (pass_append (list_below n f) (f n)).0 a in
    ⊎_elim (pass_list-at n f r.0 i) (λ (e : i ≡ n). subst (λ (k : ℕ). AllPass (f k)) (sym e) r.1) (below-cases h)

pass_list_of : (n : ℕ) (f : ℕ → List Line) → ((i : ℕ) → i < n → AllPass (f i)) → AllPass (list_below n f)
unfolding list_below
pass_list_of zero f h = none
pass_list_of (suc n) f h =
    (pass_append (list_below n f) (f n)).1 (pass_list_of n f (λ i l. h i (omega arith)), h n (lt-suc_self n))

pass_line-at : {b : Bool} {P : Type 0} (k p : ℕ) → Denies b P → Passes (line_at k p b) ↔ P
pass_line-at {b} k p d =
    (λ h. d.to (not-and (eqb p p) b (h p (lt-suc_self p)) (eqb_refl p)), λ x q h. and-not (eqb q p) b (λ e. d.from x))

-- The order of rows.
module _ (M : Machine) (L : Lawful M) where
  abbrev Rises : Row M → Row M → Type 0
  Rises a b = (a.cycle < b.cycle) ⊎ ((a.cycle ≡ b.cycle) × T (M.before a.state b.state))

  says_rises : (a b : Row M) → Says (rises M a b) (Rises a b)
  unfolding rises
  says_rises a b = says_or (says_ltb a.cycle b.cycle) (says_and (says_eqb a.cycle b.cycle) (says_test (M.before a.state b.state)))

  rises-cycle : (a b : Row M) → T (rises M a b) → a.cycle ≤ b.cycle
  rises-cycle a b r = risen ((says_rises a b).to r)
    where
      risen : Rises a b → a.cycle ≤ b.cycle
      risen (inl h) = omega arith
      risen (inr h) = omega arith

  rises_trans : (a b c : Row M) → T (rises M a b) → T (rises M b c) → T (rises M a c)
  rises_trans a b c r q = (says_rises a c).from (joined ((says_rises a b).to r) ((says_rises b c).to q))
    where
      joined : Rises a b → Rises b c → Rises a c
      joined (inl h) (inl k) = inl (omega arith)
      joined (inl h) (inr k) = inl (omega arith)
      joined (inr h) (inl k) = inl (omega arith)
      joined (inr h) (inr k) = inr (h.0 ∙ k.0, L.before_trans a.state b.state c.state h.1 k.1)

  rises-apart : (a b : Row M) → T (rises M a b) → a.cycle ≡ b.cycle → a.state ≡ b.state → ⊥
  rises-apart a b r c s = apart ((says_rises a b).to r)
    where
      apart : Rises a b → ⊥
      apart (inl h) = omega arith
      apart (inr h) =
          contrary (M.before a.state a.state) (subst (λ (u : M.State). T (M.before a.state u)) (sym s) h.1) (L.before-not a.state)

module _ (M : Machine) (L : Lawful M) (table : Table M) where
  -- p is the number of a row; its cycle, state and step, and its next state on the word w
  abbrev pub InTable : ℕ → Type 0
  InTable = IsRow M L table

  abbrev pub cycle_of : ℕ → ℕ
  cycle_of p = (table.row p).cycle

  abbrev pub state_of : ℕ → M.State
  state_of p = (table.row p).state

  abbrev pub step_of : ℕ → ℕ
  step_of p = (table.row p).step

  abbrev pub next_of : ℕ → ℕ → M.State
  next_of p w = M.next (state_of p) (step_of p) w

  -- a row at cycle t with state s
  abbrev pub At : ℕ → M.State → Type 0
  At = RowAt M L table

  -- the state s is complete or has a row at cycle t
  abbrev pub Covered : ℕ → M.State → Type 0
  Covered t s = T (M.complete s) ⊎ At t s

  -- row p is the start at cycle 1, or a next state of a row suc i one cycle earlier
  abbrev pub Follows : ℕ → Type 0
  Follows p =
      ((cycle_of p ≡ 1) × (M.start ≡ state_of p))
      ⊎ ((i : ℕ) × (i < table.rows) × ((suc (cycle_of (suc i)) ≡ cycle_of p) × ((w : ℕ) × (w < M.words) × (next_of (suc i) w ≡ state_of p))))

  -- What refusals 17 to 20 leave, in plain words.
  pub record Facts : Type 0 where
    pub unfinished : (p : ℕ) → InTable p → T (not (M.complete (state_of p)))
    pub following : (p : ℕ) → InTable p → Follows p
    pub lawful : (p : ℕ) → InTable p → T (M.legal (state_of p) (step_of p))
    pub started : Covered 1 M.start
    pub continued : (p : ℕ) → InTable p → (w : ℕ) → w < M.words → Covered (suc (cycle_of p)) (next_of p w)
    pub counted : table.cycles ≡ last_cycle M table

  -- the tests, read so
  says_same : (r s : M.State) → Says (M.same r s) (r ≡ s)
  says_same r s = record { to = L.same-eq r s; from = λ e. subst (λ (u : M.State). T (M.same r u)) e (L.eq-same r) }

  says_covered : (t : ℕ) (s : M.State) → Says (M.complete s || has_row M table t s) (Covered t s)
  says_covered t s =
      says_or (says_test (M.complete s))
      (record { to = has-row-at M L table t s; from = row-at-has M L table })

  says_follows : (p : ℕ) → Says (follows M table p) (Follows p)
  unfolding follows
  says_follows p =
      says_or (says_and (says_eqb (cycle_of p) 1) (says_same M.start (state_of p)))
      (says_any (λ i. says_and (says_eqb (suc (cycle_of (suc i))) (cycle_of p)) (says_any (λ w. says_same (next_of (suc i) w) (state_of p)))))

  says_continues : (p : ℕ) → Says (continues M table p) ((w : ℕ) → w < M.words → Covered (suc (cycle_of p)) (next_of p w))
  unfolding continues
  says_continues p = says_all (λ w. says_covered (suc (cycle_of p)) (next_of p w))

  -- the lines: 17 and 18 of row p, 19 and 20 of the table
  abbrev row_lines : ℕ → List Line
  row_lines p =
      line_at 17 p (M.complete (state_of p) || not (follows M table p))
      ∷ line_at 18 p (not (M.legal (state_of p) (step_of p))) ∷ []

  row_lines_lem : (p : ℕ) → AllPass (row_lines p) ↔ (T (not (M.complete (state_of p))) × Follows p × T (M.legal (state_of p) (step_of p)))
  row_lines_lem p = (to, λ r. and (seventeen.1 (r.0, r.1)) (and (eighteen.1 r.2) none))
    where
      seventeen : Passes (line_at 17 p (M.complete (state_of p) || not (follows M table p))) ↔ (T (not (M.complete (state_of p))) × Follows p)
      seventeen = pass_line-at 17 p (denies_or (denies_test (M.complete (state_of p))) (denies_not (says_follows p)))

      eighteen : Passes (line_at 18 p (not (M.legal (state_of p) (step_of p)))) ↔ T (M.legal (state_of p) (step_of p))
      eighteen = pass_line-at 18 p (denies_not (says_test (M.legal (state_of p) (step_of p))))

      to : AllPass (row_lines p) → T (not (M.complete (state_of p))) × Follows p × T (M.legal (state_of p) (step_of p))
      to (and a (and b none)) = let u = seventeen.0 a in (u.0, u.1, eighteen.0 b)

  abbrev all_row_lines : List Line
  all_row_lines = list_below table.rows (λ i. row_lines (suc i))

  abbrev goes_on : ℕ → Bool
  goes_on p = cond (eqb p 0) (M.complete M.start || has_row M table 1 M.start) (continues M table p)

  goes_on_lem : (p : ℕ) → zero < p → goes_on p ≡ continues M table p
  goes_on_lem p h = rw (ne_eqb p 0 (λ e. omega arith)) refl

  abbrev last_lines : List Line
  last_lines =
      line 19 (suc table.rows) (λ p. not (goes_on p))
      ∷ placeless 20 (not (eqb table.cycles (last_cycle M table))) ∷ []

  twenty : Denies (not (eqb table.cycles (last_cycle M table))) (table.cycles ≡ last_cycle M table)
  twenty = denies_not (says_eqb table.cycles (last_cycle M table))

  pub lines_facts : AllPass (sound_lines M table) → Facts
  unfolding sound_lines
  lines_facts a = facts parts.1
    where
      parts : AllPass all_row_lines × AllPass last_lines
      parts = (pass_append all_row_lines last_lines).0 a

      rows : (p : ℕ) → InTable p → T (not (M.complete (state_of p))) × Follows p × T (M.legal (state_of p) (step_of p))
      rows zero h = absurd (lt_irrefl 0 h.0)
      rows (suc i) h = (row_lines_lem (suc i)).0 (pass_list-at table.rows (λ i. row_lines (suc i)) parts.0 i h.1)

      facts : AllPass last_lines → Facts
      facts (and b (and c none)) = record {
        unfinished = λ p h. (rows p h).0;
        following = λ p h. (rows p h).1;
        lawful = λ p h. (rows p h).2;
        started = (says_covered 1 M.start).to (on 0 (zero-lt-suc table.rows));
        continued = λ p h. (says_continues p).to (subst T (goes_on_lem p h.0) (on p (omega arith)));
        counted = twenty.to (c 0 (lt-suc_self 0));
      }
        where
          on : (p : ℕ) → p < suc table.rows → T (goes_on p)
          on p h = (denies_not (says_test (goes_on p))).to (b p h)

  pub facts_lines : Facts → AllPass (sound_lines M table)
  unfolding sound_lines
  facts_lines f =
      (pass_append all_row_lines last_lines).1
      (pass_list_of table.rows (λ i. row_lines (suc i)) rows, and nineteen (and (λ p h. twenty.from f.counted) none))
    where
      rows : (i : ℕ) → i < table.rows → AllPass (row_lines (suc i))
      rows i h =
          let r : InTable (suc i) = (zero-lt-suc i, h) in
          (row_lines_lem (suc i)).1 (f.unfinished (suc i) r, f.following (suc i) r, f.lawful (suc i) r)

      on : (p : ℕ) → p < suc table.rows → T (goes_on p)
      on zero h = (says_covered 1 M.start).from f.started
      on (suc i) h = subst T (sym (goes_on_lem (suc i) (zero-lt-suc i))) ((says_continues (suc i)).from (f.continued (suc i) (omega arith)))

      nineteen : Passes (line 19 (suc table.rows) (λ p. not (goes_on p)))
      nineteen p h = (denies_not (says_test (goes_on p))).from (on p h)

  -- the last row's cycle
  last_none : table.rows ≡ 0 → last_cycle M table ≡ 0
  unfolding last_cycle
  last_none e = rw (eq-eqb table.rows 0 e) refl

  last_row : zero < table.rows → last_cycle M table ≡ cycle_of table.rows
  unfolding last_cycle
  last_row h = rw (ne_eqb table.rows 0 (λ e. omega arith)) refl

  -- Some word meets the state s after t cycles of the run that the table prescribes; row p stands where such a run has got to.
  abbrev run_of : ℕ → ℕ → M.State
  run_of = run M (prescribed M table)

  abbrev Reached : ℕ → M.State → Type 0
  Reached t s = (w : ℕ) × (w < M.words) × (s ≡ run_of t w)

  record MetAt (p : ℕ) : Type 0 where
    time : ℕ
    word : ℕ
    below : word < M.words
    cycle : cycle_of p ≡ suc time
    state : state_of p ≡ run_of time word

  abbrev row_of : (p : ℕ) → InTable p → (m : MetAt p) → At (suc m.time) (run_of m.time m.word)
  row_of p h m = record { place = p; within = h; at-cycle = m.cycle; at-state = m.state }

  met-unfinished : {p : ℕ} → T (not (M.complete (state_of p))) → (m : MetAt p) → T (not (M.complete (run_of m.time m.word)))
  met-unfinished n m = subst (λ (s : M.State). T (not (M.complete s))) m.state n

  -- Refusal 16 passed: the rows rise.
  module _ (ordered : Passes (order_line M table)) where
    next-rises : (p : ℕ) → zero < p → p < table.rows → T (rises M (table.row p) (table.row (suc p)))
    unfolding order_line
    next-rises p h k =
        subst (λ (q : ℕ). T (rises M (table.row q) (table.row (suc p)))) (omega arith)
        ((denies_and (says_ltb 1 (suc p)) (denies_not (says_test above))).to (ordered (suc p) (omega arith)) (omega arith))
      where
        above : Bool
        above = rises M (table.row (suc p - 1)) (table.row (suc p))

    pub rows_rise : (p q : ℕ) → zero < p → p < q → q ≤ table.rows → T (rises M (table.row p) (table.row q))
    rows_rise p zero h l k = absurd (not-suc-le-zero l)
    rows_rise p (suc q) h l k =
        let last = next-rises q (omega arith) k in
        ⊎_elim (λ (m : p < q). rises_trans M L (table.row p) (table.row q) (table.row (suc q)) (rows_rise p q h m (omega arith)) last)
        (λ (e : p ≡ q). subst (λ (r : ℕ). T (rises M (table.row r) (table.row (suc q)))) (sym e) last) (below-cases l)

    -- rows at the same cycle with the same state are the same row
    pub row_unique : {t : ℕ} {s : M.State} (a b : At t s) → a.place ≡ b.place
    row_unique a b =
        ⊎_elim (λ (e : a.place ≡ b.place). e) (λ (h : (a.place < b.place) ⊎ (b.place < a.place)). absurd (⊎_elim (apart a b) (apart b a) h))
        (trichotomy a.place b.place)
      where
        apart : {t : ℕ} {s : M.State} (c d : At t s) → c.place < d.place → ⊥
        apart c d l =
            rises-apart M L (table.row c.place) (table.row d.place) (rows_rise c.place d.place c.within.0 l d.within.1)
            (c.at-cycle ∙ sym d.at-cycle) (c.at-state ∙ sym d.at-state)

    -- so the table prescribes the step of its row
    pub prescribed-row : {t : ℕ} {s : M.State} (r : At t s) → prescribed M table t s ≡ step_of r.place
    prescribed-row {t} {s} r =
        let f = prescribed-at M L table t s (row-at-has M L table r) in
        f.1 ∙ ap step_of (row_unique f.0 r)

    prescribed-next : {t : ℕ} {s : M.State} (r : At t s) (w : ℕ) → next_of r.place w ≡ M.next s (prescribed M table t s) w
    prescribed-next r w = ap₂ (λ (s : M.State) (x : ℕ). M.next s x w) r.at-state (sym (prescribed-row r))

    -- no row is later than the last
    row_last : (p : ℕ) → InTable p → cycle_of p ≤ last_cycle M table
    row_last p h =
        subst (λ (c : ℕ). cycle_of p ≤ c) (sym (last_row (omega arith)))
        (⊎_elim (λ (e : p ≡ table.rows). le_of_eq (ap cycle_of e))
        (λ (l : p < table.rows). rises-cycle M L (table.row p) (table.row table.rows) (rows_rise p table.rows h.0 l (le_refl table.rows)))
        (eq-or-lt_of_le h.1))

    -- From the refusals to soundness.
    module _ (facts : Facts) where
      row-unfinished : {t : ℕ} {s : M.State} → At t s → T (not (M.complete s))
      row-unfinished r = subst (λ (s : M.State). T (not (M.complete s))) r.at-state (facts.unfinished r.place r.within)

      row-legal : {t : ℕ} {s : M.State} → At t s → T (M.legal s (prescribed M table t s))
      row-legal r =
          subst₂ (λ (s : M.State) (x : ℕ). T (M.legal s x)) r.at-state (sym (prescribed-row r)) (facts.lawful r.place r.within)

      row-onward : {t : ℕ} {s : M.State} → At t s → (w : ℕ) → w < M.words → Covered (suc t) (M.next s (prescribed M table t s) w)
      row-onward r w h = subst₂ Covered (ap suc r.at-cycle) (prescribed-next r w) (facts.continued r.place r.within w h)

      -- every run that is not complete has a row
      covered : (t w : ℕ) → w < M.words → Covered (suc t) (run_of t w)
      unfolding run
      covered zero w h = facts.started
      covered (suc t) w h = ⊎_elim ended onward (covered t w h)
        where
          ended : T (M.complete (run_of t w)) → Covered (suc (suc t)) (run_of (suc t) w)
          ended c = inl (run_ended_after M L (prescribed M table) t (suc t) w (omega arith) c)

          onward : At (suc t) (run_of t w) → Covered (suc (suc t)) (run_of (suc t) w)
          onward r =
              subst (Covered (suc (suc t))) (sym (run-clock M L (prescribed M table) t w (row-unfinished r))) (row-onward r w h)

      -- and every row stands where a run has got to
      cycle-positive : (p : ℕ) → Follows p → zero < cycle_of p
      cycle-positive p (inl f) = omega arith
      cycle-positive p (inr f) = omega arith

      reached-first : (p : ℕ) → cycle_of p ≡ 1 → Follows p → Reached 0 (state_of p)
      unfolding run
      reached-first p c (inl f) = (M.word M.start, L.word-start, sym f.1)
      reached-first p c (inr f) =
          let q = suc f.0 in
          absurd (omega (arith, cycle-positive q (facts.following q (zero-lt-suc f.0, f.1))))

      reached-next : (t p : ℕ) → cycle_of p ≡ suc (suc t) → Follows p
          → ((q : ℕ) → InTable q → cycle_of q ≡ suc t → Reached t (state_of q)) → Reached (suc t) (state_of p)
      reached-next t p c (inl f) ih = absurd (omega arith)
      reached-next t p c (inr f) ih =
          let q = suc f.0 in
          let e : cycle_of q ≡ suc t = omega arith in
          let h : InTable q = (zero-lt-suc f.0, f.1) in
          let m = ih q h e in
          let r : At (suc t) (run_of t m.0) = record { place = q; within = h; at-cycle = e; at-state = m.2 } in
          let v = f.2.1 in
          let b = branch M L (prescribed M table) t m.0 (row-unfinished r) v.0 in
          (b.0, b.1, sym v.2 ∙ prescribed-next r v.0 ∙ b.2)

      reached : (t p : ℕ) → InTable p → cycle_of p ≡ suc t → Reached t (state_of p)
      reached zero p h c = reached-first p c (facts.following p h)
      reached (suc t) p h c = reached-next t p c (facts.following p h) (reached t)

      row-met : (p : ℕ) → InTable p → MetAt p
      row-met p h =
          let e : cycle_of p ≡ suc (cycle_of p - 1) = omega (arith, cycle-positive p (facts.following p h)) in
          let m = reached (cycle_of p - 1) p h e in
          record { time = cycle_of p - 1; word = m.0; below = m.1; cycle = e; state = m.2 }

      runs-legal : (w : ℕ) → w < M.words → (t : ℕ) → T (M.complete (run_of t w) || M.legal (run_of t w) (prescribed M table (suc t) (run_of t w)))
      runs-legal w h t =
          let may = M.legal (run_of t w) (prescribed M table (suc t) (run_of t w)) in
          ⊎_elim (or_left (M.complete (run_of t w)) may)
          (λ (r : At (suc t) (run_of t w)). or_right (M.complete (run_of t w)) may (row-legal r)) (covered t w h)

      rows-met : (p : ℕ) → zero < p → p ≤ table.rows
          → (t : ℕ) × (w : ℕ) × (w < M.words) × (cycle_of p ≡ suc t) × (state_of p ≡ run_of t w) × (M.complete (state_of p) ≡ false)
      rows-met p h k =
          let m = row-met p (h, k) in
          (m.time, m.word, m.below, m.cycle, m.state, false_of (M.complete (state_of p)) (facts.unfinished p (h, k)))

      runs-listed : (w : ℕ) → w < M.words → (t : ℕ) → M.complete (run_of t w) ≡ false
          → (p : ℕ) × (zero < p) × (p ≤ table.rows) × (cycle_of p ≡ suc t) × (state_of p ≡ run_of t w)
      runs-listed w h t e =
          ⊎_elim (λ (c : T (M.complete (run_of t w))). absurd (contrary (M.complete (run_of t w)) c (of_false e)))
          (λ (r : At (suc t) (run_of t w)). (r.place, r.within.0, r.within.1, r.at-cycle, r.at-state)) (covered t w h)

      cycles-enough : (w : ℕ) → w < M.words → T (M.complete (run_of table.cycles w))
      cycles-enough w h = ⊎_elim (λ (c : T (M.complete (run_of table.cycles w))). c) late (covered table.cycles w h)
        where
          late : At (suc table.cycles) (run_of table.cycles w) → T (M.complete (run_of table.cycles w))
          late r = absurd (omega (arith, row_last r.place r.within, facts.counted, r.at-cycle))

      cycles-needed : (t : ℕ) → t < table.cycles → (w : ℕ) × (w < M.words) × (M.complete (run_of t w) ≡ false)
      cycles-needed t h =
          ⊎_elim (λ (e : 0 ≡ table.rows). absurd (omega (arith, last_none (sym e), facts.counted))) from_last (eq-or-lt_of_le zero-le)
        where
          from_last : zero < table.rows → (w : ℕ) × (w < M.words) × (M.complete (run_of t w) ≡ false)
          from_last k =
              let last : InTable table.rows = (k, le_refl table.rows) in
              let m = row-met table.rows last in
              let early : t ≤ m.time = omega (arith, last_row k, facts.counted, m.cycle) in (
                m.word,
                m.below,
                false_of (M.complete (run_of t m.word))
                    (run-unfinished-before M L (prescribed M table) t m.time m.word early (met-unfinished (facts.unfinished table.rows last) m)),
              )

      facts-sound : Sound M table
      facts-sound = record {
        legal = runs-legal;
        ends = λ w h. (table.cycles, cycles-enough w h);
        met = rows-met;
        listed = runs-listed;
        enough = cycles-enough;
        needed = cycles-needed;
      }

    -- From soundness to the refusals.
    module _ (sound : Sound M table) where
      sound-met : (p : ℕ) → InTable p → MetAt p
      sound-met p h =
          let m = sound.met p h.0 h.1 in
          record { time = m.0; word = m.1; below = m.2; cycle = m.3; state = m.4 }

      sound-unfinished : (p : ℕ) → InTable p → T (not (M.complete (state_of p)))
      sound-unfinished p h = of_false (sound.met p h.0 h.1).5

      sound-row : (t w : ℕ) → w < M.words → T (not (M.complete (run_of t w))) → At (suc t) (run_of t w)
      sound-row t w h n =
          let r = sound.listed w h t (false_of (M.complete (run_of t w)) n) in
          record { place = r.0; within = (r.1, r.2); at-cycle = r.3; at-state = r.4 }

      sound-covered : (t w : ℕ) → w < M.words → Covered (suc t) (run_of t w)
      sound-covered t w h =
          ⊎_elim (λ (c : T (M.complete (run_of t w))). inl c) (λ (n : T (not (M.complete (run_of t w)))). inr (sound-row t w h n))
          (decided (M.complete (run_of t w)))

      from_row : (p q : ℕ) → InTable q → suc (cycle_of q) ≡ cycle_of p → (w : ℕ) → w < M.words → next_of q w ≡ state_of p → Follows p
      from_row p zero h c w l s = absurd (lt_irrefl 0 h.0)
      from_row p (suc i) h c w l s = inr (i, h.1, (c, (w, l, s)))

      sound-follows : {p : ℕ} (t w : ℕ) → w < M.words → cycle_of p ≡ suc t → state_of p ≡ run_of t w → T (not (M.complete (run_of t w))) → Follows p
      unfolding run
      sound-follows zero w h c s n = inl (c, sym s)
      sound-follows {p} (suc t) w h c s n =
          let m = run-unfinished-before M L (prescribed M table) t (suc t) w (omega arith) n in
          let r = sound-row t w h m in
          from_row p r.place r.within (omega (arith, r.at-cycle)) w h
          (prescribed-next r w ∙ sym (run-clock M L (prescribed M table) t w m) ∙ sym s)

      sound-legal : (p : ℕ) → InTable p → (m : MetAt p) → T (not (M.complete (run_of m.time m.word))) → T (M.legal (state_of p) (step_of p))
      sound-legal p h m n =
          subst₂ (λ (s : M.State) (x : ℕ). T (M.legal s x)) (sym m.state) (prescribed-row (row_of p h m))
          (run-legal M L (prescribed M table) m.word (sound.legal m.word m.below) m.time n)

      sound-continues : (p : ℕ) → InTable p → (m : MetAt p) → T (not (M.complete (run_of m.time m.word))) → (v : ℕ)
          → Covered (suc (cycle_of p)) (next_of p v)
      sound-continues p h m n v =
          let b = branch M L (prescribed M table) m.time m.word n v in
          subst₂ Covered (sym (ap suc m.cycle)) (sym (prescribed-next (row_of p h m) v ∙ b.2)) (sound-covered (suc m.time) b.0 b.1)

      -- the cycle number is neither above nor below the last row's cycle
      cycles-not-above : table.cycles ≤ last_cycle M table
      cycles-not-above =
          ⊎_elim (λ (h : table.cycles ≤ last_cycle M table). h) (λ (h : last_cycle M table < table.cycles). absurd (beyond h))
          (le-or-lt table.cycles (last_cycle M table))
        where
          beyond : last_cycle M table < table.cycles → ⊥
          beyond h =
              let n = sound.needed (last_cycle M table) h in
              let r = sound-row (last_cycle M table) n.0 n.1 (of_false n.2) in
              omega (arith, row_last r.place r.within, r.at-cycle)

      cycles-not-below : last_cycle M table ≤ table.cycles
      cycles-not-below = ⊎_elim (λ (e : 0 ≡ table.rows). omega (arith, last_none (sym e))) from_last (eq-or-lt_of_le zero-le)
        where
          from_last : zero < table.rows → last_cycle M table ≤ table.cycles
          from_last k =
              ⊎_elim (λ (h : table.cycles ≤ m.time). absurd (contrary (M.complete (run_of m.time m.word))
              (run_ended_after M L (prescribed M table) table.cycles m.time m.word h (sound.enough m.word m.below))
              (met-unfinished (sound-unfinished table.rows last) m)))
              (λ (h : m.time < table.cycles). omega (arith, last_row k, m.cycle)) (le-or-lt table.cycles m.time)
            where
              last : InTable table.rows
              last = (k, le_refl table.rows)

              m : MetAt table.rows
              m = sound-met table.rows last

      sound-facts : Facts
      unfolding run
      sound-facts = record {
        unfinished = sound-unfinished;
        following = λ p h. let m = sound-met p h in sound-follows m.time m.word m.below m.cycle m.state (unfinished p h m);
        lawful = λ p h. let m = sound-met p h in sound-legal p h m (unfinished p h m);
        started = sound-covered 0 (M.word M.start) L.word-start;
        continued = λ p h w l. let m = sound-met p h in sound-continues p h m (unfinished p h m) w;
        counted = le_antisymm cycles-not-above cycles-not-below;
      }
        where
          unfinished : (p : ℕ) → InTable p → (m : MetAt p) → T (not (M.complete (run_of m.time m.word)))
          unfinished p h = met-unfinished (sound-unfinished p h)

    -- Demand 3: the checker accepts exactly the sound tables.
    pub accepted_sound : AllPass (sound_lines M table) → Sound M table
    accepted_sound a = facts-sound (lines_facts a)

    pub sound_accepted : Sound M table → AllPass (sound_lines M table)
    sound_accepted s = facts_lines (sound-facts s)
