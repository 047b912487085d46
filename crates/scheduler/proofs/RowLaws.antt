-- Laws of the schedule's rows: laying rows one behind the other, and the states of the words from cycle to cycle.
-- Assumes nothing.
use Prim.Native.Nat.{ℕ, zero, suc, ◌+◌, ◌-◌, ◌^◌, ◌≤◌, ◌<◌, zero-le}
use native.Mathlib.Nat.{add-zero, mul-one, mul-add, lt_of_lt_of_le, le_refl, le_trans}
use native.Mathlib.Numerals.{add-one}
use native.Mathlib.Omega.{arith}
use mathlib.Core.Path.{◌≡◌, refl, sym, ◌∙◌, ap, ap₂, subst}
use mathlib.Core.Logic.{⊎_elim, ◌≢◌}
use mathlib.Core.Bool.{Bool, true, false, cond, not, ◌&&◌}
use mathlib.Core.List.{List, [], ◌∷◌, ◌++◌, append_assoc, append-nil}
use lib.ListN.{length, set, replicate, get_or-replicate, length-set, length-append}
use lib.Seq.{get_or-set_same, get_or-set_other}
use lib.Dec.{T, eqb}
use lib.Pow.{pow_mono}
use borrow.Author.Tests.{eq-eqb, ne_eqb}
use Rattle.machine.specs.Sets.{list_below}
use Rattle.machine.specs.Machine.{Reachable, begin, step, remaining, best, run}
use Rattle.machine.specs.Tables.{Row, schedule_rows}
use Rattle.machine.proofs.Truth.{decided, true_of, false_of}
use Rattle.machine.proofs.Sets.{below-cases, list_length}
use Rattle.machine.proofs.Finish.{remaining-least, best-legal, best_finishes}
use Rattle.machine.proofs.Search.{good-all}
use Rattle.meaning.specs.Graph.{Graph, control_count}
use Rattle.meaning.specs.Steps.{State, machine_of, complete, after}
use Rattle.meaning.specs.TableFile.{row_bytes, row_start, row_file, row_files}
use Rattle.meaning.proofs.TableFile.{row-end, row_mono, rows-length}
use Rattle.parts.specs.declared.State.{State as Fields}
use Rattle.parts.specs.Fields.{state_of}
use Rattle.scheduler.specs.declared.table.Rows.{Rows}
use Rattle.scheduler.specs.Slots.{Holds}
use Rattle.scheduler.specs.Writing.{written}
use Rattle.scheduler.specs.Rows.{Choosing, Planning, met, state_at, Meets, row_of, cycle_rows, Laid, Lays}
use Rattle.scheduler.proofs.WriteLaws.{written_none, written_then}

module _ (g : Graph) where
  -- where the row behind so many others stands
  abbrev behind : ℕ → ℕ
  behind rows = row_start g.edition (suc rows)

  pub laid_none : (t : List ℕ) (rows : ℕ) → Laid g t t rows rows []
  unfolding row_files
  laid_none t rows = record { count = sym (add-zero rows); same_length = refl; table = λ h. sym (written_none t (behind rows)) }

  pub laid-one : (t u : List ℕ) (rows : ℕ) (r : Row (machine_of g)) → length u ≡ length t
      → (behind (rows + 1) ≤ length t → u ≡ written t (behind rows) (row_file g r)) → Laid g t u rows (rows + 1) (r ∷ [])
  unfolding row_files
  laid-one t u rows r k e =
      record { count = refl; same_length = k; table = λ h. e h ∙ ap (written t (behind rows)) (sym (append-nil (row_file g r))) }

  files_append : (l m : List (Row (machine_of g))) → row_files g (l ++ m) ≡ row_files g l ++ row_files g m
  unfolding row_files
  files_append [] m = refl
  files_append (r ∷ l) m =
      ap (λ (t : List ℕ). row_file g r ++ t) (files_append l m) ∙ sym (append_assoc (row_file g r) (row_files g l) (row_files g m))

  -- rows end where the next one stands
  files_end : (rows : ℕ) (l : List (Row (machine_of g))) → behind rows + length (row_files g l) ≡ behind (rows + length l)
  files_end rows l =
      rw (row-end g.edition rows, row-end g.edition (rows + length l), rows-length g l, mul-add (row_bytes g.edition) rows (length l))
      (omega arith)

  -- rows behind rows
  pub laid_then : (a b c : List ℕ) (rows more most : ℕ) (l m : List (Row (machine_of g)))
      → Laid g a b rows more l → Laid g b c more most m → Laid g a c rows most (l ++ m)
  laid_then a b c rows more most l m p q =
      record { count = omega (arith, p.count, q.count, both); same_length = q.same_length ∙ p.same_length; table = on }
    where
      both : length (l ++ m) ≡ length l + length m
      both = length-append l m

      on : behind (rows + length (l ++ m)) ≤ length a → c ≡ written a (behind rows) (row_files g (l ++ m))
      on h =
          let first : behind (rows + length l) ≤ length a = le_trans (row_mono g.edition (rows + length l) (rows + length (l ++ m)) (omega (arith, both))) h in
          let all : behind (more + length m) ≤ length b =
          le_trans (row_mono g.edition (more + length m) (rows + length (l ++ m)) (omega (arith, both, p.count)))
          (subst (λ (n : ℕ). behind (rows + length (l ++ m)) ≤ n) (sym p.same_length) h) in
          let there : behind more ≡ behind rows + length (row_files g l) = ap behind p.count ∙ sym (files_end rows l) in
          written_then a b c (behind rows) (behind more) (row_files g l) (row_files g m) (p.table first) (q.table all) there
          (subst (λ (n : ℕ). n ≤ length a) (sym (files_end rows l)) first)
          ∙ ap (written a (behind rows)) (sym (files_append l m))

  -- rows that are laid in turns: those of f below i, and then those of f i
  pub laid-turn : (f : ℕ → List (Row (machine_of g))) (i : ℕ) (a b c : List ℕ) (rows more most : ℕ) → Laid g a b rows more (list_below i f)
      → Laid g b c more most (f i) → Laid g a c rows most (list_below (i + 1) f)
  unfolding list_below
  laid-turn f i a b c rows more most p q =
      subst (λ (k : ℕ). Laid g a c rows most (list_below k f)) (sym (add-one i)) (laid_then a b c rows more most (list_below i f) (f i) p q)

  -- the same, of the rows in a lent buffer
  pub lays_none : (r : Rows) → Lays g r r []
  lays_none r = record { lent = refl; edition = refl; laid = laid_none r.table.now r.count }

  pub lays-turn : (f : ℕ → List (Row (machine_of g))) (i : ℕ) (a b c : Rows) → Lays g a b (list_below i f) → Lays g b c (f i)
      → Lays g a c (list_below (i + 1) f)
  lays-turn f i a b c p q =
      record {
        lent = q.lent ∙ p.lent;
        edition = q.edition ∙ p.edition;
        laid = laid-turn f i a.table.now b.table.now c.table.now a.count b.count c.count p.laid q.laid;
      }

-- a choice by two tests, the second of which is known
module _ {ℓ} {A : Type ℓ} where
  hidden : (a b : Bool) (x y : A) → T b → cond (a && not b) x y ≡ y
  hidden true true x y t = refl
  hidden false true x y t = refl
  hidden a false x y t = absurd t

  plain : (a b : Bool) (x y : A) → T (not b) → cond (a && not b) x y ≡ cond a x y
  plain true false x y t = refl
  plain false false x y t = refl
  plain a true x y t = absurd t

-- The states of the schedule: one cycle.
module _ (g : Graph) (t w : ℕ) where
  met_stays : T (complete g (met g t w)) → met g (suc t) w ≡ met g t w
  unfolding met run
  met_stays c = rw (true_of (complete g (met g t w)) c) refl

  met-clock : T (not (complete g (met g t w)))
      → met g (suc t) w ≡ after g (met g t w) (best (machine_of g) (met g t w)) w
  unfolding met run
  met-clock n = rw (false_of (complete g (met g t w)) n) refl

  row_none : T (complete g (met g t w)) → row_of g t w ≡ []
  unfolding row_of
  row_none c =
      hidden (eqb (met g t w).values w) (complete g (met g t w))
      (record { cycle = suc t; state = met g t w; step = best (machine_of g) (met g t w) } ∷ []) [] c

  row_some : T (not (complete g (met g t w)))
      → row_of g t w ≡ cond (eqb (met g t w).values w) (record { cycle = suc t; state = met g t w; step = best (machine_of g) (met g t w) } ∷ []) []
  unfolding row_of
  row_some n =
      plain (eqb (met g t w).values w) (complete g (met g t w))
      (record { cycle = suc t; state = met g t w; step = best (machine_of g) (met g t w) } ∷ []) [] n

-- Every state of the schedule is reachable and has a remaining number.
module _ (g : Graph) (slots : List ℕ) (p : Planning g slots) where
  record Known (s : State) : Type 0 where
    reachable : Reachable (machine_of g) s
    numbered : remaining (machine_of g) s ≤ (machine_of g).horizon

  known_next : (s : State) (w : ℕ) → w < 2 ^ control_count g → Known s → T (not (complete g s))
      → Known (after g s (best (machine_of g) s) w)
  known_next s w h k n =
      record {
        reachable = step k.reachable (false_of (complete g s) n) (best (machine_of g) s) (best-legal (machine_of g) s n k.numbered) w h;
        numbered = let less = remaining (machine_of g) s - 1 in
            le_trans (remaining-least (machine_of g) less (after g s (best (machine_of g) s) w)
            (best_finishes (machine_of g) s n k.numbered w h) (omega (arith, k.numbered))) (omega (arith, k.numbered));
      }

  known : (t w : ℕ) → w < 2 ^ control_count g → Known (met g t w)
  unfolding met run
  known zero w h = record { reachable = begin; numbered = p.numbered }
  known (suc t) w h = on (known t w h)
    where
      on : Known (met g t w) → Known (met g (suc t) w)
      on k =
          ⊎_elim (λ (c : T (complete g (met g t w))). subst Known (sym (met_stays g t w c)) k)
          (λ (n : T (not (complete g (met g t w)))). subst Known (sym (met-clock g t w n)) (known_next (met g t w) w h k n))
          (decided (complete g (met g t w)))

  pub met-choosing : (t w : ℕ) → w < 2 ^ control_count g → T (not (complete g (met g t w))) → Choosing g slots (met g t w)
  met-choosing t w h n =
      record {
        store = p.store;
        held = good-all (machine_of g) (Holds slots) p.store.good p.start.0 p.start.1 (met g t w) (known t w h).reachable;
        unfinished = n;
        numbered = (known t w h).numbered;
      }

-- The states of all words side by side, where those of the words below `word` have gone one cycle on.
pub record Going (g : Graph) (t word : ℕ) (states : List Fields) : Type 0 where
  pub gone : Meets g (suc t) 0 word states
  pub still : Meets g t word (2 ^ control_count g) states

module _ (g : Graph) (t word : ℕ) (states : List Fields) (go : Going g t word states) (h : word < 2 ^ control_count g) where
  pub here : state_at states word ≡ met g t word
  here = go.still.at word (le_refl word) h

  -- a complete state stays
  going_stays : T (complete g (state_at states word)) → Going g t (word + 1) states
  going_stays c =
      record { gone = record { size = go.gone.size; at = at }; still = record { size = go.gone.size; at = λ w i. go.still.at w (omega arith) } }
    where
      at : (w : ℕ) → 0 ≤ w → w < word + 1 → state_at states w ≡ met g (suc t) w
      at w i k =
          ⊎_elim (λ (l : w < word). go.gone.at w i l)
          (λ (e : w ≡ word). subst (λ (v : ℕ). state_at states v ≡ met g (suc t) v) (sym e)
          (here ∙ sym (met_stays g t word (subst (λ (s : State). T (complete g s)) here c))))
          (below-cases (subst (λ (n : ℕ). w < n) (add-one word) k))

  -- an unfinished one goes on by the chosen step
  going_on : (next : Fields) → T (not (complete g (state_at states word))) → word < 16
      → state_of next ≡ after g (state_at states word) (best (machine_of g) (state_at states word)) word
      → Going g t (word + 1) (set states word next)
  going_on next n small e =
      record { gone = record { size = size; at = at }; still = record { size = size; at = λ w i k. other w (λ q. omega arith) ∙ go.still.at w (omega arith) k } }
    where
      size : length (set states word next) ≡ 16
      size = length-set states word next ∙ go.gone.size

      other : (w : ℕ) → w ≢ word → state_at (set states word next) w ≡ state_at states w
      other w q = ap state_of (get_or-set_other states word w next (record { done = 0; values = 0 }) q)

      same : state_at (set states word next) word ≡ state_of next
      same = ap state_of (get_or-set_same states word next (record { done = 0; values = 0 }) (omega (arith, go.gone.size)))

      moved : state_of next ≡ met g (suc t) word
      moved =
          e ∙ ap (λ (s : State). after g s (best (machine_of g) s) word) here
          ∙ sym (met-clock g t word (subst (λ (s : State). T (not (complete g s))) here n))

      at : (w : ℕ) → 0 ≤ w → w < word + 1 → state_at (set states word next) w ≡ met g (suc t) w
      at w i k =
          ⊎_elim (λ (l : w < word). other w (λ q. omega arith) ∙ go.gone.at w i l)
          (λ (q : w ≡ word). subst (λ (u : ℕ). state_at (set states word next) u ≡ met g (suc t) u) (sym q) (same ∙ moved))
          (below-cases (subst (λ (m : ℕ). w < m) (add-one word) k))

  -- its row, as it is counted and written
  row_here : (x : ℕ) → T (not (complete g (state_at states word))) → x ≡ best (machine_of g) (state_at states word)
      → row_of g t word ≡ cond (eqb (state_at states word).values word) (record { cycle = t + 1; state = state_at states word; step = x } ∷ []) []
  row_here x n e =
      row_some g t word (subst (λ (s : State). T (not (complete g s))) here n)
      ∙ ap (λ (s : State). cond (eqb s.values word) (record { cycle = suc t; state = s; step = best (machine_of g) s } ∷ []) []) (sym here)
      ∙ ap₂ (λ (u y : ℕ). cond (eqb (state_at states word).values word) (record { cycle = u; state = state_at states word; step = y } ∷ []) []) (sym (add-one t)) (sym e)

-- In the cycle after t cycles the words below `word` have passed: their states have gone on, and their rows are laid.
pub record Passing (g : Graph) (t word : ℕ) (before after : Rows) (states : List Fields) : Type 0 where
  pub going : Going g t word states
  pub lays : Lays g before after (list_below word (row_of g t))

module _ {g : Graph} {t word : ℕ} {a b : Rows} {states : List Fields} (p : Passing g t word a b states) (h : word < 2 ^ control_count g) where
  -- a word passes whose state is complete
  pub passing_stays : T (complete g (state_at states word)) → Passing g t (word + 1) a b states
  passing_stays done =
      record {
        going = going_stays g t word states p.going h done;
        lays = lays-turn g (row_of g t) word a b b p.lays
            (subst (Lays g b b) (sym (row_none g t word (subst (λ (s : State). T (complete g s)) (here g t word states p.going h) done)))
            (lays_none g b));
      }

  -- and one whose state is unfinished, with the step x
  module _ (x : ℕ) (left : T (not (complete g (state_at states word)))) (chosen : x ≡ best (machine_of g) (state_at states word))
      (small : word < 16) (next : Fields) (goes : state_of next ≡ after g (state_at states word) x word) where
    abbrev row : Row (machine_of g)
    row = record { cycle = t + 1; state = state_at states word; step = x }

    on : {c : Rows} {l : List (Row (machine_of g))} → Lays g b c l → l ≡ cond (eqb (state_at states word).values word) (row ∷ []) []
        → Passing g t (word + 1) a c (set states word next)
    on {c} q e =
        record {
          going = going_on g t word states p.going h next left small (goes ∙ ap (λ (k : ℕ). after g (state_at states word) k word) chosen);
          lays = lays-turn g (row_of g t) word a b c p.lays
              (subst (Lays g b c) (e ∙ sym (row_here g t word states p.going h x left chosen)) q);
        }

    -- on its own word
    pub passing_row : {c : Rows} → (state_at states word).values ≡ word → Lays g b c (row ∷ []) → Passing g t (word + 1) a c (set states word next)
    passing_row e q = on q (sym (ap (λ (k : Bool). cond k (row ∷ []) []) (eq-eqb (state_at states word).values word e)))

    -- and on another
    pub passing_on : ((state_at states word).values ≡ word → ⊥) → Passing g t (word + 1) a b (set states word next)
    passing_on n = on (lays_none g b) (sym (ap (λ (k : Bool). cond k (row ∷ []) []) (ne_eqb (state_at states word).values word n)))

-- at most one row for a word
pub row_one : (g : Graph) (t w : ℕ) → length (row_of g t w) ≤ 1
unfolding row_of
row_one g t w = one (eqb (met g t w).values w && not (complete g (met g t w)))
  where
    one : (b : Bool) → length {A = Row (machine_of g)} (cond b (record { cycle = suc t; state = met g t w; step = best (machine_of g) (met g t w) } ∷ []) []) ≤ 1
    one true = le_refl 1
    one false = zero-le

-- the schedule's rows, cycle by cycle
pub rows_are : (g : Graph) → schedule_rows (machine_of g) ≡ list_below (remaining (machine_of g) (machine_of g).start) (cycle_rows g)
unfolding schedule_rows cycle_rows row_of met
rows_are g = refl

-- a cycle has a row for a word at most
pub cycle-rows : (g : Graph) (t : ℕ) → control_count g ≤ 4 → length (cycle_rows g t) ≤ 16
unfolding cycle_rows
cycle-rows g t h =
    le_trans (list_length (2 ^ control_count g) 1 (row_of g t) (λ w k. row_one g t w))
    (subst (λ (k : ℕ). k ≤ 16) (sym (mul-one (2 ^ control_count g))) (pow_mono h))

-- at first all words are at the start
pub meets-start : (g : Graph) (start : Fields) → state_of start ≡ (machine_of g).start → control_count g ≤ 4
    → Meets g 0 0 (2 ^ control_count g) (replicate 16 start)
unfolding met run
meets-start g start e h =
    record {
      size = refl;
      at = λ w i k. ap state_of (get_or-replicate 16 w start (record { done = 0; values = 0 }) (lt_of_lt_of_le k (pow_mono h))) ∙ e;
    }
