-- What a refusal table means: a number is given at a place exactly when its line is at fault there, at no lower place of
-- that line, and no earlier line is at fault anywhere. Then how a table is judged part by part, line by line and place by
-- place. Assumes nothing.
use Prim.Native.Nat.{ℕ, zero, suc, ◌+◌, ◌≤◌, ◌<◌}
use native.Mathlib.Nat.{le_refl, lt-suc_self, not-suc-le-zero}
use native.Mathlib.Numerals.{add-one}
use native.Mathlib.Omega.{arith}
use mathlib.Core.Path.{◌≡◌, refl, sym, ◌∙◌, ap, ap₂, subst, subst₂}
use mathlib.Core.Logic.Iff
use mathlib.Core.Logic.{◌⊎◌, inl, inr, ⊎_elim, ◌↔◌}
use mathlib.Core.Bool.{Bool, true, false, cond, not, ◌&&◌, ◌||◌}
use mathlib.Core.List.{List, [], ◌∷◌, ◌++◌}
use lib.Dec.{T, eqb, ltb, eqb_refl}
use lib.ListN.{length, drop, get_or}
use lib.Seq.{drop-cons}
use borrow.Author.Tests.{lt-ltb, le-ltb, ne_eqb}
use Rattle.machine.specs.Sets.{first_below, any_below, list_below}
use Rattle.machine.specs.Refusals.{Line, placeless, line_at, Verdict, taken, refused, judge}
use Rattle.machine.proofs.Truth.{both, or_left, or_right, not-or_left, not-or-right, and-not, decided, contrary, true_of, false_of, of_true, of_false}
use Rattle.machine.proofs.Sets.{First, first_none, first_some, first_unique, any_failed, none_any, below-cases}
use Rattle.machine.proofs.Says.{Says, Denies, says_eqb}
use Rattle.machine.proofs.Loops.{SoFar}

-- no place of the line is at fault
abbrev pub Passes : Line → Type 0
Passes l = (p : ℕ) → p < l.places → T (not (l.fault p))

-- the line is at fault at p and at no lower place
abbrev pub FaultAt : Line → ℕ → Type 0
FaultAt l p = First l.places l.fault p

-- a line of the table with this number is at fault at this place, and no earlier line is at fault
pub data Given (k p : ℕ) : List Line → Type 0 where
  here : {l : Line} {ls : List Line} → l.number ≡ k → FaultAt l p → Given k p (l ∷ ls)
  later : {l : Line} {ls : List Line} → Passes l → Given k p ls → Given k p (l ∷ ls)

-- no line of the table is at fault
pub data AllPass : List Line → Type 0 where
  none : AllPass []
  and : {l : Line} {ls : List Line} → Passes l → AllPass ls → AllPass (l ∷ ls)

-- the two outcomes of a line
judge-fault : (l : Line) (ls : List Line) (p : ℕ) → FaultAt l p → judge (l ∷ ls) ≡ refused l.number p
unfolding judge
judge-fault l ls p h =
    rw (first_unique l.places l.fault p h, lt-ltb p l.places h.below) refl

judge_passes : (l : Line) (ls : List Line) → Passes l → judge (l ∷ ls) ≡ judge ls
unfolding judge
judge_passes l ls h =
    rw (first_none l.places l.fault (none_any l.places l.fault h), le-ltb l.places l.places (le_refl l.places)) refl

-- a line passes or is at fault
line-cases : (l : Line) → Passes l ⊎ ((p : ℕ) × FaultAt l p)
line-cases l =
    ⊎_elim (λ (t : T (any_below l.places l.fault)). inr (first_below l.places l.fault, first_some l.places l.fault t))
    (λ (t : T (not (any_below l.places l.fault))). inl (any_failed l.places l.fault t))
    (decided (any_below l.places l.fault))

pub passes_judge : {ls : List Line} → AllPass ls → judge ls ≡ taken
unfolding judge
passes_judge none = refl
passes_judge (and {l = l} {ls = ls} h r) = judge_passes l ls h ∙ passes_judge r

pub given_judge : {k p : ℕ} {ls : List Line} → Given k p ls → judge ls ≡ refused k p
given_judge {k} {p} (here {l = l} {ls = ls} e h) = judge-fault l ls p h ∙ ap (λ (n : ℕ). refused n p) e
given_judge (later {l = l} {ls = ls} h r) = judge_passes l ls h ∙ given_judge r

-- every table passes or gives a number at a place
pub judged : (ls : List Line) → AllPass ls ⊎ ((k p : ℕ) × Given k p ls)
judged [] = inl none
judged (l ∷ ls) = ⊎_elim (λ (h : Passes l). rest h (judged ls)) (λ (f : (p : ℕ) × FaultAt l p). inr (l.number, f.0, here refl f.1)) (line-cases l)
  where
    rest : Passes l → AllPass ls ⊎ ((k p : ℕ) × Given k p ls) → AllPass (l ∷ ls) ⊎ ((k p : ℕ) × Given k p (l ∷ ls))
    rest h (inl r) = inl (and h r)
    rest h (inr r) = inr (r.0, r.1, later h r.2)

-- Nothing is refused exactly when no line is at fault.
pub judge-taken : (ls : List Line) → (judge ls ≡ taken) ↔ AllPass ls
judge-taken ls = (to, passes_judge)
  where
    to : judge ls ≡ taken → AllPass ls
    to e = ⊎_elim (λ (a : AllPass ls). a) (λ (r : (k p : ℕ) × Given k p ls). absurd (apart r.0 r.1 (given_judge r.2))) (judged ls)
      where
        apart : (k p : ℕ) → judge ls ≡ refused k p → ⊥
        apart k p d = let z : ◌≡◌ {A = ℕ} 0 1 = cc in omega arith

-- A number is given at a place exactly when its line is at fault there first, and no earlier line is at fault anywhere.
pub judge-refused : (ls : List Line) (k p : ℕ) → (judge ls ≡ refused k p) ↔ Given k p ls
judge-refused ls k p = (to, given_judge)
  where
    to : judge ls ≡ refused k p → Given k p ls
    to e = ⊎_elim (λ (a : AllPass ls). absurd (apart (passes_judge a))) (λ (r : (j q : ℕ) × Given j q ls). subst₂ (λ (j q : ℕ). Given j q ls) (number r.0 r.1 (given_judge r.2)) (place r.0 r.1 (given_judge r.2)) r.2) (judged ls)
      where
        apart : judge ls ≡ taken → ⊥
        apart d = let z : ◌≡◌ {A = ℕ} 0 1 = cc in omega arith

        number : (j q : ℕ) → judge ls ≡ refused j q → j ≡ k
        number j q d = cc

        place : (j q : ℕ) → judge ls ≡ refused j q → q ≡ p
        place j q d = cc

-- tables one after the other
pub pass_append : (ls ms : List Line) → AllPass (ls ++ ms) ↔ (AllPass ls × AllPass ms)
pass_append ls ms = (to ls, λ h. from h.0 h.1)
  where
    to : (ls : List Line) → AllPass (ls ++ ms) → AllPass ls × AllPass ms
    to [] h = (none, h)
    to (l ∷ ls) (and h r) = let q = to ls r in (and h q.0, q.1)

    from : {ls : List Line} → AllPass ls → AllPass ms → AllPass (ls ++ ms)
    from none k = k
    from (and h r) k = and h (from r k)

-- a line of the table has the number; one that gives it has
unfoldable pub numbered : ℕ → List Line → Bool
numbered k [] = false
numbered k (l ∷ ls) = eqb l.number k || numbered k ls

given_numbered : {k p : ℕ} {ls : List Line} → Given k p ls → T (numbered k ls)
unfolding numbered
given_numbered {k} (here {l = l} {ls = ls} e h) = or_left (eqb l.number k) (numbered k ls) ((says_eqb l.number k).from e)
given_numbered {k} (later {l = l} {ls = ls} h r) = or_right (eqb l.number k) (numbered k ls) (given_numbered r)

given_past : (k p : ℕ) (ls ms : List Line) → T (not (numbered k ls)) → Given k p (ls ++ ms) ↔ (AllPass ls × Given k p ms)
unfolding numbered
given_past k p ls ms t = (to ls t, λ h. from h.0 h.1)
  where
    to : (ls : List Line) → T (not (numbered k ls)) → Given k p (ls ++ ms) → AllPass ls × Given k p ms
    to [] t g = (none, g)
    to (l ∷ ls) t (here e h) =
        absurd (contrary (eqb l.number k) ((says_eqb l.number k).from e) (not-or_left (eqb l.number k) (numbered k ls) t))
    to (l ∷ ls) t (later h r) =
        let q = to ls (not-or-right (eqb l.number k) (numbered k ls) t) r in
        (and h q.0, q.1)

    from : {ls : List Line} → AllPass ls → Given k p ms → Given k p (ls ++ ms)
    from none g = g
    from (and h r) g = later h (from r g)

-- Two tables one after the other are taken exactly when both are. A number that no line of the first has is given exactly
-- when the first is taken and the second gives it.
pub taken-past : (ls ms : List Line) → (judge (ls ++ ms) ≡ taken) ↔ ((judge ls ≡ taken) × AllPass ms)
taken-past ls ms =
    Iff.trans (judge-taken (ls ++ ms)) (Iff.trans (pass_append ls ms) (Iff.and (Iff.symm (judge-taken ls)) Iff.rfl))

pub refused-past : (k p : ℕ) (ls ms : List Line) → T (not (numbered k ls))
    → (judge (ls ++ ms) ≡ refused k p) ↔ ((judge ls ≡ taken) × Given k p ms)
refused-past k p ls ms t =
    Iff.trans (judge-refused (ls ++ ms) k p) (Iff.trans (given_past k p ls ms t) (Iff.and (Iff.symm (judge-taken ls)) Iff.rfl))

-- One that no line of the second has is given exactly when the first gives it.
pub refused-before : (k p : ℕ) (ls ms : List Line) → T (not (numbered k ms)) → (judge (ls ++ ms) ≡ refused k p) ↔ (judge ls ≡ refused k p)
refused-before k p ls ms t = Iff.trans (judge-refused (ls ++ ms) k p) (Iff.trans (to ls, from) (Iff.symm (judge-refused ls k p)))
  where
    to : (ls : List Line) → Given k p (ls ++ ms) → Given k p ls
    to [] g = absurd (contrary (numbered k ms) (given_numbered g) t)
    to (l ∷ ls) (here e h) = here e h
    to (l ∷ ls) (later h r) = later h (to ls r)

    from : {ls : List Line} → Given k p ls → Given k p (ls ++ ms)
    from (here e h) = here e h
    from (later h r) = later h (from r)

-- A line whose place is not named, in words: it passes, it passes and a later one gives the number, or it gives it.
module _ (j : ℕ) {b : Bool} {P : Type 0} (ls : List Line) where
  pub placeless_pass : Denies b P → AllPass (placeless j b ∷ ls) ↔ (P × AllPass ls)
  placeless_pass d = (to, λ h. and (λ p k. d.from h.0) h.1)
    where
      to : AllPass (placeless j b ∷ ls) → P × AllPass ls
      to (and h r) = (d.to (h 0 (lt-suc_self 0)), r)

  pub placeless_later : (k p : ℕ) → T (not (eqb j k)) → Denies b P → Given k p (placeless j b ∷ ls) ↔ (P × Given k p ls)
  placeless_later k p t d = (to, λ h. later (λ q l. d.from h.0) h.1)
    where
      to : Given k p (placeless j b ∷ ls) → P × Given k p ls
      to (here e h) = absurd (contrary (eqb j k) ((says_eqb j k).from e) t)
      to (later h r) = (d.to (h 0 (lt-suc_self 0)), r)

  pub placeless_here : T (not (numbered j ls)) → Says b P → Given j 0 (placeless j b ∷ ls) ↔ P
  placeless_here t s =
      (to, λ h. here refl (record { below = lt-suc_self 0; holds = s.from h; least = λ i l. absurd (not-suc-le-zero l) }))
    where
      to : Given j 0 (placeless j b ∷ ls) → P
      to (here e h) = s.to h.holds
      to (later h r) = absurd (contrary (numbered j ls) (given_numbered r) t)

-- the first verdict, or the second where the first is taken
unfoldable pub otherwise : Verdict → Verdict → Verdict
otherwise taken v = v
otherwise (refused k p) v = refused k p

-- the rest of a table counts where its first part passes
pub judge-append : (ls ms : List Line) → judge (ls ++ ms) ≡ otherwise (judge ls) (judge ms)
unfolding judge otherwise
judge-append [] ms = refl
judge-append (l ∷ ls) ms = by (ltb (first_below l.places l.fault) l.places) (judge-append ls ms)
  where
    by : (b : Bool) → judge (ls ++ ms) ≡ otherwise (judge ls) (judge ms)
        → cond b (refused l.number (first_below l.places l.fault)) (judge (ls ++ ms))
        ≡ otherwise (cond b (refused l.number (first_below l.places l.fault)) (judge ls)) (judge ms)
    by true e = refl
    by false e = e

-- lines that pass do not matter
pub judge-after : {ls : List Line} → AllPass ls → (ms : List Line) → judge (ls ++ ms) ≡ judge ms
unfolding otherwise
judge-after {ls} h ms = judge-append ls ms ∙ rw (passes_judge h) refl

-- A walk through a table of n lines has passed those before line i.
pub record Walked (ls : List Line) (n i : ℕ) : Type 0 where
  pub within : i ≤ n
  pub rest : judge ls ≡ judge (drop i ls)

-- A walk goes on with what its line says: the rest of the table counts where the line passes.
pub walk_on : {ls : List Line} {n i : ℕ} {v : Verdict} → Walked ls n i → i < length ls
    → v ≡ judge (get_or ls i (placeless 0 false) ∷ []) → judge ls ≡ otherwise v (judge (drop (i + 1) ls))
walk_on {ls} {n} {i} w h e =
    w.rest ∙ ap judge (drop-cons ls i (placeless 0 false) h)
    ∙ judge-append (get_or ls i (placeless 0 false) ∷ []) (drop (suc i) ls)
    ∙ ap₂ (λ (u : Verdict) (k : ℕ). otherwise u (judge (drop k ls))) (sym e) (sym (add-one i))

-- A loop over the places of a line: the first that is at fault, and none after the last.
module _ (l : Line) (i : ℕ) (past : SoFar l.fault false i) where
  pub refused-at : i < l.places → l.fault i ≡ true → judge (l ∷ []) ≡ refused l.number i
  refused-at h e = judge-fault l [] i (record { below = h; holds = of_true e; least = λ p k. of_false (past p k) })

  pub taken-after : l.places ≤ i → judge (l ∷ []) ≡ taken
  taken-after h = passes_judge (and (λ p k. of_false (past p (omega arith))) none)

-- a line whose place is not named is its test
pub placeless-first : (k : ℕ) (b : Bool) (ls : List Line) → judge (placeless k b ∷ ls) ≡ cond b (refused k 0) (judge ls)
unfolding judge first_below any_below
placeless-first k true ls = refl
placeless-first k false ls = refl

pub placeless-fault : (k : ℕ) (b : Bool) (ls : List Line) → T b → judge (placeless k b ∷ ls) ≡ refused k 0
placeless-fault k b ls t = placeless-first k b ls ∙ rw (true_of b t) refl

pub placeless_passes : (k : ℕ) (b : Bool) (ls : List Line) → T (not b) → judge (placeless k b ∷ ls) ≡ judge ls
placeless_passes k b ls t = placeless-first k b ls ∙ rw (false_of b t) refl

-- a line that looks at one place
line-at : (k p : ℕ) (b : Bool) → judge (line_at k p b ∷ []) ≡ cond b (refused k p) taken
line-at k p true =
    judge-fault (line_at k p true) [] p (record {
      below = lt-suc_self p;
      holds = both (eqb p p) true (eqb_refl p) tt;
      least = λ q h. subst (λ (c : Bool). T (not (c && true))) (sym (ne_eqb q p (λ e. omega arith))) tt;
    })
line-at k p false = passes_judge (and (λ q h. and-not (eqb q p) false (λ t. tt)) none)

-- two lines for the same place
pub two_at : (j k p : ℕ) (a b : Bool)
    → judge (line_at j p a ∷ line_at k p b ∷ []) ≡ cond a (refused j p) (cond b (refused k p) taken)
unfolding otherwise
two_at j k p a b =
    judge-append (line_at j p a ∷ []) (line_at k p b ∷ []) ∙ ap₂ otherwise (line-at j p a) (line-at k p b) ∙ by a
  where
    by : (c : Bool) → otherwise (cond c (refused j p) taken) (cond b (refused k p) taken) ≡ cond c (refused j p) (cond b (refused k p) taken)
    by true = refl
    by false = refl

-- tables of the places 0, 1 and on: the first that refuses decides
module _ (f : ℕ → List Line) where
  pub list_more : (i : ℕ) → judge (list_below i f) ≡ taken → judge (f i) ≡ taken → judge (list_below (i + 1) f) ≡ taken
  unfolding list_below otherwise
  list_more i before at = rw (add-one i, judge-append (list_below i f) (f i), before) at

  pub list-refused : (n i k p : ℕ) → i < n → judge (list_below i f) ≡ taken → judge (f i) ≡ refused k p
      → judge (list_below n f) ≡ refused k p
  unfolding list_below otherwise
  list-refused zero i k p h before at = absurd (not-suc-le-zero h)
  list-refused (suc n) i k p h before at =
      judge-append (list_below n f) (f n)
      ∙ ⊎_elim (λ (l : i < n). ap (λ v. otherwise v (judge (f n))) (list-refused n i k p l before at))
      (λ (e : i ≡ n). subst (λ (j : ℕ). otherwise (judge (list_below j f)) (judge (f j)) ≡ refused k p) e (rw before at)) (below-cases h)
