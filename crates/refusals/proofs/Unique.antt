-- A number tells a refusal, and a verdict tells a fault and an answer. Assumes nothing.
use Prim.Native.Nat.{ℕ}
use native.Mathlib.Omega.{arith}
use mathlib.Core.Path.{◌≡◌, refl, sym, ◌∙◌, ap}
use mathlib.Core.Bool.{cond}
use mathlib.Core.Logic.{◌↔◌}
use mathlib.Core.List.{List}
use lib.Dec.{eqb}
use Rattle.std.specs.Prelude.{Result, Ok, Err}
use Rattle.machine.specs.Refusals.{Line, Verdict, taken, refused, judge}
use Rattle.machine.proofs.Refusals.{Given, judge-refused}
use Rattle.refusals.specs.declared.Fault.{Fault}
use Rattle.refusals.specs.declared.Refusal.{Refusal}
use Rattle.refusals.specs.declared.Refusal.TheVariants.{Short, Unmarked, Overfull, Misplaced, Length, Class, Path, Producer, Branch, Arc, Join, Slots, Unschedulable, Room, Layout, Order, Unfounded, Illegal, Gap, Cycles}
use Rattle.refusals.specs.Faults.{number_of, fault_verdict, verdict_of}

-- the refusal of a number
refusal_of : ℕ → Refusal
refusal_of n =
    cond (eqb n 1) Short (cond (eqb n 2) Unmarked (cond (eqb n 3) Overfull (cond (eqb n 4) Misplaced (cond (eqb n 5) Length (cond (eqb n 6) Class (cond (eqb n 7) Path (cond (eqb n 8) Producer (cond (eqb n 9) Branch (cond (eqb n 10) Arc (cond (eqb n 11) Join (cond (eqb n 12) Slots (cond (eqb n 13) Unschedulable (cond (eqb n 14) Room (cond (eqb n 15) Layout (cond (eqb n 16) Order (cond (eqb n 17) Unfounded (cond (eqb n 18) Illegal (cond (eqb n 19) Gap Cycles))))))))))))))))))

refusal_back : (r : Refusal) → refusal_of (number_of r) ≡ r
unfolding refusal_of number_of
refusal_back Short = refl
refusal_back Unmarked = refl
refusal_back Overfull = refl
refusal_back Misplaced = refl
refusal_back Length = refl
refusal_back Class = refl
refusal_back Path = refl
refusal_back Producer = refl
refusal_back Branch = refl
refusal_back Arc = refl
refusal_back Join = refl
refusal_back Slots = refl
refusal_back Unschedulable = refl
refusal_back Room = refl
refusal_back Layout = refl
refusal_back Order = refl
refusal_back Unfounded = refl
refusal_back Illegal = refl
refusal_back Gap = refl
refusal_back Cycles = refl

pub one-refusal : (a b : Refusal) → number_of a ≡ number_of b → a ≡ b
one-refusal a b e = sym (refusal_back a) ∙ ap refusal_of e ∙ refusal_back b

-- the fault of a verdict that refuses
pub fault_of : Verdict → Fault
fault_of taken = record { refusal = Short; place = 0 }
fault_of (refused k p) = record { refusal = refusal_of k; place = p }

pub fault_back : (f : Fault) → fault_of (fault_verdict f) ≡ f
unfolding fault_of fault_verdict
fault_back f = ap (λ (r : Refusal). record { refusal = r; place = f.place }) (refusal_back f.refusal)

-- a verdict tells a fault, and what is taken with no value from what is refused
pub one-fault_of : (f g : Fault) → fault_verdict f ≡ fault_verdict g → f ≡ g
one-fault_of f g e = sym (fault_back f) ∙ ap fault_of e ∙ fault_back g

judged_of : Verdict → Result Unit Fault
judged_of taken = Ok tt
judged_of (refused k p) = Err (fault_of (refused k p))

judged_back : (r : Result Unit Fault) → judged_of (verdict_of r) ≡ r
unfolding judged_of verdict_of fault_verdict fault_of
judged_back (Ok u) = refl
judged_back (Err f) = ap (λ (g : Fault). Err g) (fault_back f)

pub one-fault : (v : Verdict) (a b : Result Unit Fault) → verdict_of a ≡ v → verdict_of b ≡ v → a ≡ b
one-fault v a b p q = sym (judged_back a) ∙ ap judged_of (p ∙ sym q) ∙ judged_back b

-- A fault is answered exactly when its line of the refusal table is at fault there first.
module _ {A : Type 0} where
  apart : (f : Fault) (r : Result A Fault) → verdict_of r ≡ fault_verdict f → r ≡ Err f
  unfolding verdict_of fault_verdict
  apart f (Ok a) d = absurd (no d)
    where
      no : taken ≡ refused (number_of f.refusal) f.place → ⊥
      no e = let z : ◌≡◌ {A = ℕ} 0 1 = cc in omega arith
  apart f (Err g) d = ap (λ (h : Fault). Err h) (one-fault_of g f d)

  pub faulted_exactly : (r : Result A Fault) (ls : List Line) → verdict_of r ≡ judge ls → (f : Fault)
      → (r ≡ Err f) ↔ Given (number_of f.refusal) f.place ls
  unfolding verdict_of fault_verdict
  faulted_exactly r ls e f =
      (λ d. (judge-refused ls _ _).0 (sym e ∙ ap verdict_of d), λ g. apart f r (e ∙ (judge-refused ls _ _).1 g))
