-- The promises of `check`, `span_of` and `rows_of` leave one outcome each. A returned part is fixed in what it holds and in where it
-- lies; its ghost name, which no program can see, is not. Assumes nothing.
use Prim.Native.Nat.{ℕ}
use native.Mathlib.Omega.{arith}
use mathlib.Core.Path.{◌≡◌, refl, sym, ◌∙◌, ap, ap₂}
use mathlib.Core.List.{List}
use denote.Ref.{Bor}
use Rattle.std.specs.Prelude.{Result, Ok, Err}
use Rattle.machine.specs.Refusals.{Verdict, taken, refused}
use Rattle.meaning.specs.Answers.{Answer, Part}
use Rattle.refusals.specs.declared.Fault.{Fault}
use Rattle.refusals.specs.Faults.{fault_verdict}
use Rattle.refusals.proofs.Unique.{fault_of, fault_back}
use Rattle.checker.specs.declared.Acceptance.{Acceptance}
use Rattle.checker.specs.declared.Span.{Span}
use Rattle.checker.specs.Checked.{values_of, part_of, Lies}

-- the answer that has the values
checked_of : Verdict → Answer → Result Acceptance Fault
checked_of taken v = Ok (record { cycles = v.cycles; rows = v.rows })
checked_of (refused k p) v = Err (fault_of (refused k p))

checked_back : (a : Result Acceptance Fault) → checked_of (values_of a).verdict (values_of a) ≡ a
unfolding checked_of values_of fault_verdict
checked_back (Ok accepted) = refl
checked_back (Err f) = ap (λ (g : Fault). Err g) (fault_back f)

pub one_answer : (v : Answer) (a b : Result Acceptance Fault) → values_of a ≡ v → values_of b ≡ v → a ≡ b
one_answer v a b p q =
    sym (checked_back a) ∙ ap (λ (u : Answer). checked_of u.verdict u) (p ∙ sym q) ∙ checked_back b

pub one_span : (v : Part) (a b : Span) → part_of a ≡ v → part_of b ≡ v → a ≡ b
unfolding part_of
one_span v a b p q = ap (λ (u : Part). record { start = u.start; end = u.end }) (p ∙ sym q)

module _ (part : Part) (whole a b : Bor (List ℕ)) (p : Lies part whole a) (q : Lies part whole b) where
  pub one-content : a.now ≡ b.now
  one-content = p.holds ∙ sym q.holds

  pub one_place : a.ref_ptr ≡ b.ref_ptr
  one_place = ap₂ (λ (m n : ℕ). (m, n)) (p.block ∙ sym q.block) (p.place ∙ sym q.place)

-- Parts that begin at different places are different outcomes, also where both are empty.
pub places-apart : (m n : Part) (whole a b : Bor (List ℕ)) → Lies m whole a → Lies n whole b → a.ref_ptr ≡ b.ref_ptr → m.start ≡ n.start
places-apart m n whole a b p q e =
    omega (arith, p.place, q.place, ap (λ (x : ℕ × ℕ). x.1) e)
