-- `parts::Kind::from` meets its contract. Assumes nothing.
use Prim.Native.Nat.{ℕ, zero, suc}
use native.Mathlib.Omega.{arith}
use mathlib.Core.Path.{◌≡◌, refl, sym, ap}
use Rattle.std.specs.Prelude.{◌≢◌}
use Rattle.parts.specs.declared.Kind.TheVariants.{Unknown}
use Rattle.parts.specs.Fields.{kind_of}
use Rattle.parts.proofs.KindFromU32.from.Goals as goal

pub returns-in-0 : goal.returns-in-0
unfolding kind_of
returns-in-0 c = sym (ap kind_of c.in-0.is)

pub returns-in-1 : goal.returns-in-1
unfolding kind_of
returns-in-1 c = sym (ap kind_of c.in-1.is)

other : (n : ℕ) → n ≢ 0 → n ≢ 1 → Unknown n ≡ kind_of n
unfolding kind_of
other zero p q = absurd (p refl)
other (suc zero) p q = absurd (q refl)
other (suc (suc n)) p q = refl

pub returns-in_default : goal.returns-in_default
returns-in_default c = other _ (λ e. absurd (omega (arith, e))) (λ e. absurd (omega (arith, e)))
