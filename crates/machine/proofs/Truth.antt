-- Laws of tests: conjunction, disjunction, negation and the two values. Assumes nothing.
use mathlib.Core.Path.{◌≡◌, refl, sym, ap₂, subst}
use mathlib.Core.Logic.{◌⊎◌, inl, inr}
use mathlib.Core.Bool.{Bool, true, false, not, ◌&&◌, ◌||◌, and-true, and-false}
use lib.Dec.{T}

pub and_left : (a b : Bool) → T (a && b) → T a
and_left true b t = tt
and_left false b t = t

pub and_right : (a b : Bool) → T (a && b) → T b
and_right true b t = t
and_right false b t = absurd t

pub both : (a b : Bool) → T a → T b → T (a && b)
both true b s t = t
both false b s t = s

pub or_cases : (a b : Bool) → T (a || b) → T a ⊎ T b
or_cases true b t = inl tt
or_cases false b t = inr t

pub or_left : (a b : Bool) → T a → T (a || b)
or_left true b t = tt
or_left false b t = absurd t

pub or_right : (a b : Bool) → T b → T (a || b)
or_right true b t = tt
or_right false b t = t

pub not-and : (a b : Bool) → T (not (a && b)) → T a → T (not b)
not-and true b t s = t
not-and false b t s = absurd s

pub and-not : (a b : Bool) → (T a → T (not b)) → T (not (a && b))
and-not true b f = f tt
and-not false b f = tt

pub not-or_left : (a b : Bool) → T (not (a || b)) → T (not a)
not-or_left true b t = t
not-or_left false b t = tt

pub not-or-right : (a b : Bool) → T (not (a || b)) → T (not b)
not-or-right true b t = absurd t
not-or-right false b t = t

pub neither : (a b : Bool) → T (not a) → T (not b) → T (not (a || b))
neither true b s t = s
neither false b s t = t

-- a test holds or fails
pub decided : (b : Bool) → T b ⊎ T (not b)
decided true = inl tt
decided false = inr tt

pub contrary : (b : Bool) → T b → T (not b) → ⊥
contrary true t s = s
contrary false t s = t

pub refuted : (b : Bool) → (T b → ⊥) → T (not b)
refuted true f = f tt
refuted false f = tt

pub not-not_elim : (b : Bool) → T (not (not b)) → T b
not-not_elim true t = tt
not-not_elim false t = t

pub not-not_intro : (b : Bool) → T b → T (not (not b))
not-not_intro true t = tt
not-not_intro false t = t

-- the two values as equations
pub true_of : (b : Bool) → T b → b ≡ true
true_of true t = refl
true_of false t = absurd t

pub false_of : (b : Bool) → T (not b) → b ≡ false
false_of true t = absurd t
false_of false t = refl

pub of_true : {b : Bool} → b ≡ true → T b
of_true e = subst T (sym e) tt

pub of_false : {b : Bool} → b ≡ false → T (not b)
of_false e = subst (λ (c : Bool). T (not c)) (sym e) tt

-- two tests that imply each other are equal
pub same_test : (a b : Bool) → (T a → T b) → (T b → T a) → a ≡ b
same_test true true f g = refl
same_test true false f g = absurd (f tt)
same_test false true f g = absurd (g tt)
same_test false false f g = refl

pub and_same : {a b s t : Bool} → a ≡ b → s ≡ t → (a && s) ≡ (b && t)
and_same p q = ap₂ (λ (s t : Bool). s && t) p q

-- conjunctions in another order
pub and_turn : (a b c : Bool) → ((a && b) && c) ≡ ((b && c) && a)
and_turn true b c = sym (and-true (b && c))
and_turn false b c = sym (and-false (b && c))

pub and-past : (a b c : Bool) → (a && (b && c)) ≡ ((a && c) && b)
and-past true true c = sym (and-true c)
and-past true false c = sym (and-false c)
and-past false b c = refl

-- the last test stands for another where e holds
pub and_swap : (k e s d b : Bool) → (T e → d ≡ b) → (((k && e) && s) && d) ≡ (((k && s) && b) && e)
and_swap true true s d b h = rw (h tt) (sym (and-true (s && b)))
and_swap true false s d b h = sym (and-false (s && b))
and_swap false e s d b h = refl

-- the fourth test comes last
pub and_last : (a b h f x d : Bool) → (((((a && b) && h) && f) && x) && d) ≡ (((((a && b) && h) && x) && d) && f)
and_last true true true f x d = and_turn f x d
and_last true true false f x d = refl
and_last true false h f x d = refl
and_last false b h f x d = refl
