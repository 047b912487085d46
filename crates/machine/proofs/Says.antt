-- Tests read as statements, both ways at once. Assumes nothing.
use Prim.Native.Nat.{ℕ, suc, ◌≤◌, ◌<◌}
use native.Mathlib.Omega.{arith}
use mathlib.Core.Path.{◌≡◌, subst}
use mathlib.Core.Logic.{◌⊎◌, inl, inr, ⊎_elim, ◌≢◌}
use mathlib.Core.Bool.{Bool, not, ◌&&◌, ◌||◌}
use lib.Dec.{T, eqb, leb, ltb, leb→le, le→leb, nleb→lt, eqb→eq, eqb_refl}
use Rattle.machine.specs.Sets.{all_below, any_below}
use Rattle.machine.proofs.Truth.{and_left, and_right, both, or_cases, or_left, or_right, not-or_left, not-or-right, neither, not-and, and-not, not-not_elim, not-not_intro, decided, contrary, refuted}
use Rattle.machine.proofs.Sets.{all-at, all_of, any_at, any_of, any_failed, none_any}

-- the test b passes exactly when P holds, or fails exactly when P holds
pub record Says (b : Bool) (P : Type 0) : Type 0 where
  pub to : T b → P
  pub from : P → T b

pub record Denies (b : Bool) (P : Type 0) : Type 0 where
  pub to : T (not b) → P
  pub from : P → T (not b)

pub says_test : (b : Bool) → Says b (T b)
says_test b = record { to = λ t. t; from = λ t. t }

pub denies_test : (b : Bool) → Denies b (T (not b))
denies_test b = record { to = λ t. t; from = λ t. t }

pub says_leb : (m n : ℕ) → Says (leb m n) (m ≤ n)
says_leb m n = record { to = leb→le m n; from = le→leb m n }

pub denies_leb : (m n : ℕ) → Denies (leb m n) (n < m)
denies_leb m n = record { to = nleb→lt m n; from = λ h. refuted (leb m n) (λ t. omega (arith, leb→le m n t)) }

pub says_ltb : (m n : ℕ) → Says (ltb m n) (m < n)
says_ltb m n = says_leb (suc m) n

pub denies_ltb : (m n : ℕ) → Denies (ltb m n) (n ≤ m)
denies_ltb m n =
    record { to = λ t. omega (arith, nleb→lt (suc m) n t); from = λ h. (denies_leb (suc m) n).from (omega arith) }

pub says_eqb : (m n : ℕ) → Says (eqb m n) (m ≡ n)
says_eqb m n = record { to = eqb→eq m n; from = λ e. subst (λ (k : ℕ). T (eqb m k)) e (eqb_refl m) }

pub denies_eqb : (m n : ℕ) → Denies (eqb m n) (m ≢ n)
denies_eqb m n =
    record {
      to = λ t e. contrary (eqb m n) ((says_eqb m n).from e) t;
      from = λ f. refuted (eqb m n) (λ t. f (eqb→eq m n t));
    }

pub says_not : {b : Bool} {P : Type 0} → Denies b P → Says (not b) P
says_not r = record { to = r.to; from = r.from }

pub denies_not : {b : Bool} {P : Type 0} → Says b P → Denies (not b) P
denies_not {b} r =
    record { to = λ t. r.to (not-not_elim b t); from = λ p. not-not_intro b (r.from p) }

pub says_and : {a b : Bool} {P Q : Type 0} → Says a P → Says b Q → Says (a && b) (P × Q)
says_and {a} {b} r s =
    record {
      to = λ t. (r.to (and_left a b t), s.to (and_right a b t));
      from = λ p. both a b (r.from p.0) (s.from p.1);
    }

pub says_or : {a b : Bool} {P Q : Type 0} → Says a P → Says b Q → Says (a || b) (P ⊎ Q)
says_or {a} {b} {P} {Q} r s =
    record {
      to = λ t. ⊎_elim (λ (u : T a). inl (r.to u)) (λ (u : T b). inr (s.to u)) (or_cases a b t);
      from = ⊎_elim (λ (p : P). or_left a b (r.from p)) (λ (q : Q). or_right a b (s.from q));
    }

pub denies_or : {a b : Bool} {P Q : Type 0} → Denies a P → Denies b Q → Denies (a || b) (P × Q)
denies_or {a} {b} r s =
    record {
      to = λ t. (r.to (not-or_left a b t), s.to (not-or-right a b t));
      from = λ p. neither a b (r.from p.0) (s.from p.1);
    }

pub denies_and : {a b : Bool} {P Q : Type 0} → Says a P → Denies b Q → Denies (a && b) (P → Q)
denies_and {a} {b} r s =
    record {
      to = λ t p. s.to (not-and a b t (r.from p));
      from = λ f. and-not a b (λ t. s.from (f (r.to t)));
    }

pub says_implies : {a b : Bool} {P Q : Type 0} → Says a P → Says b Q → Says (not a || b) (P → Q)
says_implies {a} {b} r s =
    record {
      to = λ t p. ⊎_elim (λ (u : T (not a)). absurd (contrary a (r.from p) u)) s.to (or_cases (not a) b t);
      from = λ f. ⊎_elim (λ (u : T a). or_right (not a) b (s.from (f (r.to u)))) (λ (u : T (not a)). or_left (not a) b u) (decided a);
    }

module _ {n : ℕ} {f : ℕ → Bool} {P : ℕ → Type 0} where
  pub says_all : ((i : ℕ) → Says (f i) (P i)) → Says (all_below n f) ((i : ℕ) → i < n → P i)
  says_all r =
      record {
        to = λ t i h. (r i).to (all-at n f t i h);
        from = λ p. all_of n f (λ i h. (r i).from (p i h));
      }

  pub says_any : ((i : ℕ) → Says (f i) (P i)) → Says (any_below n f) ((i : ℕ) × (i < n) × P i)
  says_any r =
      record {
        to = λ t. let a = any_at n f t in (a.0, a.1, (r a.0).to a.2);
        from = λ p. any_of n f p.0 p.1 ((r p.0).from p.2);
      }

  pub denies_any : ((i : ℕ) → Denies (f i) (P i)) → Denies (any_below n f) ((i : ℕ) → i < n → P i)
  denies_any r =
      record {
        to = λ t i h. (r i).to (any_failed n f t i h);
        from = λ p. none_any n f (λ i h. (r i).from (p i h));
      }
