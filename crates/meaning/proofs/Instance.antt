-- A taken graph's machine is lawful, so the theorems on rules of steps hold of its schedules and tables. Assumes nothing.
use Prim.Native.Nat.{ℕ, ◌<◌}
use native.Mathlib.Omega.{arith}
use mathlib.Core.Path.{◌≡◌, refl, sym, ◌∙◌, subst}
use mathlib.Core.Logic.{◌⊎◌, inl, inr, ⊎_elim}
use mathlib.Core.Bool.{Bool, false, not}
use lib.Dec.{T}
use lib.Pow.{pow_pos}
use Rattle.machine.specs.Sets.{has, count_below}
use Rattle.machine.proofs.Truth.{not-not_intro, decided, contrary, refuted}
use Rattle.machine.proofs.Sets.{count-le, count_less, has-zero, set_ext, member, set_below}
use Rattle.machine.proofs.Lawful.{Lawful}
use Rattle.meaning.specs.Graph.{Graph, operation_count, control_count, producer}
use Rattle.meaning.specs.Steps.{State, resolved, legal, after, before, same, machine_of}
use Rattle.machine.proofs.Says.{Says, says_ltb, says_eqb, says_and, says_or}
use Rattle.meaning.proofs.Taken.{Taken}
use Rattle.meaning.proofs.Legal.{legal_means, history, members-done, nothing-else, values-below, fork-kept, fork-taken, fork-open}

-- The order of rows within a cycle.
says_before : (r s : State)
    → Says (before r s) ((r.values < s.values) ⊎ ((r.values ≡ s.values) × (r.done < s.done)))
unfolding before
says_before r s =
    says_or (says_ltb r.values s.values) (says_and (says_eqb r.values s.values) (says_ltb r.done s.done))

before_trans : (r s u : State) → T (before r s) → T (before s u) → T (before r u)
before_trans r s u p q =
    (says_before r u).from (⊎_elim
    (λ (h : r.values < s.values). inl (⊎_elim (λ (k : s.values < u.values). omega arith)
    (λ (k : (s.values ≡ u.values) × (s.done < u.done)). omega arith) ((says_before s u).to q)))
    (λ (h : (r.values ≡ s.values) × (r.done < s.done)). ⊎_elim (λ (k : s.values < u.values). inl (omega arith))
    (λ (k : (s.values ≡ u.values) × (s.done < u.done)). inr (omega arith)) ((says_before s u).to q))
    ((says_before r s).to p))

before-not : (s : State) → T (not (before s s))
before-not s =
    refuted (before s s) (λ t. ⊎_elim (λ (h : s.values < s.values). omega arith)
    (λ (h : (s.values ≡ s.values) × (s.done < s.done)). omega arith) ((says_before s s).to t))

says_same : (r s : State) → Says (same r s) ((r.done ≡ s.done) × (r.values ≡ s.values))
unfolding same
says_same r s = says_and (says_eqb r.done s.done) (says_eqb r.values s.values)

pub state_ext : (r s : State) → r.done ≡ s.done → r.values ≡ s.values → r ≡ s
state_ext r s d v = λ i. record { done = d i; values = v i }

-- the number of operations that are not done
abbrev pub undone : Graph → State → ℕ
undone g s = count_below (operation_count g) (λ j. not (has s.done j))

-- control b is resolved in s
abbrev pub settled : Graph → State → ℕ → Bool
settled g s b = resolved g s.done s.values b

-- the word w agrees with s on every resolved control
abbrev Agrees : Graph → State → ℕ → Type 0
Agrees g s w = (b : ℕ) → b < control_count g → T (settled g s b) → has w b ≡ has s.values b

-- A step x from s in a taken graph, where the operation of every control is one of the graph's.
module _ (g : Graph) (taken : Taken g) (s : State) (x : ℕ) where
  abbrev pub next : ℕ → State
  next w = after g s x w

  pub rank_falls : (w : ℕ) → T (legal g s x) → undone g (next w) < undone g s
  rank_falls w t =
      let n = operation_count g in
      let r = (legal_means g s x).0 t in
      let m = member n x (set_below n x (λ j h. (r.fresh j h).0)) r.filled in
      count_less n (λ j. not (has (next w).done j)) (λ j. not (has s.done j))
      (λ j h u. refuted (has s.done j) (λ v. contrary (has (next w).done j) (history g s x w j v h) u))
      m.0 m.1
      (not-not_intro (has (next w).done m.0) (members-done g s x w m.0 m.2 m.1))
      (r.fresh m.0 m.2).1

  settled_stays : (w b : ℕ) → b < control_count g → T (settled g s b) → T (settled g (next w) b)
  unfolding resolved
  settled_stays w b h t = history g s x w (producer g b) t (taken.producer-below b h)

  settled-begun : (w b : ℕ) → b < control_count g → T (has x (producer g b)) → T (settled g (next w) b)
  unfolding resolved
  settled-begun w b h t = members-done g s x w (producer g b) t (taken.producer-below b h)

  settled-cases : (w b : ℕ) → T (settled g (next w) b) → T (settled g s b) ⊎ T (has x (producer g b))
  unfolding resolved
  settled-cases w b t = (nothing-else g s x w (producer g b) t).1

  -- a control that is still open afterwards has no value
  pub open_values : (w b : ℕ) → b < control_count g → T (not (settled g (next w) b)) → has (next w).values b ≡ false
  open_values w b h n =
      fork-open g s x w b h (refuted (settled g s b) (λ t. contrary (settled g (next w) b) (settled_stays w b h t) n))
      (refuted (has x (producer g b)) (λ t. contrary (settled g (next w) b) (settled-begun w b h t) n))

  agrees_next : (w : ℕ) → Agrees g s w → Agrees g (next w) w
  agrees_next w on b h t =
      ⊎_elim (λ (k : T (settled g s b)). on b h k ∙ sym (fork-kept g s x w b h k))
      (λ (k : T (not (settled g s b))). sym (fork-taken g s x w b h k (begun k))) (decided (settled g s b))
    where
      begun : T (not (settled g s b)) → T (has x (producer g b))
      begun k =
          ⊎_elim (λ (u : T (settled g s b)). absurd (contrary (settled g s b) u k)) (λ (u : T (has x (producer g b))). u)
          (settled-cases w b t)

  agrees_back : (w v : ℕ) → Agrees g (next w) v → Agrees g s v
  agrees_back w v on b h t = on b h (settled_stays w b h t) ∙ fork-kept g s x w b h t

  agrees_same : (w v : ℕ) → Agrees g (next w) v → next v ≡ next w
  unfolding after
  agrees_same w v on =
      state_ext (next v) (next w) refl
      (set_ext (control_count g) (next v).values (next w).values (values-below g s x v)
      (values-below g s x w) each)
    where
      each : (b : ℕ) → b < control_count g → has (next v).values b ≡ has (next w).values b
      each b h =
          ⊎_elim (λ (k : T (settled g s b)). fork-kept g s x v b h k ∙ sym (fork-kept g s x w b h k))
          (λ (k : T (not (settled g s b))). ⊎_elim
          (λ (u : T (has x (producer g b))). fork-taken g s x v b h k u ∙ on b h (settled-begun w b h u))
          (λ (u : T (not (has x (producer g b)))).
          fork-open g s x v b h k u ∙ sym (fork-open g s x w b h k u))
          (decided (has x (producer g b)))) (decided (settled g s b))

agrees_start : (g : Graph) (w : ℕ) → Agrees g (machine_of g).start w
unfolding resolved
agrees_start g w b h t = absurd (subst T (has-zero (producer g b)) t)

pub lawful : (g : Graph) → Taken g → Lawful (machine_of g)
lawful g taken =
    record {
      rank = undone g;
      rank_start = count-le (operation_count g) (λ j. not (has 0 j));
      rank_falls = rank_falls g taken;
      step-below = λ s x t. set_below (operation_count g) x (λ j h. (((legal_means g s x).0 t).fresh j h).0);
      word-start = pow_pos (control_count g);
      word_next = λ s x w. values-below g s x w;
      same-eq = λ r s t. let e = (says_same r s).to t in state_ext r s e.0 e.1;
      eq-same = λ s. (says_same s s).from (refl, refl);
      before-not = before-not;
      before_trans = before_trans;
      before-word = λ r s h. (says_before r s).from (inl h);
      On = Agrees g;
      on_start = agrees_start g;
      on_next = agrees_next g taken;
      on_back = agrees_back g taken;
      on_same = agrees_same g taken;
      on_word = λ s b h t. refl;
    }

-- its rank is the number of operations that are not done
pub rank_is : (g : Graph) (ok : Taken g) (s : State) → (lawful g ok).rank s ≡ undone g s
unfolding lawful
rank_is g ok s = refl
