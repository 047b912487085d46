-- Laws of finishing, of the remaining number and of the chosen step, for any rule of steps. Assumes nothing.
use Prim.Native.Nat.{ℕ, zero, suc, ◌-◌, max, ◌≤◌, ◌<◌, zero-le, suc-le-suc}
use native.Mathlib.Nat.{not-suc-le-zero, le_refl, le_trans, le_of_suc-le-suc, eq-or-lt_of_le, lt-suc_self, le-max_left, le-max_right, max-le}
use native.Mathlib.Omega.{arith}
use mathlib.Core.Path.{◌≡◌, sym, subst}
use mathlib.Core.Logic.{◌↔◌, ◌⊎◌, inl, inr, ⊎_elim}
use mathlib.Core.Bool.{Bool, not}
use lib.Dec.{T}
use Rattle.machine.specs.Sets.{all_below, any_below}
use Rattle.machine.specs.Machine.{Machine, leads, finish, remaining, best}
use Rattle.machine.proofs.Truth.{and_left, and_right, both, or_cases, or_left, or_right, contrary, refuted}
use Rattle.machine.proofs.Sets.{below-cases, First, all-at, all_of, any_at, any_of, first_below_lem, first_some, first-at_most, le-or-lt}
use Rattle.machine.proofs.Lawful.{Lawful}

-- what passes from every number to the next passes to every later one
pub later {ℓ} : (P : ℕ → Type ℓ) → ((t : ℕ) → P t → P (suc t)) → (t u : ℕ) → t ≤ u → P t → P u
later P f t zero l p = subst P (omega arith) p
later P f t (suc u) l p =
    ⊎_elim (λ (e : t ≡ suc u). subst P e p) (λ (k : t < suc u). f u (later P f t u (le_of_suc-le-suc k) p)) (eq-or-lt_of_le l)

module _ (M : Machine) where
  -- what a step that leads to a property says: it is legal, and every next state has the property
  pub leads-legal : (f : M.State → Bool) (s : M.State) (x : ℕ) → T (leads M f s x) → T (M.legal s x)
  unfolding leads
  leads-legal f s x h = and_left (M.legal s x) (all_below M.words (λ w. f (M.next s x w))) h

  pub leads-next : (f : M.State → Bool) (s : M.State) (x : ℕ) → T (leads M f s x) → (w : ℕ) → w < M.words → T (f (M.next s x w))
  unfolding leads
  leads-next f s x h =
      all-at M.words (λ w. f (M.next s x w)) (and_right (M.legal s x) (all_below M.words (λ w. f (M.next s x w))) h)

  pub leads_of : (f : M.State → Bool) (s : M.State) (x : ℕ) → T (M.legal s x)
      → ((w : ℕ) → w < M.words → T (f (M.next s x w))) → T (leads M f s x)
  unfolding leads
  leads_of f s x l h =
      both (M.legal s x) (all_below M.words (λ w. f (M.next s x w))) l (all_of M.words (λ w. f (M.next s x w)) h)

  -- finishing: the state is complete, or a step leads to states that finish one cycle sooner
  pub finish-complete : (t : ℕ) (s : M.State) → T (M.complete s) → T (finish M t s)
  unfolding finish
  finish-complete zero s c = c
  finish-complete (suc t) s c = or_left (M.complete s) (any_below M.steps (leads M (finish M t) s)) c

  pub finish-step : (t : ℕ) (s : M.State) (x : ℕ) → x < M.steps → T (leads M (finish M t) s x) → T (finish M (suc t) s)
  unfolding finish
  finish-step t s x l h =
      or_right (M.complete s) (any_below M.steps (leads M (finish M t) s)) (any_of M.steps (leads M (finish M t) s) x l h)

  pub finish-cases : (t : ℕ) (s : M.State) → T (finish M (suc t) s)
      → T (M.complete s) ⊎ ((x : ℕ) × (x < M.steps) × T (leads M (finish M t) s x))
  unfolding finish
  finish-cases t s h =
      ⊎_elim (λ (c : T (M.complete s)). inl c)
      (λ (a : T (any_below M.steps (leads M (finish M t) s))). inr (any_at M.steps (leads M (finish M t) s) a))
      (or_cases (M.complete s) (any_below M.steps (leads M (finish M t) s)) h)

  -- where next states that finish within t cycles finish within u, the state finishes within one more than u
  finish_carry : (t u : ℕ) (s : M.State) → T (finish M (suc t) s)
      → ((x w : ℕ) → T (M.legal s x) → T (finish M t (M.next s x w)) → T (finish M u (M.next s x w))) → T (finish M (suc u) s)
  finish_carry t u s h f = ⊎_elim (finish-complete (suc u) s) carry (finish-cases t s h)
    where
      carry : (x : ℕ) × (x < M.steps) × T (leads M (finish M t) s x) → T (finish M (suc u) s)
      carry r =
          let x = r.0 in
          let legal = leads-legal (finish M t) s x r.2 in
          finish-step u s x r.1 (leads_of (finish M u) s x legal (λ w l. f x w legal (leads-next (finish M t) s x r.2 w l)))

  -- more cycles do no harm
  pub finish_more : (t : ℕ) (s : M.State) → T (finish M t s) → T (finish M (suc t) s)
  unfolding finish
  finish_more zero s h = finish-complete 1 s h
  finish_more (suc t) s h = finish_carry t (suc t) s h (λ x w l. finish_more t (M.next s x w))

  pub finish_later : (t u : ℕ) (s : M.State) → t ≤ u → T (finish M t s) → T (finish M u s)
  finish_later t u s = later (λ k. T (finish M k s)) (λ k. finish_more k s) t u

  -- the state has a remaining number: it is not missing
  abbrev pub HasNumber : M.State → Type 0
  HasNumber s = remaining M s ≤ M.horizon

  -- the remaining number, where it is not missing, is the least number of cycles within which the state finishes
  pub remaining-finish : (s : M.State) → HasNumber s → T (finish M (remaining M s) s)
  unfolding remaining
  remaining-finish s h = (first_below_lem (suc M.horizon) (λ t. finish M t s) (suc-le-suc h)).holds

  pub remaining-least : (t : ℕ) (s : M.State) → T (finish M t s) → t ≤ M.horizon → remaining M s ≤ t
  unfolding remaining
  remaining-least t s h l = first-at_most (suc M.horizon) (λ u. finish M u s) t h (suc-le-suc l)

  -- a state that is not complete has a remaining number above 0
  pub remaining_positive : (s : M.State) → T (not (M.complete s)) → HasNumber s → 0 < remaining M s
  remaining_positive s n h = positive (remaining M s) (remaining-finish s h)
    where
      positive : (t : ℕ) → T (finish M t s) → 0 < t
      positive zero k = absurd (contrary (M.complete s) (unfold finish in k) n)
      positive (suc t) k = suc-le-suc zero-le

  -- the chosen step is the smallest that leads to states that finish one cycle sooner
  pub best-first : (s : M.State) → T (not (M.complete s)) → HasNumber s
      → First M.steps (leads M (finish M (remaining M s - 1)) s) (best M s)
  unfolding best
  best-first s n h =
      first_some M.steps attains
      (⊎_elim (λ (c : T (M.complete s)). absurd (contrary (M.complete s) c n))
      (λ (r : (x : ℕ) × (x < M.steps) × T (attains x)). any_of M.steps attains r.0 r.1 r.2)
      (finish-cases (remaining M s - 1) s (subst (λ (t : ℕ). T (finish M t s)) one_more (remaining-finish s h))))
    where
      attains : ℕ → Bool
      attains = leads M (finish M (remaining M s - 1)) s

      one_more : remaining M s ≡ suc (remaining M s - 1)
      one_more = omega (arith, remaining_positive s n h)

  pub best-leads : (s : M.State) → T (not (M.complete s)) → HasNumber s
      → T (leads M (finish M (remaining M s - 1)) s (best M s))
  best-leads s n h = (best-first s n h).holds

  pub best-legal : (s : M.State) → T (not (M.complete s)) → HasNumber s → T (M.legal s (best M s))
  best-legal s n h = leads-legal (finish M (remaining M s - 1)) s (best M s) (best-leads s n h)

  pub best_finishes : (s : M.State) → T (not (M.complete s)) → HasNumber s
      → (w : ℕ) → w < M.words → T (finish M (remaining M s - 1) (M.next s (best M s) w))
  best_finishes s n h = leads-next (finish M (remaining M s - 1)) s (best M s) (best-leads s n h)

module _ (M : Machine) (L : Lawful M) where
  -- no more cycles than the rank are needed
  pub finish-within_rank : (t : ℕ) (s : M.State) → T (finish M t s) → (u : ℕ) → L.rank s ≤ u → T (finish M u s)
  unfolding finish
  finish-within_rank zero s h u r = finish-complete M u s h
  finish-within_rank (suc t) s h zero r =
      ⊎_elim (finish-complete M zero s)
      (λ (k : (x : ℕ) × (x < M.steps) × T (leads M (finish M t) s x)). absurd
      (not-suc-le-zero (le_trans (L.rank_falls s k.0 0 (leads-legal M (finish M t) s k.0 k.2)) r)))
      (finish-cases M t s h)
  finish-within_rank (suc t) s h (suc u) r =
      finish_carry M t u s h (λ x w l k. finish-within_rank t (M.next s x w) k u (omega (arith, L.rank_falls s x w l)))

  -- a state whose rank is within the horizon has a remaining number exactly if it can finish at all
  pub remaining_of_finish : (t : ℕ) (s : M.State) → T (finish M t s) → L.rank s ≤ M.horizon
      → HasNumber M s × (remaining M s ≤ t)
  remaining_of_finish t s h r =
      (known, ⊎_elim (remaining-least M t s h) (λ (l : M.horizon < t). omega (arith, known)) (le-or-lt t M.horizon))
    where
      known : HasNumber M s
      known = remaining-least M M.horizon s (finish-within_rank t s h M.horizon r) (le_refl M.horizon)

  pub remaining_missing : (s : M.State) → ¬ HasNumber M s → L.rank s ≤ M.horizon
      → (t : ℕ) → T (not (finish M t s))
  remaining_missing s n r t = refuted (finish M t s) (λ h. n (remaining_of_finish t s h r).0)

-- the largest of the numbers f gives below n; 0 where there is none
unfoldable pub largest_below : ℕ → (ℕ → ℕ) → ℕ
largest_below zero f = 0
largest_below (suc n) f = max (largest_below n f) (f n)

largest-at : (n : ℕ) (f : ℕ → ℕ) (i : ℕ) → i < n → f i ≤ largest_below n f
unfolding largest_below
largest-at zero f i h = absurd (not-suc-le-zero h)
largest-at (suc n) f i h =
    ⊎_elim (λ (l : i < n). le_trans (largest-at n f i l) (le-max_left (largest_below n f) (f n)))
    (λ (e : i ≡ n). subst (λ (k : ℕ). f k ≤ max (largest_below n f) (f n)) (sym e) (le-max_right (largest_below n f) (f n))) (below-cases h)

largest-within : (n : ℕ) (f : ℕ → ℕ) (k : ℕ) → ((i : ℕ) → i < n → f i ≤ k) → largest_below n f ≤ k
unfolding largest_below
largest-within zero f k h = zero-le
largest-within (suc n) f k h = max-le (largest-within n f k (λ i l. h i (omega arith))) (h n (lt-suc_self n))

module _ (M : Machine) where
  -- all next states of s by the step x have a remaining number
  abbrev pub AllHave : M.State → ℕ → Type 0
  AllHave s x = (w : ℕ) → w < M.words → HasNumber M (M.next s x w)

  -- the largest remaining number among the next states of s by the step x
  unfoldable pub largest : M.State → ℕ → ℕ
  largest s x = largest_below M.words (λ w. remaining M (M.next s x w))

  -- The remaining number is 0 if the state is complete, otherwise the least over legal steps of 1 plus the largest
  -- remaining number among the next states. It is missing if there is no legal step all of whose next states have one.
  pub record RemainingSentence (s : M.State) : Type 0 where
    pub complete : T (M.complete s) → remaining M s ≡ 0
    pub missing : T (not (M.complete s)) → HasNumber M s ↔ ((x : ℕ) × T (M.legal s x) × AllHave s x)
    pub attained : T (not (M.complete s)) → HasNumber M s
        → (x : ℕ) × T (M.legal s x) × AllHave s x × (remaining M s ≡ suc (largest s x))
    pub least : T (not (M.complete s)) → (x : ℕ) → T (M.legal s x) → AllHave s x → remaining M s ≤ suc (largest s x)

  -- x is the smallest step that attains the remaining number of s
  pub record SmallestAttaining (s : M.State) (x : ℕ) : Type 0 where
    pub legal : T (M.legal s x)
    pub have : AllHave s x
    pub attains : remaining M s ≡ suc (largest s x)
    pub smallest : (y : ℕ) → y < x → T (M.legal s y) → AllHave s y → remaining M s < suc (largest s y)

  -- a step leads to states that finish within t cycles exactly if the largest remaining number among them is at most t
  leads-largest : (t : ℕ) (s : M.State) (x : ℕ) → T (M.legal s x) → AllHave s x → largest s x ≤ t → T (leads M (finish M t) s x)
  unfolding largest
  leads-largest t s x l a h =
      leads_of M (finish M t) s x l
      (λ w k. let u = M.next s x w in
      finish_later M (remaining M u) t u (le_trans (largest-at M.words (λ v. remaining M (M.next s x v)) w k) h) (remaining-finish M u (a w k)))

  largest-leads : (t : ℕ) (s : M.State) (x : ℕ) → T (leads M (finish M t) s x) → t ≤ M.horizon → AllHave s x × (largest s x ≤ t)
  unfolding largest
  largest-leads t s x h l = (λ w k. le_trans (within w k) l, largest-within M.words (λ w. remaining M (M.next s x w)) t within)
    where
      within : (w : ℕ) → w < M.words → remaining M (M.next s x w) ≤ t
      within w k = remaining-least M t (M.next s x w) (leads-next M (finish M t) s x h w k) l

module _ (M : Machine) (L : Lawful M) (s : M.State) (r : L.rank s ≤ M.horizon) where
  -- a legal step all of whose next states have a remaining number gives the state one, and a bound on it
  by_step : (x : ℕ) → T (M.legal s x) → AllHave M s x → HasNumber M s × (remaining M s ≤ suc (largest M s x))
  by_step x l a =
      remaining_of_finish M L (suc (largest M s x)) s
      (finish-step M (largest M s x) s x (L.step-below s x l) (leads-largest M (largest M s x) s x l a (le_refl (largest M s x)))) r

  pub best_sentence : T (not (M.complete s)) → HasNumber M s → SmallestAttaining M s (best M s)
  best_sentence n h = record {
    legal = best-legal M s n h;
    have = known.0;
    attains = omega (arith, known.1, remaining_positive M s n h, (by_step (best M s) (best-legal M s n h) known.0).1);
    smallest = smallest;
  }
    where
      known : AllHave M s (best M s) × (largest M s (best M s) ≤ remaining M s - 1)
      known = largest-leads M (remaining M s - 1) s (best M s) (best-leads M s n h) (omega arith)

      smallest : (y : ℕ) → y < best M s → T (M.legal s y) → AllHave M s y → remaining M s < suc (largest M s y)
      smallest y k l a =
          ⊎_elim (λ (m : remaining M s ≤ largest M s y). suc-le-suc m)
          (λ (m : largest M s y < remaining M s). absurd
          (contrary (leads M (finish M (remaining M s - 1)) s y) (leads-largest M (remaining M s - 1) s y l a (omega arith)) ((best-first M s n h).least y k)))
          (le-or-lt (remaining M s) (largest M s y))

  pub remaining_sentence : RemainingSentence M s
  remaining_sentence = record {
    complete = λ c. omega (arith, remaining-least M 0 s (finish-complete M 0 s c) zero-le);
    missing = λ n. (λ h. (best M s, best-legal M s n h, (best_sentence n h).have), λ k. (by_step k.0 k.1 k.2).0);
    attained = λ n h. let b = best_sentence n h in (best M s, b.legal, b.have, b.attains);
    least = λ n x l a. (by_step x l a).1;
  }
