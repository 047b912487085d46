-- What the number of states with a property is; the list of reachable states holds exactly these, each once, so its length
-- is their number. Assumes nothing.
use Prim.Native.Nat.{ℕ, zero, suc, ◌+◌, ◌≤◌, ◌<◌, zero-le}
use native.Mathlib.Nat.{le_antisymm}
use native.Mathlib.Omega.{arith}
use mathlib.Core.Path.{◌≡◌, refl, sym, ◌∙◌, ap, subst}
use mathlib.Core.Logic.{◌⊎◌, inl, inr, ⊎_elim, ⊎_map}
use mathlib.Core.Bool.{Bool, true, false, cond, not}
use mathlib.Core.List.Memᴰ
use mathlib.Core.List.Pairwise
use mathlib.Core.List.{List, [], ◌∷◌, Memᴰ, flat_map, Nodup}
use lib.ListN.{length}
use lib.Dec.{T}
use Rattle.machine.specs.Sets.{list_below}
use Rattle.machine.specs.Machine.{Machine, Reachable, holds, added, successors, reached, state_count}
use Rattle.machine.proofs.Truth.{or_cases, or_left, or_right, contrary, refuted, true_of, of_true}
use Rattle.machine.proofs.Sets.{mem-list, list-mem}
use Rattle.machine.proofs.Lawful.{Lawful}
use Rattle.machine.proofs.Finish.{later}

-- a list with one element in front unless a test holds
module _ {ℓ} {A : Type ℓ} {s : A} (r : A) (l : List A) where
  unless_kept : (b : Bool) → Memᴰ s l → Memᴰ s (cond b l (r ∷ l))
  unless_kept true m = m
  unless_kept false m = Memᴰ.tail m

  unless_new : (b : Bool) → (T b → Memᴰ r l) → s ≡ r → Memᴰ s (cond b l (r ∷ l))
  unless_new true f e = Memᴰ.cast e (f tt)
  unless_new false f e = Memᴰ.head e

  unless_cases : (b : Bool) → Memᴰ s (cond b l (r ∷ l)) → (s ≡ r) ⊎ Memᴰ s l
  unless_cases true m = inr m
  unless_cases false m = Memᴰ.cases_cons m

-- a list without one of its elements is shorter by one and has all the others
removed {ℓ} : {A : Type ℓ} {a : A} {l : List A} → Memᴰ a l
    → (m : List A) × (length l ≡ suc (length m)) × ((b : A) → Memᴰ b l → (b ≡ a) ⊎ Memᴰ b m)
removed (Memᴰ.head {x = x} {xs = xs} e) =
    (xs, refl, λ b m. ⊎_map (λ (k : b ≡ x). k ∙ sym e) (λ (k : Memᴰ b xs). k) (Memᴰ.cases_cons m))
removed {a = a} (Memᴰ.tail {x = x} {xs = xs} n) =
    let r = removed n in (
      x ∷ r.0,
      ap suc r.1,
      λ b m. ⊎_elim (λ (k : b ≡ x). inr (Memᴰ.head k))
          (λ (k : Memᴰ b xs). ⊎_map (λ (e : b ≡ a). e) Memᴰ.tail (r.2 b k)) (Memᴰ.cases_cons m),
    )

module _ (M : Machine) where
  -- no state of the list is held by the part behind it
  pub data Distinct : List M.State → Type 0 where
    none : Distinct []
    more : {s : M.State} {ss : List M.State} → T (not (holds M ss s)) → Distinct ss → Distinct (s ∷ ss)

  -- What it means that n is the number of states with the property P: a list of n states holds exactly these, each once.
  pub record CountOf (P : M.State → Type 0) (n : ℕ) : Type 0 where
    pub list : List M.State
    pub size : length list ≡ n
    pub distinct : Distinct list
    pub listed : (s : M.State) → P s → T (holds M list s)
    pub only : (s : M.State) → T (holds M list s) → P s

  -- as many have another property, if the same states have it
  pub count_same : {P Q : M.State → Type 0} {n : ℕ} → ((s : M.State) → P s → Q s) → ((s : M.State) → Q s → P s) → CountOf P n → CountOf Q n
  count_same to from c =
      record {
        list = c.list;
        size = c.size;
        distinct = c.distinct;
        listed = λ s q. c.listed s (from s q);
        only = λ s h. to s (c.only s h);
      }

  -- n is the number of reachable states
  abbrev pub Counts : ℕ → Type 0
  Counts = CountOf (Reachable M)

module _ (M : Machine) (L : Lawful M) where
  -- `holds` is membership
  pub holds-mem : (l : List M.State) (s : M.State) → T (holds M l s) → Memᴰ s l
  unfolding holds
  holds-mem [] s t = absurd t
  holds-mem (r ∷ rs) s t =
      ⊎_elim (λ (e : T (M.same r s)). Memᴰ.head (sym (L.same-eq r s e))) (λ (m : T (holds M rs s)). Memᴰ.tail (holds-mem rs s m))
      (or_cases (M.same r s) (holds M rs s) t)

  pub mem-holds : {s : M.State} {l : List M.State} → Memᴰ s l → T (holds M l s)
  unfolding holds
  mem-holds {s = s} (Memᴰ.head {x = r} {xs = rs} e) =
      or_left (M.same r s) (holds M rs s) (subst (λ (q : M.State). T (M.same q s)) e (L.eq-same s))
  mem-holds {s = s} (Memᴰ.tail {x = r} {xs = rs} m) = or_right (M.same r s) (holds M rs s) (mem-holds m)

  -- a list whose states differ in pairs repeats none
  pub differ_distinct : {l : List M.State} → Nodup l → Distinct M l
  differ_distinct Pairwise.nil = none
  differ_distinct (Pairwise.cons {a = s} {l = ss} f d) =
      more (refuted (holds M ss s) (λ h. f s ∣ holds-mem ss s h ∣₁ refl)) (differ_distinct d)

  -- `added` holds the states of both lists and no others, and repeats none
  added-kept : {s : M.State} (ss l : List M.State) → Memᴰ s l → Memᴰ s (added M ss l)
  unfolding added
  added-kept [] l m = m
  added-kept (r ∷ rs) l m = unless_kept r (added M rs l) (holds M (added M rs l) r) (added-kept rs l m)

  added_new : {s : M.State} (ss l : List M.State) → Memᴰ s ss → Memᴰ s (added M ss l)
  unfolding added
  added_new [] l m = absurd (Memᴰ.not-nil m)
  added_new {s} (r ∷ rs) l m =
      let rest = added M rs l in
      ⊎_elim (unless_new r rest (holds M rest r) (holds-mem rest r)) (λ (k : Memᴰ s rs). unless_kept r rest (holds M rest r) (added_new rs l k))
      (Memᴰ.cases_cons m)

  added-cases : {s : M.State} (ss l : List M.State) → Memᴰ s (added M ss l) → Memᴰ s ss ⊎ Memᴰ s l
  unfolding added
  added-cases [] l m = inr m
  added-cases {s} (r ∷ rs) l m =
      ⊎_elim (λ (e : s ≡ r). inl (Memᴰ.head e)) (λ (k : Memᴰ s (added M rs l)). ⊎_map Memᴰ.tail (λ (n : Memᴰ s l). n) (added-cases rs l k))
      (unless_cases r (added M rs l) (holds M (added M rs l) r) m)

  added_distinct : (ss l : List M.State) → Distinct M l → Distinct M (added M ss l)
  unfolding added
  added_distinct [] l d = d
  added_distinct (r ∷ rs) l d = unless (holds M (added M rs l) r) more (added_distinct rs l d)
    where
      unless : (b : Bool) → (T (not b) → Distinct M (added M rs l) → Distinct M (r ∷ added M rs l)) → Distinct M (added M rs l)
          → Distinct M (cond b (added M rs l) (r ∷ added M rs l))
      unless true f k = k
      unless false f k = f tt k

  -- the successors are the next states by legal steps
  successor : (s : M.State) → M.complete s ≡ false → (x : ℕ) → T (M.legal s x) → (w : ℕ) → w < M.words
      → Memᴰ (M.next s x w) (successors M s)
  unfolding successors
  successor s c x l w h =
      rw c
      (list-mem M.steps (λ y. cond (M.legal s y) (list_below M.words (λ v. M.next s y v ∷ [])) []) (M.next s x w) x (L.step-below s x l)
      (rw (true_of (M.legal s x) l) (list-mem M.words (λ v. M.next s x v ∷ []) (M.next s x w) w h (Memᴰ.head refl))))

  successor_reachable : (s r : M.State) → Reachable M s → Memᴰ r (successors M s) → Reachable M r
  unfolding successors
  successor_reachable s r q m = unfinished (M.complete s) refl m
    where
      steps : ℕ → List M.State
      steps x = cond (M.legal s x) (list_below M.words (λ w. M.next s x w ∷ [])) []

      legal-step : M.complete s ≡ false → (x : ℕ) (b : Bool) → M.legal s x ≡ b
          → Memᴰ r (cond b (list_below M.words (λ w. M.next s x w ∷ [])) []) → Reachable M r
      legal-step c x true e n =
          let k = mem-list M.words (λ w. M.next s x w ∷ []) r n in
          subst (Reachable M) (sym (Memᴰ.eq_of_singleton k.2)) (Reachable.step q c x (of_true e) k.0 k.1)
      legal-step c x false e n = absurd (Memᴰ.not-nil n)

      unfinished : (b : Bool) → M.complete s ≡ b → Memᴰ r (cond b [] (list_below M.steps steps)) → Reachable M r
      unfinished true c n = absurd (Memᴰ.not-nil n)
      unfinished false c n = let k = mem-list M.steps steps r n in legal-step c k.0 (M.legal s k.0) refl k.2

  -- the successors of a list's states
  flat_new : {r s : M.State} (ss : List M.State) → Memᴰ r ss → Memᴰ s (successors M r) → Memᴰ s (flat_map (successors M) ss)
  unfolding flat_map
  flat_new [] m n = absurd (Memᴰ.not-nil m)
  flat_new {r} {s} (q ∷ qs) m n =
      ⊎_elim (λ (e : r ≡ q). Memᴰ.append_left (flat_map (successors M) qs) (subst (λ (p : M.State). Memᴰ s (successors M p)) e n))
      (λ (k : Memᴰ r qs). Memᴰ.append_right (successors M q) (flat_new qs k n)) (Memᴰ.cases_cons m)

  flat_reachable : (ss : List M.State) → ((s : M.State) → Memᴰ s ss → Reachable M s)
      → (s : M.State) → Memᴰ s (flat_map (successors M) ss) → Reachable M s
  unfolding flat_map
  flat_reachable [] f s m = absurd (Memᴰ.not-nil m)
  flat_reachable (r ∷ rs) f s m =
      ⊎_elim (successor_reachable r s (f r (Memᴰ.head refl))) (flat_reachable rs (λ q n. f q (Memᴰ.tail n)) s)
      (Memᴰ.append_cases (successors M r) m)

  pub reached_distinct : (t : ℕ) → Distinct M (reached M t)
  unfolding reached holds
  reached_distinct zero = more tt none
  reached_distinct (suc t) = added_distinct (flat_map (successors M) (reached M t)) (reached M t) (reached_distinct t)

  -- a state on the list of any round is reachable
  mem-reachable : (t : ℕ) (s : M.State) → Memᴰ s (reached M t) → Reachable M s
  unfolding reached
  mem-reachable zero s m = subst (Reachable M) (sym (Memᴰ.eq_of_singleton m)) Reachable.begin
  mem-reachable (suc t) s m =
      ⊎_elim (flat_reachable (reached M t) (mem-reachable t) s) (mem-reachable t s)
      (added-cases (flat_map (successors M) (reached M t)) (reached M t) m)

  pub listed-reachable : (t : ℕ) (s : M.State) → T (holds M (reached M t) s) → Reachable M s
  listed-reachable t s h = mem-reachable t s (holds-mem (reached M t) s h)

  -- A state that is reached by t steps is on the list of round t. Its rank has fallen by t, so t is within the horizon.
  round : {s : M.State} → Reachable M s → (t : ℕ) × (L.rank s + t ≤ M.horizon) × Memᴰ s (reached M t)
  unfolding reached
  round (Reachable.begin) = (0, omega (arith, L.rank_start), Memᴰ.head refl)
  round (Reachable.step {s} q c x l w h) =
      let r = round q in
      (suc r.0, omega (arith, r.1, L.rank_falls s x w l), added_new (flat_map (successors M) (reached M r.0)) (reached M r.0) (flat_new (reached M r.0) r.2 (successor s c x l w h)))

  pub reachable_rank : (s : M.State) → Reachable M s → L.rank s ≤ M.horizon
  reachable_rank s q = omega (arith, (round q).1)

  pub reachable-listed : (s : M.State) → Reachable M s → T (holds M (reached M M.horizon) s)
  unfolding reached
  reachable-listed s q =
      let r = round q in
      mem-holds
      (later (λ t. Memᴰ s (reached M t)) (λ t. added-kept (flat_map (successors M) (reached M t)) (reached M t)) r.0 M.horizon (omega (arith, r.1)) r.2)

  -- distinct states that are all on another list are at most as many as that list's
  distinct_within : (l m : List M.State) → Distinct M l → ((s : M.State) → Memᴰ s l → Memᴰ s m) → length l ≤ length m
  distinct_within [] m d f = zero-le
  distinct_within (s ∷ ss) m (more n d) f =
      let r = removed (f s (Memᴰ.head refl)) in
      omega (
        arith,
        r.1,
        distinct_within ss r.0 d (λ q k. ⊎_elim (λ (e : q ≡ s). absurd (contrary (holds M ss s) (mem-holds (Memᴰ.cast (sym e) k)) n))
            (λ (o : Memᴰ q r.0). o) (r.2 q (f q (Memᴰ.tail k)))),
      )

  -- only one number is that of the states with a property
  pub number_unique : {P : M.State → Type 0} {m n : ℕ} → CountOf M P m → CountOf M P n → m ≡ n
  number_unique a b = sym a.size ∙ le_antisymm (fewer a b) (fewer b a) ∙ b.size
    where
      fewer : {P : M.State → Type 0} {m n : ℕ} (a : CountOf M P m) (b : CountOf M P n) → length a.list ≤ length b.list
      fewer a b =
          distinct_within a.list b.list a.distinct (λ s m. holds-mem b.list s (b.listed s (a.only s (mem-holds m))))

  -- the count is the number of distinct reachable states, and no other number is
  pub state-count : Counts M (state_count M)
  unfolding state_count
  state-count = record {
    list = reached M M.horizon;
    size = refl;
    distinct = reached_distinct M.horizon;
    listed = reachable-listed;
    only = listed-reachable M.horizon;
  }

  pub count_unique : (n : ℕ) → Counts M n → n ≡ state_count M
  count_unique n c = number_unique c state-count

  -- distinct reachable states are at most as many as the states counted, and exactly as many if there are no others
  module _ (l : List M.State) (d : Distinct M l) (f : (s : M.State) → T (holds M l s) → Reachable M s) where
    pub distinct_length : length l ≤ state_count M
    unfolding state_count
    distinct_length =
        distinct_within l (reached M M.horizon) d (λ s m. holds-mem (reached M M.horizon) s (reachable-listed s (f s (mem-holds m))))

    pub distinct_all : ((s : M.State) → Reachable M s → T (holds M l s)) → length l ≡ state_count M
    distinct_all g = count_unique (length l) (record { list = l; size = refl; distinct = d; listed = g; only = f })
