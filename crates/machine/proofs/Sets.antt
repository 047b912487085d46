-- Laws of sets as numbers and of tests, counts and lists below a bound. Assumes nothing.
use Prim.Native.Nat.{ℕ, zero, suc, ◌+◌, ◌-◌, ◌*◌, ◌^◌, ◌/◌, ◌%◌, ◌≤◌, ◌<◌, zero-le}
use native.Mathlib.Nat.{not-suc-le-zero, le_refl, le_of_lt, lt-suc_self, lt_of_lt_of_le, lt_irrefl, eq-or-lt_of_le, le_of_suc-le-suc, zero-add, add-zero, add-suc, add-le-add, one-mul, zero-mul, suc-mul, mul_assoc, pow-succ', two-pow-succ, div-eq_of_lt, zero-div, mod-lt, mod-add-div', div-lt_iff_lt-mul, add-div_right, add-mul-div_right, add-mul-mod_self_right}
use native.Mathlib.Omega.{arith}
use mathlib.Core.Path.{◌≡◌, refl, sym, ◌∙◌, ap, ap₂, subst}
use mathlib.Core.Logic.{◌⊎◌, inl, inr, ⊎_elim}
use mathlib.Core.Bool.{Bool, true, false, cond, not, ◌&&◌, ◌||◌, and-true, and-false}
use mathlib.Core.List.{List, [], ◌∷◌, ◌++◌, append_assoc, append-nil, flat_map, Memᴰ}
use lib.ListN.{length, get_or, length-append}
use lib.Arith.{le→nltb}
use lib.Dec.{T, eqb, leb, ltb, leb→le, le→leb, nleb→lt, nltb→le}
use borrow.Author.Tests.{eq-eqb, ne_eqb, lt-ltb, le-ltb}
use lib.Pow.{pow_pos, pow_mono, pow-add}
use Rattle.machine.specs.Sets.{has, all_below, any_below, count_below, first_below, mask_below, list_below}
use Rattle.machine.proofs.Truth.{and_left, and_right, both, or_cases, or_left, or_right, not-or_left, not-or-right, decided, contrary, refuted, true_of, false_of, same_test}

-- below suc n: below n, or n
pub below-cases : {i n : ℕ} → i < suc n → (i < n) ⊎ (i ≡ n)
below-cases h = ⊎_elim (λ (e : _ ≡ _). inr e) (λ (l : _ < _). inl l) (eq-or-lt_of_le (le_of_suc-le-suc h))

pub le-or-lt : (a b : ℕ) → (a ≤ b) ⊎ (b < a)
le-or-lt a b = ⊎_elim (λ (t : T (leb a b)). inl (leb→le a b t)) (λ (t : T (not (leb a b))). inr (nleb→lt a b t)) (decided (leb a b))

pub leb-not : (a b : ℕ) → leb a b ≡ not (ltb b a)
leb-not a b = same_test (leb a b) (not (ltb b a)) (λ t. le→nltb b a (leb→le a b t)) (λ t. le→leb a b (nltb→le b a t))

pub trichotomy : (a b : ℕ) → (a ≡ b) ⊎ ((a < b) ⊎ (b < a))
trichotomy a b =
    ⊎_elim (λ (h : a ≤ b). ⊎_elim (λ (e : a ≡ b). inl e) (λ (l : a < b). inr (inl l)) (eq-or-lt_of_le h)) (λ (h : b < a). inr (inr h)) (le-or-lt a b)

pub all-at : (n : ℕ) (f : ℕ → Bool) → T (all_below n f) → (i : ℕ) → i < n → T (f i)
unfolding all_below
all-at zero f t i h = absurd (not-suc-le-zero h)
all-at (suc n) f t i h =
    ⊎_elim (all-at n f (and_left (all_below n f) (f n) t) i)
    (λ (e : i ≡ n). subst (λ (k : ℕ). T (f k)) (sym e) (and_right (all_below n f) (f n) t)) (below-cases h)

pub all_of : (n : ℕ) (f : ℕ → Bool) → ((i : ℕ) → i < n → T (f i)) → T (all_below n f)
unfolding all_below
all_of zero f h = tt
all_of (suc n) f h = both (all_below n f) (f n) (all_of n f (λ i l. h i (omega arith))) (h n (lt-suc_self n))

pub any_at : (n : ℕ) (f : ℕ → Bool) → T (any_below n f) → (i : ℕ) × (i < n) × T (f i)
unfolding any_below
any_at zero f t = absurd t
any_at (suc n) f t =
    ⊎_elim (λ (s : T (any_below n f)). let r = any_at n f s in (r.0, omega (arith, r.1), r.2))
    (λ (s : T (f n)). (n, lt-suc_self n, s)) (or_cases (any_below n f) (f n) t)

pub any_of : (n : ℕ) (f : ℕ → Bool) (i : ℕ) → i < n → T (f i) → T (any_below n f)
unfolding any_below
any_of zero f i h t = absurd (not-suc-le-zero h)
any_of (suc n) f i h t =
    ⊎_elim (λ (l : i < n). or_left (any_below n f) (f n) (any_of n f i l t))
    (λ (e : i ≡ n). or_right (any_below n f) (f n) (subst (λ (k : ℕ). T (f k)) e t)) (below-cases h)

pub all_failed : (n : ℕ) (f : ℕ → Bool) → T (not (all_below n f)) → (i : ℕ) × (i < n) × T (not (f i))
unfolding all_below
all_failed zero f t = absurd t
all_failed (suc n) f t =
    ⊎_elim (λ (s : T (f n)). let r = all_failed n f (rest (all_below n f) (f n) t s) in (r.0, omega (arith, r.1), r.2))
    (λ (s : T (not (f n))). (n, lt-suc_self n, s)) (decided (f n))
  where
    rest : (a b : Bool) → T (not (a && b)) → T b → T (not a)
    rest true true u v = u
    rest true false u v = absurd v
    rest false b u v = tt

pub any_failed : (n : ℕ) (f : ℕ → Bool) → T (not (any_below n f)) → (i : ℕ) → i < n → T (not (f i))
any_failed n f t i h = refuted (f i) (λ s. contrary (any_below n f) (any_of n f i h s) t)

pub none_any : (n : ℕ) (f : ℕ → Bool) → ((i : ℕ) → i < n → T (not (f i))) → T (not (any_below n f))
none_any n f h = refuted (any_below n f) (λ t. let r = any_at n f t in contrary (f r.0) r.2 (h r.0 r.1))

-- it holds nowhere exactly when it fails everywhere
pub none_all : (n : ℕ) (f : ℕ → Bool) → not (any_below n f) ≡ all_below n (λ j. not (f j))
none_all n f =
    same_test (not (any_below n f)) (all_below n (λ j. not (f j))) (λ t. all_of n (λ j. not (f j)) (any_failed n f t))
    (λ t. none_any n f (all-at n (λ j. not (f j)) t))

-- a test of two parts holds somewhere when one of the parts does
pub any-or : (n : ℕ) (f g : ℕ → Bool) → (any_below n f || any_below n g) ≡ any_below n (λ j. f j || g j)
unfolding any_below
any-or zero f g = refl
any-or (suc n) f g = regroup (any_below n f) (f n) (any_below n g) (g n) ∙ ap (λ (b : Bool). b || (f n || g n)) (any-or n f g)
  where
    regroup : (a b c d : Bool) → ((a || b) || (c || d)) ≡ ((a || c) || (b || d))
    regroup true b c d = refl
    regroup false true true d = refl
    regroup false true false d = refl
    regroup false false c d = refl

-- equal tests below the bound
module _ (n : ℕ) (f g : ℕ → Bool) (e : (i : ℕ) → i < n → f i ≡ g i) where
  transfer : (i : ℕ) → i < n → T (f i) → T (g i)
  transfer i h t = subst T (e i h) t

  transfer_back : (i : ℕ) → i < n → T (g i) → T (f i)
  transfer_back i h t = subst T (sym (e i h)) t

  pub all_same : all_below n f ≡ all_below n g
  all_same =
      same_test (all_below n f) (all_below n g) (λ t. all_of n g (λ i h. transfer i h (all-at n f t i h)))
      (λ t. all_of n f (λ i h. transfer_back i h (all-at n g t i h)))

  pub any_same : any_below n f ≡ any_below n g
  any_same =
      same_test (any_below n f) (any_below n g)
      (λ t. let r = any_at n f t in any_of n g r.0 r.1 (transfer r.0 r.1 r.2))
      (λ t. let r = any_at n g t in any_of n f r.0 r.1 (transfer_back r.0 r.1 r.2))

pub count_same : (n : ℕ) (f g : ℕ → Bool) → ((i : ℕ) → i < n → f i ≡ g i) → count_below n f ≡ count_below n g
unfolding count_below
count_same zero f g e = refl
count_same (suc n) f g e =
    ap₂ (λ (a : ℕ) (b : Bool). a + cond b 1 0) (count_same n f g (λ i h. e i (omega arith))) (e n (lt-suc_self n))

pub mask-same : (n : ℕ) (f g : ℕ → Bool) → ((i : ℕ) → i < n → f i ≡ g i) → mask_below n f ≡ mask_below n g
unfolding mask_below
mask-same zero f g e = refl
mask-same (suc n) f g e =
    ap₂ (λ (a : ℕ) (b : Bool). a + cond b (2 ^ n) 0) (mask-same n f g (λ i h. e i (omega arith))) (e n (lt-suc_self n))

-- the first place
pub record First (n : ℕ) (f : ℕ → Bool) (p : ℕ) : Type 0 where
  pub below : p < n
  pub holds : T (f p)
  pub least : (i : ℕ) → i < p → T (not (f i))

pub first_none : (n : ℕ) (f : ℕ → Bool) → T (not (any_below n f)) → first_below n f ≡ n
unfolding first_below any_below
first_none zero f t = refl
first_none (suc n) f t =
    rw (false_of (any_below n f) (not-or_left (any_below n f) (f n) t), false_of (f n) (not-or-right (any_below n f) (f n) t)) refl

first_step : (n : ℕ) (f : ℕ → Bool) → T (not (any_below n f)) → T (f n) → first_below (suc n) f ≡ n
unfolding first_below
first_step n f s t = rw (false_of (any_below n f) s, true_of (f n) t) refl

first-kept : (n : ℕ) (f : ℕ → Bool) → T (any_below n f) → first_below (suc n) f ≡ first_below n f
unfolding first_below
first-kept n f t = rw (true_of (any_below n f) t) refl

pub first_some : (n : ℕ) (f : ℕ → Bool) → T (any_below n f) → First n f (first_below n f)
unfolding any_below
first_some zero f t = absurd t
first_some (suc n) f t =
    ⊎_elim
    (λ (s : T (any_below n f)). subst (First (suc n) f) (sym (first-kept n f s)) (wider (first_below n f) (first_some n f s)))
    (λ (s : T (not (any_below n f))). subst (First (suc n) f) (sym (first_step n f s (last s))) (record {
      below = lt-suc_self n;
      holds = last s;
      least = any_failed n f s;
    })) (decided (any_below n f))
  where
    wider : (p : ℕ) → First n f p → First (suc n) f p
    wider p r = record { below = omega (arith, r.below); holds = r.holds; least = r.least }

    last : T (not (any_below n f)) → T (f n)
    last s = ⊎_elim (λ (u : T (any_below n f)). absurd (contrary (any_below n f) u s)) (λ (u : T (f n)). u) (or_cases (any_below n f) (f n) t)

pub first-le : (n : ℕ) (f : ℕ → Bool) → first_below n f ≤ n
first-le n f =
    ⊎_elim (λ (s : T (any_below n f)). le_of_lt (first_some n f s).below) (λ (s : T (not (any_below n f))). omega (arith, first_none n f s))
    (decided (any_below n f))

pub first_below_lem : (n : ℕ) (f : ℕ → Bool) → first_below n f < n → First n f (first_below n f)
first_below_lem n f h =
    ⊎_elim (first_some n f) (λ (s : T (not (any_below n f))). absurd (lt_irrefl n (subst (λ (k : ℕ). k < n) (first_none n f s) h)))
    (decided (any_below n f))

pub first_unique : (n : ℕ) (f : ℕ → Bool) (p : ℕ) → First n f p → first_below n f ≡ p
first_unique n f p r = ⊎_elim (λ (e : first_below n f ≡ p). e) (λ (h : (first_below n f < p) ⊎ (p < first_below n f)). absurd (⊎_elim low high h)) (trichotomy (first_below n f) p)
  where
    found : First n f (first_below n f)
    found = first_some n f (any_of n f p r.below r.holds)

    low : first_below n f < p → ⊥
    low h = contrary (f (first_below n f)) found.holds (r.least (first_below n f) h)

    high : p < first_below n f → ⊥
    high h = contrary (f p) r.holds (found.least p h)

-- the same for two tests that agree below the bound
pub first-same : (n : ℕ) (f g : ℕ → Bool) → ((i : ℕ) → i < n → f i ≡ g i) → first_below n f ≡ first_below n g
unfolding first_below
first-same zero f g e = refl
first-same (suc n) f g e =
    rw (any_same n f g (λ i h. e i (omega arith)), first-same n f g (λ i h. e i (omega arith)), e n (lt-suc_self n)) refl

-- a place at which f holds is at or above the first
pub first-at_most : (n : ℕ) (f : ℕ → Bool) (i : ℕ) → T (f i) → i < n → first_below n f ≤ i
first-at_most n f i t h =
    ⊎_elim (λ (k : first_below n f ≤ i). k)
    (λ (k : i < first_below n f). absurd (contrary (f i) t ((first_some n f (any_of n f i h t)).least i k)))
    (le-or-lt (first_below n f) i)

-- counts
pub count-le : (n : ℕ) (f : ℕ → Bool) → count_below n f ≤ n
unfolding count_below
count-le zero f = le_refl zero
count-le (suc n) f = one_more (f n) (count-le n f)
  where
    one_more : (b : Bool) → count_below n f ≤ n → count_below n f + cond b 1 0 ≤ suc n
    one_more true h = omega arith
    one_more false h = omega arith

one_at_most : (a b : Bool) → (T a → T b) → cond a 1 0 ≤ cond b 1 0
one_at_most true true h = le_refl 1
one_at_most true false h = absurd (h tt)
one_at_most false true h = omega arith
one_at_most false false h = le_refl 0

pub count_mono : (n : ℕ) (f g : ℕ → Bool) → ((i : ℕ) → i < n → T (f i) → T (g i)) → count_below n f ≤ count_below n g
unfolding count_below
count_mono zero f g h = le_refl zero
count_mono (suc n) f g h =
    add-le-add (count_mono n f g (λ i l. h i (omega arith))) (one_at_most (f n) (g n) (h n (lt-suc_self n)))

-- no number, and no two
pub count_none : (n : ℕ) (f : ℕ → Bool) → ((i : ℕ) → i < n → T (not (f i))) → count_below n f ≡ 0
unfolding count_below
count_none zero f h = refl
count_none (suc n) f h = rw (false_of (f n) (h n (lt-suc_self n)), count_none n f (λ i l. h i (omega arith))) refl

pub count-one : (n : ℕ) (f : ℕ → Bool) → ((i j : ℕ) → i < j → j < n → T (f j) → T (not (f i))) → count_below n f ≤ 1
unfolding count_below
count-one zero f h = zero-le
count-one (suc n) f h =
    ⊎_elim (λ (t : T (f n)). rw (true_of (f n) t, count_none n f (λ i l. h i n l (lt-suc_self n) t)) (le_refl 1))
    (λ (t : T (not (f n))). rw (false_of (f n) t, add-zero (count_below n f)) (count-one n f (λ i j l k. h i j l (omega arith))))
    (decided (f n))

-- one more place makes the count larger
pub count_less : (n : ℕ) (f g : ℕ → Bool) → ((i : ℕ) → i < n → T (f i) → T (g i)) → (j : ℕ) → j < n → T (not (f j)) → T (g j)
    → count_below n f < count_below n g
unfolding count_below
count_less zero f g h j l s t = absurd (not-suc-le-zero l)
count_less (suc n) f g h j l s t =
    ⊎_elim
    (λ (k : j < n). omega (arith, count_less n f g (λ i m. h i (omega arith)) j k s t, one_at_most (f n) (g n) (h n (lt-suc_self n))))
    (λ (k : j ≡ n). omega (
      arith,
      count_mono n f g (λ i m. h i (omega arith)),
      gained (f n) (g n) (subst (λ (i : ℕ). T (not (f i))) k s) (subst (λ (i : ℕ). T (g i)) k t),
    )) (below-cases l)
  where
    gained : (a b : Bool) → T (not a) → T b → cond a 1 0 < cond b 1 0
    gained true b u v = absurd u
    gained false true u v = le_refl 1
    gained false false u v = absurd v

-- numbers from n on are not counted
pub count_cut : (m n : ℕ) (f : ℕ → Bool) → n ≤ m → count_below m (λ j. f j && ltb j n) ≡ count_below n f
unfolding count_below
count_cut m n f h = subst (λ (k : ℕ). count_below k (λ j. f j && ltb j n) ≡ count_below n f) total (further (m - n))
  where
    total : n + (m - n) ≡ m
    total = omega arith

    further : (d : ℕ) → count_below (n + d) (λ j. f j && ltb j n) ≡ count_below n f
    further zero =
        rw (add-zero n) (count_same n (λ j. f j && ltb j n) f (λ j l. ap (λ (t : Bool). f j && t) (lt-ltb j n l) ∙ and-true (f j)))
    further (suc d) = rw (add-suc n d, le-ltb (n + d) n (omega arith), and-false (f (n + d))) (add-zero _ ∙ further d)

-- members
pub has-zero : (j : ℕ) → has 0 j ≡ false
unfolding has
has-zero j = ap (λ (k : ℕ). eqb (k % 2) 1) (zero-div (2 ^ j))

pub has-high : (m n j : ℕ) → m < 2 ^ n → n ≤ j → has m j ≡ false
unfolding has
has-high m n j h l = ap (λ (k : ℕ). eqb (k % 2) 1) (div-eq_of_lt (lt_of_lt_of_le h (pow_mono l)))

-- a multiple of a higher power changes no member below
pub has_above : (m b n j : ℕ) → j < n → has (m + b * 2 ^ n) j ≡ has m j
unfolding has
has_above m b n j h = ap (λ (k : ℕ). eqb k 1) (ap (λ (k : ℕ). (m + k) / 2 ^ j % 2) split ∙ ap (λ (k : ℕ). k % 2) (add-mul-div_right m (b * 2 ^ (n - suc j) * 2) (pow_pos j)) ∙ add-mul-mod_self_right (m / 2 ^ j) (b * 2 ^ (n - suc j)) 2)
  where
    power : 2 ^ n ≡ 2 ^ (n - suc j) * (2 * 2 ^ j)
    power = ap (λ (k : ℕ). 2 ^ k) (total ∙ refl) ∙ pow-add 2 (n - suc j) (suc j) ∙ ap (λ (k : ℕ). 2 ^ (n - suc j) * k) (pow-succ' 2 j)
      where
        total : n ≡ n - suc j + suc j
        total = omega arith

    split : b * 2 ^ n ≡ b * 2 ^ (n - suc j) * 2 * 2 ^ j
    split = ap (λ (k : ℕ). b * k) power ∙ sym (mul_assoc b (2 ^ (n - suc j)) (2 * 2 ^ j)) ∙ sym (mul_assoc (b * 2 ^ (n - suc j)) 2 (2 ^ j))

pub has-mod : (m n j : ℕ) → j < n → has (m % 2 ^ n) j ≡ has m j
has-mod m n j h = sym (has_above (m % 2 ^ n) (m / 2 ^ n) n j h) ∙ ap (λ (k : ℕ). has k j) (mod-add-div' m (2 ^ n))

pub has_top : (m n : ℕ) → m < 2 ^ n → has (m + 2 ^ n) n ≡ true
unfolding has
has_top m n h = ap (λ (k : ℕ). eqb (k % 2) 1) (add-div_right m (pow_pos n) ∙ ap (λ (k : ℕ). k + 1) (div-eq_of_lt h))

-- the set of one number
pub has-power : (i j : ℕ) → has (2 ^ i) j ≡ eqb i j
has-power i j =
    ⊎_elim (λ (e : i ≡ j). subst (λ (k : ℕ). has (2 ^ i) k ≡ true) e one ∙ sym (eq-eqb i j e))
    (λ (h : (i < j) ⊎ (j < i)). ⊎_elim higher lower h) (trichotomy i j)
  where
    one : has (2 ^ i) i ≡ true
    one = ap (λ (k : ℕ). has k i) (sym (zero-add (2 ^ i))) ∙ has_top 0 i (pow_pos i)

    higher : i < j → has (2 ^ i) j ≡ eqb i j
    higher h = has-high (2 ^ i) (suc i) j (omega (arith, two-pow-succ i, pow_pos i)) h ∙ sym (ne_eqb i j (λ e. omega arith))

    lower : j < i → has (2 ^ i) j ≡ eqb i j
    lower h =
        ap (λ (k : ℕ). has k j) (sym (one-mul (2 ^ i)) ∙ sym (zero-add (1 * 2 ^ i))) ∙ has_above 0 1 i j h ∙ has-zero j
        ∙ sym (ne_eqb i j (λ e. omega arith))

-- a set below 2 ^ n, with the member n where b holds
pub join-lt : (m n : ℕ) (b : Bool) → m < 2 ^ n → m + cond b (2 ^ n) 0 < 2 ^ suc n
join-lt m n true h = omega (arith, two-pow-succ n)
join-lt m n false h = omega (arith, two-pow-succ n)

pub join-low : (m n : ℕ) (b : Bool) (j : ℕ) → j < n → has (m + cond b (2 ^ n) 0) j ≡ has m j
join-low m n true j l = ap (λ (k : ℕ). has (m + k) j) (sym (one-mul (2 ^ n))) ∙ has_above m 1 n j l
join-low m n false j l = ap (λ (k : ℕ). has k j) (add-zero m)

pub join_top : (m n : ℕ) (b : Bool) → m < 2 ^ n → has (m + cond b (2 ^ n) 0) n ≡ b
join_top m n true h = has_top m n h
join_top m n false h = ap (λ (k : ℕ). has k n) (add-zero m) ∙ has-high m n n h (le_refl n)

-- the set of a test
pub mask_lt : (n : ℕ) (f : ℕ → Bool) → mask_below n f < 2 ^ n
unfolding mask_below
mask_lt zero f = le_refl 1
mask_lt (suc n) f = join-lt (mask_below n f) n (f n) (mask_lt n f)

pub has-mask : (n : ℕ) (f : ℕ → Bool) (j : ℕ) → j < n → has (mask_below n f) j ≡ f j
unfolding mask_below
has-mask zero f j h = absurd (not-suc-le-zero h)
has-mask (suc n) f j h =
    ⊎_elim (λ (l : j < n). join-low (mask_below n f) n (f n) j l ∙ has-mask n f j l)
    (λ (e : j ≡ n). subst (λ (k : ℕ). has (mask_below n f + cond (f n) (2 ^ n) 0) k ≡ f k) (sym e) (join_top (mask_below n f) n (f n) (mask_lt n f)))
    (below-cases h)

-- a set is the set of its members
pub mask_of_has : (n m : ℕ) → m < 2 ^ n → mask_below n (has m) ≡ m
unfolding mask_below has
mask_of_has zero m h = omega arith
mask_of_has (suc n) m h =
    ap₂ (λ (a b : ℕ). a + b) (mask-same n (has m) (has (m % 2 ^ n)) (λ j l. sym (has-mod m n j l)) ∙ mask_of_has n (m % 2 ^ n) (mod-lt m (pow_pos n))) top
    ∙ mod-add-div' m (2 ^ n)
  where
    small : m / 2 ^ n < 2
    small = (div-lt_iff_lt-mul (pow_pos n)).1 (omega (arith, two-pow-succ n))

    value : (q : ℕ) → q < 2 → cond (eqb (q % 2) 1) (2 ^ n) 0 ≡ q * 2 ^ n
    value zero l = sym (zero-mul (2 ^ n))
    value (suc zero) l = sym (one-mul (2 ^ n))
    value (suc (suc q)) l = omega arith

    top : cond (has m n) (2 ^ n) 0 ≡ m / 2 ^ n * 2 ^ n
    top = value (m / 2 ^ n) small

pub set_ext : (n a b : ℕ) → a < 2 ^ n → b < 2 ^ n → ((j : ℕ) → j < n → has a j ≡ has b j) → a ≡ b
set_ext n a b h k e = sym (mask_of_has n a h) ∙ mask-same n (has a) (has b) e ∙ mask_of_has n b k

-- a set that is not empty has a member
pub member : (n m : ℕ) → m < 2 ^ n → 0 < m → (j : ℕ) × (j < n) × T (has m j)
member n m h l =
    ⊎_elim (any_at n (has m))
    (λ (t : T (not (any_below n (has m)))). absurd (lt_irrefl 0 (subst (λ (k : ℕ). 0 < k) (empty t) l)))
    (decided (any_below n (has m)))
  where
    empty : T (not (any_below n (has m))) → m ≡ 0
    empty t = set_ext n m 0 h (pow_pos n) (λ j k. false_of (has m j) (any_failed n (has m) t j k) ∙ sym (has-zero j))

-- a set is below 2 ^ n exactly when its members are below n.
below_power : (m : ℕ) → m < 2 ^ m
below_power zero = le_refl 1
below_power (suc m) = omega (arith, below_power m, two-pow-succ m)

pub member_below : (n m j : ℕ) → m < 2 ^ n → T (has m j) → j < n
member_below n m j h t =
    ⊎_elim (λ (k : n ≤ j). absurd (subst T (has-high m n j h k) t)) (λ (k : j < n). k) (le-or-lt n j)

pub set_below : (n m : ℕ) → ((j : ℕ) → T (has m j) → j < n) → m < 2 ^ n
unfolding mask_below
set_below n m f = narrow m (lt_of_lt_of_le (below_power m) (pow_mono (omega arith)))
  where
    shorter : (k : ℕ) → m < 2 ^ suc k → T (not (has m k)) → m < 2 ^ k
    shorter k h t = subst (λ (i : ℕ). i < 2 ^ k) (same (false_of (has m k) t) ∙ mask_of_has (suc k) m h) (mask_lt k (has m))
      where
        same : has m k ≡ false → mask_below k (has m) ≡ mask_below (suc k) (has m)
        same e = rw e (sym (add-zero (mask_below k (has m))))

    narrow : (k : ℕ) → m < 2 ^ (n + k) → m < 2 ^ n
    narrow zero h = subst (λ (i : ℕ). m < 2 ^ i) (add-zero n) h
    narrow (suc k) h =
        narrow k (shorter (n + k) (subst (λ (i : ℕ). m < 2 ^ i) (add-suc n k) h)
        (refuted (has m (n + k)) (λ t. omega (arith, f (n + k) t))))

-- the elements of a list below a bound
module _ {ℓ} {A : Type ℓ} where
  pub mem-list : (n : ℕ) (f : ℕ → List A) (a : A) → Memᴰ a (list_below n f) → (i : ℕ) × (i < n) × Memᴰ a (f i)
  unfolding list_below
  mem-list zero f a m = absurd (mathlib.Core.List.Memᴰ.not-nil m)
  mem-list (suc n) f a m =
      ⊎_elim (λ (s : Memᴰ a (list_below n f)). let r = mem-list n f a s in (r.0, omega (arith, r.1), r.2))
      (λ (s : Memᴰ a (f n)). (n, lt-suc_self n, s)) (mathlib.Core.List.Memᴰ.append_cases (list_below n f) m)

  pub list-mem : (n : ℕ) (f : ℕ → List A) (a : A) (i : ℕ) → i < n → Memᴰ a (f i) → Memᴰ a (list_below n f)
  unfolding list_below
  list-mem zero f a i h m = absurd (not-suc-le-zero h)
  list-mem (suc n) f a i h m =
      ⊎_elim (λ (l : i < n). mathlib.Core.List.Memᴰ.append_left (f n) (list-mem n f a i l m))
      (λ (e : i ≡ n). mathlib.Core.List.Memᴰ.append_right (list_below n f) (subst (λ (k : ℕ). Memᴰ a (f k)) e m)) (below-cases h)

  pub list_length : (n m : ℕ) (f : ℕ → List A) → ((i : ℕ) → i < n → length (f i) ≤ m) → length (list_below n f) ≤ n * m
  unfolding list_below
  list_length zero m f h = zero-le
  list_length (suc n) m f h =
      subst (λ (k : ℕ). k ≤ suc n * m) (sym (length-append (list_below n f) (f n)))
      (subst (λ (k : ℕ). length (list_below n f) + length (f n) ≤ k) (sym (suc-mul n m))
      (add-le-add (list_length n m f (λ i l. h i (omega arith))) (h n (lt-suc_self n))))

  -- the same at every number below the bound, and the first list first
  pub list_same : (n : ℕ) (f h : ℕ → List A) → ((i : ℕ) → i < n → f i ≡ h i) → list_below n f ≡ list_below n h
  unfolding list_below
  list_same zero f h e = refl
  list_same (suc n) f h e = ap₂ (λ (a b : List A). a ++ b) (list_same n f h (λ i l. e i (omega arith))) (e n (lt-suc_self n))

  pub list-front : (n : ℕ) (f : ℕ → List A) → list_below (suc n) f ≡ f 0 ++ list_below n (λ i. f (suc i))
  unfolding list_below
  list-front zero f = sym (append-nil (f 0))
  list-front (suc n) f =
      ap (λ (l : List A). l ++ f (suc n)) (list-front n f) ∙ append_assoc (f 0) (list_below n (λ i. f (suc i))) (f (suc n))

-- the lists of a list's elements, by their places
pub list-places : {A : Type 0} {B : Type 0} (f : A → List B) (l : List A) (d : A)
    → list_below (length l) (λ i. f (get_or l i d)) ≡ flat_map f l
unfolding flat_map list_below
list-places f [] d = refl
list-places {B = B} f (x ∷ l) d = list-front (length l) (λ i. f (get_or (x ∷ l) i d)) ∙ ap (λ (m : List B). f x ++ m) (list-places f l d)
