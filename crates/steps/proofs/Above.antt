-- The least number from x on at which a test holds: x, or x raised at one bit. Assumes nothing.
use Prim.Native.Nat.{ℕ, zero, suc, ◌+◌, ◌-◌, ◌*◌, ◌^◌, ◌/◌, ◌%◌, ◌≤◌, ◌<◌}
use native.Mathlib.Nat.{div-one, div-eq_of_lt, mod-lt, add-mul, one-mul, le_refl, le_trans, le_of_lt, lt_irrefl, lt_trans, lt-suc_self, zero-lt-suc, lt_of_le_of_lt, lt_of_lt_of_le}
use native.Mathlib.Numerals.{add-one}
use native.Mathlib.Omega.{arith}
use mathlib.Core.Path.{◌≡◌, refl, sym, ◌∙◌, ap, subst}
use mathlib.Core.Logic.{◌⊎◌, ⊎_elim}
use mathlib.Core.Bool.{Bool, true, false, not, ◌&&◌, and-false}
use lib.Arith.{lt_of_le-ne}
use lib.Bits.{bit_and, and_le_l}
use lib.Dec.{T, eqb, leb, eqb→eq, leb→le, le→leb}
use lib.Pow.{pow_pos, pow-lt, split, high, shr-shr, shr_mono}
use borrow.Author.Tests.{eq-eqb}
use Rattle.machine.specs.Sets.{has, any_below, first_below}
use Rattle.machine.proofs.Truth.{and_left, and_right, both, not-and, and-not, not-not_elim, decided, contrary, refuted, of_true, of_false}
use Rattle.machine.proofs.Sets.{First, le-or-lt, trichotomy, any_of, none_any, any_failed, first_none, first_some, first-le, first_below_lem, first_unique, first-same, has-zero, has-power, member, member_below}
use Rattle.masks.proofs.Bits.{has-and, has_opposite, one_bit}
use Rattle.steps.specs.Moves.{least_from, raised}

halved : (x n : ℕ) → x / 2 ^ suc n ≡ x / 2 ^ n / 2
halved x n = sym (shr-shr x n 1 ∙ ap (λ (k : ℕ). x / 2 ^ k) (add-one n))

-- the digit of a bit that x has not
even : (x j : ℕ) → T (not (has x j)) → x / 2 ^ j % 2 ≡ 0
unfolding has
even x j t = digit (x / 2 ^ j % 2) (mod-lt (x / 2 ^ j) (zero-lt-suc 1)) t
  where
    digit : (d : ℕ) → d < 2 → T (not (eqb d 1)) → d ≡ 0
    digit zero h s = refl
    digit (suc zero) h s = absurd s
    digit (suc (suc d)) h s = absurd (omega arith)

-- The highest bit at which x is below y: x has it not, y has it, and above it they agree.
record Parted (n x y : ℕ) : Type 0 where
  bit : ℕ
  below : bit < n
  even : x / 2 ^ bit % 2 ≡ 0
  next : y / 2 ^ bit ≡ x / 2 ^ bit / 2 * 2 + 1

parted : (n x y : ℕ) → x / 2 ^ n ≡ y / 2 ^ n → x < y → Parted n x y
parted zero x y e h = absurd (omega (arith, div-one x, div-one y))
parted (suc n) x y e h =
    ⊎_elim
    (λ (q : x / 2 ^ n ≡ y / 2 ^ n). let r = parted n x y q h in
    record { bit = r.bit; below = omega (arith, r.below); even = r.even; next = r.next })
    (λ (q : (x / 2 ^ n < y / 2 ^ n) ⊎ (y / 2 ^ n < x / 2 ^ n)). here (⊎_elim (λ (l : x / 2 ^ n < y / 2 ^ n). l)
    (λ (l : y / 2 ^ n < x / 2 ^ n). absurd (omega (arith, shr_mono n (le_of_lt h)))) q)) (trichotomy (x / 2 ^ n) (y / 2 ^ n))
  where
    halves : x / 2 ^ n / 2 ≡ y / 2 ^ n / 2
    halves = sym (halved x n) ∙ e ∙ halved y n

    here : x / 2 ^ n < y / 2 ^ n → Parted (suc n) x y
    here l = record { bit = n; below = lt-suc_self n; even = omega (arith, halves); next = omega (arith, halves) }

-- y from bit j up, with the members of low below j
unfoldable pub lowered : ℕ → ℕ → ℕ → ℕ
lowered y j low = y / 2 ^ j * 2 ^ j + low % 2 ^ j

-- raised at a bit that it has not, x is larger
raised_above : (x j low : ℕ) → x / 2 ^ j % 2 ≡ 0 → x < raised x j low
unfolding raised
raised_above x j low e =
    omega (arith, split x j, mod-lt x (pow_pos j), add-mul (x / 2 ^ j) 1 (2 ^ j), one-mul (2 ^ j), ap (λ (k : ℕ). k * 2 ^ j) odd)
  where
    odd : x / 2 ^ j / 2 * 2 + 1 ≡ x / 2 ^ j + 1
    odd = omega arith

-- and above that bit it is the same
raised-same : (x i d low : ℕ) → raised x i low / 2 ^ (suc i + d) ≡ x / 2 ^ (suc i + d)
unfolding raised
raised-same x i d low =
    sym (shr-shr (raised x i low) (suc i) d) ∙ ap (λ (k : ℕ). k / 2 ^ d)
    (halved (raised x i low) i ∙ ap (λ (k : ℕ). k / 2) (high (x / 2 ^ i / 2 * 2 + 1) i (mod-lt low (pow_pos i))) ∙ half
    ∙ sym (halved x i))
    ∙ shr-shr x (suc i) d
  where
    half : (x / 2 ^ i / 2 * 2 + 1) / 2 ≡ x / 2 ^ i / 2
    half = omega arith

-- so raised at a lower bit it stays below whatever parts from it at a higher one
raised_below : (n x y i low : ℕ) (r : Parted n x y) → i < r.bit → raised x i low < y
raised_below n x y i low r h =
    ⊎_elim (λ (k : y ≤ raised x i low). absurd (omega (arith, shr_mono r.bit k, r.next, r.even, same)))
    (λ (k : raised x i low < y). k) (le-or-lt y (raised x i low))
  where
    same : raised x i low / 2 ^ r.bit ≡ x / 2 ^ r.bit
    same = subst (λ (k : ℕ). raised x i low / 2 ^ k ≡ x / 2 ^ k) total (raised-same x i (r.bit - suc i) low)
      where
        total : suc i + (r.bit - suc i) ≡ r.bit
        total = omega arith

-- What the least number above x at which a test holds says.
pub record Next (m : ℕ) (f : ℕ → Bool) (x y : ℕ) : Type 0 where
  pub above : x < y
  pub below : y < m
  pub holds : T (f y)
  pub none : (z : ℕ) → x < z → z < y → T (not (f z))

-- The test holds nowhere above x and below m.
abbrev pub NoneAbove : ℕ → (ℕ → Bool) → ℕ → Type 0
NoneAbove m f x = (z : ℕ) → x < z → z < m → T (not (f z))

-- What the least number from x on at which a test holds says; it is b where there is none.
pub record Least (b : ℕ) (f : ℕ → Bool) (x y : ℕ) : Type 0 where
  pub from : x ≤ y
  pub within : y ≤ b
  pub holds : y < b → T (f y)
  pub none : (z : ℕ) → x ≤ z → z < y → T (not (f z))

module _ (b : ℕ) (f : ℕ → Bool) (x : ℕ) where
  abbrev later : ℕ → Bool
  later y = leb x y && f y

  -- no later number passes below y
  least-below : (y : ℕ) → ((z : ℕ) → x ≤ z → z < y → T (not (f z))) → (z : ℕ) → z < y → T (not (later z))
  least-below y none z h = and-not (leb x z) (f z) (λ t. none z (leb→le x z t) h)

  least_unique : (y : ℕ) → y < b → Least b f x y → y ≡ least_from b f x
  unfolding least_from
  least_unique y h r =
      sym (first_unique b later y (record {
        below = h;
        holds = both (leb x y) (f y) (le→leb x y r.from) (r.holds h);
        least = least-below y r.none;
      }))

  pub from_here : T (f x) → x < b → x ≡ least_from b f x
  from_here t h =
      least_unique x h
      (record { from = le_refl x; within = le_of_lt h; holds = λ k. t; none = λ z k l. absurd (lt_irrefl x (lt_of_le_of_lt k l)) })

  -- from x on is x or above it
  from_above : T (not (f x)) → (y : ℕ) → ((z : ℕ) → x < z → z < y → T (not (f z))) → (z : ℕ) → x ≤ z → z < y → T (not (f z))
  from_above t y none z h k =
      ⊎_elim (λ (e : x ≡ z). subst (λ (i : ℕ). T (not (f i))) e t)
      (⊎_elim (λ (l : x < z). none z l k) (λ (l : z < x). absurd (lt_irrefl x (lt_of_le_of_lt h l)))) (trichotomy x z)

  pub from_next : (m y : ℕ) → T (not (f x)) → Next m f x y → y < b → y ≡ least_from b f x
  from_next m y t r h =
      least_unique y h
      (record { from = le_of_lt r.above; within = le_of_lt h; holds = λ k. r.holds; none = from_above t y r.none })

  pub from_none : T (not (f x)) → NoneAbove b f x → b ≡ least_from b f x
  unfolding least_from
  from_none t none = sym (first_none b later (none_any b later (least-below b (from_above t b none))))

  -- past the bound there is none
  pub from_past : b ≤ x → b ≡ least_from b f x
  unfolding least_from
  from_past p = sym (first_none b later (none_any b later (least-below b (λ z h k. absurd (omega arith)))))

  pub least-from : x ≤ b → Least b f x (least_from b f x)
  unfolding least_from
  least-from h =
      record {
        from = ⊎_elim (λ (l : b ≤ first_below b later). le_trans h l)
            (λ (l : first_below b later < b). leb→le x (first_below b later)
            (and_left (leb x (first_below b later)) (f (first_below b later)) (first_below_lem b later l).holds)) (le-or-lt b (first_below b later));
        within = first-le b later;
        holds = λ l. and_right (leb x (first_below b later)) (f (first_below b later)) (first_below_lem b later l).holds;
        none = λ z k l. not-and (leb x z) (f z) (earlier z l) (le→leb x z k);
      }
    where
      earlier : (z : ℕ) → z < first_below b later → T (not (later z))
      earlier z l =
          ⊎_elim (λ (t : T (any_below b later)). (first_some b later t).least z l)
          (λ (t : T (not (any_below b later))). any_failed b later t z (lt_of_lt_of_le l (first-le b later))) (decided (any_below b later))

-- the same least number for two tests that agree below the bound
pub least-same : (b : ℕ) (f g : ℕ → Bool) (x : ℕ) → ((y : ℕ) → y < b → f y ≡ g y) → least_from b f x ≡ least_from b g x
unfolding least_from
least-same b f g x e = first-same b (λ y. leb x y && f y) (λ y. leb x y && g y) (λ y h. ap (λ (t : Bool). leb x y && t) (e y h))

-- the lowest member of a set that has some
pub lowest_member : (n m : ℕ) → m < 2 ^ n → 0 < m → (j : ℕ) → j ≡ first_below n (has m) → First n (has m) j
lowest_member n m h k j e =
    let p = member n m h k in
    subst (First n (has m)) (sym e) (first_some n (has m) (any_of n (has m) p.0 p.1 p.2))

-- The search so far: the bits of `free` are still to be tried, and x has none of them; raised at any other bit that it has
-- not, x fails.
pub record Searched (n : ℕ) (f : ℕ → Bool) (low x free : ℕ) : Type 0 where
  pub small : free < 2 ^ n
  pub spare : (i : ℕ) → T (has free i) → T (not (has x i))
  pub tried : (i : ℕ) → i < n → T (not (has x i)) → T (not (has free i)) → T (not (f (raised x i low)))

module _ (n : ℕ) (f : ℕ → Bool) (low x : ℕ) where
  -- it begins with the bits at which x can pass at all
  pub search_start : (ready : ℕ) → ready < 2 ^ n → x < 2 ^ n → ((i : ℕ) → i < n → T (f (raised x i low)) → T (has ready i))
      → Searched n f low x (bit_and ready (2 ^ n - 1 - x))
  search_start ready h k only =
      record {
        small = lt_of_le_of_lt (and_le_l ready (2 ^ n - 1 - x)) h;
        spare = λ i t. let l = member_below n ready i h
            (and_left (has ready i) (has (2 ^ n - 1 - x) i) (subst T (has-and ready (2 ^ n - 1 - x) i) t)) in
            and_right (has ready i) (not (has x i)) (subst T (left i l) t);
        tried = λ i l s t. refuted (f (raised x i low)) (λ u. contrary (has (bit_and ready (2 ^ n - 1 - x)) i)
            (subst T (sym (left i l)) (both (has ready i) (not (has x i)) (only i l u) s)) t);
      }
    where
      left : (i : ℕ) → i < n → has (bit_and ready (2 ^ n - 1 - x)) i ≡ (has ready i && not (has x i))
      left i l = has-and ready (2 ^ n - 1 - x) i ∙ ap (λ (t : Bool). has ready i && t) (has_opposite n x i k l)

  -- A turn tries the lowest, j, and leaves the others.
  module _ (free j : ℕ) (small : free < 2 ^ n) (some : 0 < free) (lowest : j ≡ first_below n (has free)) where
    abbrev others : ℕ
    others = 2 ^ n - 1 - 1 * 2 ^ j % 2 ^ n

    found : First n (has free) j
    found = lowest_member n free small some j lowest

    left : (i : ℕ) → i < n → has (bit_and free others) i ≡ (has free i && not (eqb j i))
    left i l =
        has-and free others i
        ∙ ap (λ (t : Bool). has free i && t) (ap (λ (b : ℕ). has (2 ^ n - 1 - b) i) (one_bit n j found.below)
        ∙ has_opposite n (2 ^ j) i (pow-lt found.below) l ∙ ap not (has-power j i))

    pub search_less : bit_and free others < free
    search_less =
        lt_of_le-ne (and_le_l free others)
        (λ e. contrary (has (bit_and free others) j) (subst (λ (m : ℕ). T (has m j)) (sym e) found.holds) gone)
      where
        gone : T (not (has (bit_and free others) j))
        gone =
            of_false (left j found.below ∙ ap (λ (t : Bool). has free j && not t) (eq-eqb j j refl) ∙ and-false (has free j))

    -- `next` is x raised there, and `passed` is what the test says of it
    pub search_turn : (next : ℕ) (passed : Bool) → next ≡ raised x j low → passed ≡ f next → passed ≡ false
        → Searched n f low x free → Searched n f low x (bit_and free others)
    search_turn next passed at said failed s =
        record {
          small = lt_of_le_of_lt (and_le_l free others) small;
          spare = λ i u. s.spare i (and_left (has free i) (has others i) (subst T (has-and free others i) u));
          tried = λ i l u v. ⊎_elim (λ (w : T (has free i)). again i l v w) (s.tried i l u) (decided (has free i));
        }
      where
        again : (i : ℕ) → i < n → T (not (has (bit_and free others) i)) → T (has free i) → T (not (f (raised x i low)))
        again i l v w =
            subst (λ (m : ℕ). T (not (f (raised x m low))))
            (eqb→eq j i (not-not_elim (eqb j i)
            (not-and (has free i) (not (eqb j i)) (subst (λ (b : Bool). T (not b)) (left i l) v) w)))
            (subst (λ (m : ℕ). T (not (f m))) at (of_false (sym said ∙ failed)))

-- A test that keeps holding where the members below one of its members come down to those of low.
module _ (n : ℕ) (f : ℕ → Bool) (low : ℕ)
    (closed : (y j : ℕ) → y < 2 ^ n → j < n → T (has y j) → T (f y) → T (f (lowered y j low)) × (lowered y j low ≤ y)) where
  -- x raised where y parts from it passes if y does, and is not above y
  reached : (x y : ℕ) (r : Parted n x y) → y < 2 ^ n → T (f y) → T (f (raised x r.bit low)) × (raised x r.bit low ≤ y)
  unfolding raised lowered has
  reached x y r k t =
      subst (λ (z : ℕ). T (f z) × (z ≤ y)) (ap (λ (k : ℕ). k * 2 ^ r.bit + low % 2 ^ r.bit) r.next)
      (closed y r.bit k r.below (of_true (ap (λ (k : ℕ). eqb k 1) odd)) t)
    where
      odd : y / 2 ^ r.bit % 2 ≡ 1
      odd = omega (arith, r.next)

  spared : (x y : ℕ) (r : Parted n x y) → T (not (has x r.bit))
  unfolding has
  spared x y r = of_false (ap (λ (k : ℕ). eqb k 1) r.even)

  part : (x y : ℕ) → x < y → y < 2 ^ n → Parted n x y
  part x y h k = parted n x y (div-eq_of_lt (lt_trans h k) ∙ sym (div-eq_of_lt k)) h

  none_above : (x : ℕ) → ((j : ℕ) → j < n → T (not (has x j)) → T (not (f (raised x j low)))) → NoneAbove (2 ^ n) f x
  none_above x none z h k =
      refuted (f z) (λ t. let r = part x z h k in
      contrary (f (raised x r.bit low)) (reached x z r k t).0 (none r.bit r.below (spared x z r)))

  found_above : (x j : ℕ) → T (not (has x j)) → T (f (raised x j low)) → raised x j low < 2 ^ n
      → ((i : ℕ) → i < j → T (not (has x i)) → T (not (f (raised x i low)))) → Next (2 ^ n) f x (raised x j low)
  found_above x j s t b least =
      record {
        above = raised_above x j low (even x j s);
        below = b;
        holds = t;
        none = λ z h k. refuted (f z) (λ u. earlier z (part x z h (lt_trans k b)) k (lt_trans k b) u);
      }
    where
      earlier : (z : ℕ) (r : Parted n x z) → z < raised x j low → z < 2 ^ n → T (f z) → ⊥
      earlier z r k l u =
          ⊎_elim (λ (e : r.bit ≡ j). omega (arith, (reached x z r l u).1, ap (λ (i : ℕ). raised x i low) e))
          (⊎_elim (λ (h : r.bit < j). contrary (f (raised x r.bit low)) (reached x z r l u).0
          (least r.bit h (spared x z r)))
          (λ (h : j < r.bit). omega (arith, raised_below n x z j low r h))) (trichotomy r.bit j)

  -- the search ends with nothing left to try, or at the lowest bit that passes
  pub search_end : (x free : ℕ) → Searched n f low x free → free ≡ 0 → NoneAbove (2 ^ n) f x
  search_end x free s e =
      none_above x (λ j h t. s.tried j h t (of_false (ap (λ (k : ℕ). has k j) e ∙ has-zero j)))

  pub search_found : (x free j next : ℕ) (passed : Bool) → Searched n f low x free → 0 < free → j ≡ first_below n (has free)
      → next ≡ raised x j low → passed ≡ f next → passed ≡ true → next < 2 ^ n → Next (2 ^ n) f x next
  search_found x free j next passed s k first at said holds below =
      let r = lowest_member n free s.small k j first in
      subst (Next (2 ^ n) f x) (sym at)
      (found_above x j (s.spare j r.holds) (subst (λ (m : ℕ). T (f m)) at (of_true (sym said ∙ holds)))
      (subst (λ (m : ℕ). m < 2 ^ n) at below) (λ i h u. s.tried i (lt_trans h r.below) u (r.least i h)))
