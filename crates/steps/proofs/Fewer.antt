-- Fewer members break no constraint but the demands: limits are monotone. So an allowed step stays allowed where the
-- members below one of its members come down to those demanded. Assumes nothing.
use Prim.Native.Nat.{ℕ, ◌+◌, ◌-◌, ◌*◌, ◌^◌, ◌/◌, ◌%◌, ◌≤◌, ◌<◌}
use native.Mathlib.Nat.{le_refl, le_trans, add_comm, eq-zero-or-pos, div_self, mod-lt, lt_of_le_of_lt}
use native.Mathlib.Omega.{arith}
use mathlib.Core.Path.{◌≡◌, refl, sym, ◌∙◌, ap, subst}
use mathlib.Core.Logic.{⊎_elim}
use mathlib.Core.Bool.{Bool, true, false, cond, not, ◌&&◌, ◌||◌, or-true}
use lib.Bits.{bit_and, bit_or, and_le_l, and_le_r, or_shr}
use Rattle.std.specs.Prelude.{Some, None}
use lib.Dec.{T, eqb, ltb, leb→le, le→leb}
use lib.ListN.{take}
use lib.Pow.{pow_pos, high}
use borrow.Author.Tests.{eq-eqb, lt-ltb, le-ltb}
use Rattle.machine.specs.Sets.{has, count_below}
use Rattle.machine.proofs.Says.{Says, says_test, says_ltb, says_and}
use Rattle.machine.proofs.Truth.{and_left, and_right, both, not-and, and-not, not-not_elim, not-not_intro, true_of, of_true}
use Rattle.machine.proofs.Sets.{le-or-lt, any_failed, none_any, count_mono, has-zero, has_above, has-mod, has-power, set_ext, member_below, set_below}
use Rattle.masks.proofs.Bits.{has-and, has-or, has_opposite, has-shift, or-one}
use Rattle.steps.specs.Moves.{apart, within, roomy, fits, raised, allows, step_from, next_of}
use Rattle.steps.specs.declared.Moves.{Moves}
use Rattle.steps.specs.declared.Class.{Class}
use Rattle.std.specs.List.{list_all}
use mathlib.Core.List.{List, [], ◌∷◌}
use Rattle.steps.proofs.Above.{lowered}

-- every member of a is a member of b
abbrev pub Fewer : ℕ → ℕ → Type 0
Fewer a b = (i : ℕ) → T (has a i) → T (has b i)

-- as numbers too
fewer_le : (n a b : ℕ) → a < 2 ^ n → Fewer a b → a ≤ b
fewer_le n a b h f = subst (λ (k : ℕ). k ≤ b) common (and_le_r a b)
  where
    kept : (s t : Bool) → (T s → T t) → (s && t) ≡ s
    kept true t g = true_of t (g tt)
    kept false t g = refl

    common : bit_and a b ≡ a
    common = set_ext n (bit_and a b) a (lt_of_le_of_lt (and_le_l a b) h) h (λ i l. has-and a b i ∙ kept (has a i) (has b i) (f i))

apart_fewer : (a b m : ℕ) → Fewer a b → T (apart b m) → T (apart a m)
unfolding apart
apart_fewer a b m f t =
    none_any 32 (λ j. has a j && has m j) (λ j h. and-not (has a j) (has m j) (λ s.
    not-and (has b j) (has m j) (any_failed 32 (λ j. has b j && has m j) t j h) (f j s)))

within_fewer : (a b m : ℕ) → Fewer a b → T (within b m) → T (within a m)
unfolding within
within_fewer a b m f t =
    none_any 32 (λ j. has a j && not (has m j)) (λ j h. and-not (has a j) (not (has m j)) (λ s.
    not-and (has b j) (not (has m j)) (any_failed 32 (λ j. has b j && not (has m j)) t j h) (f j s)))

-- a test of each in a list, where one follows from another
weaker : {A : Type 0} (f h : A → Bool) → ((x : A) → T (f x) → T (h x)) → (l : List A) → T (list_all f l) → T (list_all h l)
weaker f h i [] t = tt
weaker f h i (x ∷ l) t =
    both (h x) (list_all h l) (i x (and_left (f x) (list_all f l) t)) (weaker f h i l (and_right (f x) (list_all f l) t))

roomy_fewer : (a b : ℕ) → Fewer a b → (c : Class) → T (roomy c b) → T (roomy c a)
unfolding roomy
roomy_fewer a b f c t =
    le→leb (members a) c.limit
    (le_trans (count_mono 32 (λ j. has a j && has c.members j) (λ j. has b j && has c.members j)
    (λ j l s. both (has b j) (has c.members j) (f j (and_left (has a j) (has c.members j) s))
    (and_right (has a j) (has c.members j) s)))
    (leb→le (members b) c.limit t))
  where
    members : ℕ → ℕ
    members m = count_below 32 (λ j. has m j && has c.members j)

-- limits are monotone
pub fits_fewer : (moves : Moves) (a b : ℕ) → Fewer a b → T (fits moves b) → T (fits moves a)
unfolding fits
fits_fewer moves a b f t =
    weaker (λ c. roomy c b) (λ c. roomy c a) (roomy_fewer a b f) (take moves.class_count moves.classes) t

has_lowered : (y j low i : ℕ) → has (lowered y j low) i ≡ cond (ltb i j) (has low i) (has y i)
unfolding lowered
has_lowered y j low i =
    ⊎_elim (λ (h : j ≤ i). upper h ∙ sym (ap (λ (t : Bool). cond t (has low i) (has y i)) (le-ltb i j h)))
    (λ (h : i < j). lower h ∙ sym (ap (λ (t : Bool). cond t (has low i) (has y i)) (lt-ltb i j h))) (le-or-lt j i)
  where
    lower : i < j → has (lowered y j low) i ≡ has low i
    lower h =
        ap (λ (k : ℕ). has k i) (add_comm (y / 2 ^ j * 2 ^ j) (low % 2 ^ j)) ∙ has_above (low % 2 ^ j) (y / 2 ^ j) j i h
        ∙ has-mod low j i h

    upper : j ≤ i → has (lowered y j low) i ≡ has y i
    upper h =
        subst (λ (k : ℕ). has (lowered y j low) k ≡ has y k) total
        (sym (has-shift (lowered y j low) j (i - j)) ∙ ap (λ (k : ℕ). has k (i - j)) (high (y / 2 ^ j) j (mod-lt low (pow_pos j)))
        ∙ has-shift y j (i - j))
      where
        total : j + (i - j) ≡ i
        total = omega arith

-- a member of the lowered set is a member of y, where low has none but those
lowered_fewer : (y j low : ℕ) → Fewer low y → Fewer (lowered y j low) y
lowered_fewer y j low f i t = choose (ltb i j) (subst T (has_lowered y j low i) t)
  where
    choose : (b : Bool) → T (cond b (has low i) (has y i)) → T (has y i)
    choose true s = f i s
    choose false s = s

within-at : (a b i : ℕ) → i < 32 → T (within a b) → T (has a i) → T (has b i)
unfolding within
within-at a b i h t s =
    not-not_elim (has b i) (not-and (has a i) (not (has b i)) (any_failed 32 (λ j. has a j && not (has b j)) t i h) s)

within-members : (a b : ℕ) → a < 2 ^ 32 → T (within a b) → Fewer a b
within-members a b h t i s = within-at a b i (member_below 32 a i h s) t s

apart-at : (a b i : ℕ) → i < 32 → T (apart a b) → T (has a i) → T (not (has b i))
unfolding apart
apart-at a b i h t s = not-and (has a i) (has b i) (any_failed 32 (λ j. has a j && has b j) t i h) s

members-within : (a b : ℕ) → Fewer a b → T (within a b)
unfolding within
members-within a b f =
    none_any 32 (λ j. has a j && not (has b j)) (λ j h. and-not (has a j) (not (has b j)) (λ s. not-not_intro (has b j) (f j s)))

lowered_lt : (n y j low : ℕ) → y < 2 ^ n → Fewer low y → lowered y j low < 2 ^ n
lowered_lt n y j low h f = set_below n (lowered y j low) (λ i t. member_below n y i h (lowered_fewer y j low f i t))

-- the tests of an allowed step by name
record Allowed (moves : Moves) (step : ℕ) : Type 0 where
  filled : 0 < step
  below : step < moves.steps
  fresh : T (within step moves.undone)
  free : T (apart step moves.held)
  room : T (fits moves step)
  wanted : T (apart step moves.excluded)
  complied : T (within moves.demanded step)

says_allows : (moves : Moves) (step : ℕ)
    → Says (allows moves step) (Allowed moves step)
unfolding allows
says_allows moves step =
    let r = says_and (says_and (says_and (says_and (says_and (says_ltb 0 step) (says_and (says_ltb step moves.steps) (says_test (within step moves.undone))))
    (says_test (apart step moves.held))) (says_test (fits moves step))) (says_test (apart step moves.excluded)))
    (says_test (within moves.demanded step)) in
    record {
      to = λ t. let p = r.to t in
          record {
            filled = p.0.0.0.0.0;
            below = p.0.0.0.0.1.0;
            fresh = p.0.0.0.0.1.1;
            free = p.0.0.0.1;
            room = p.0.0.1;
            wanted = p.0.1;
            complied = p.1;
          };
      from = λ p. r.from (((((p.filled, (p.below, p.fresh)), p.free), p.room), p.wanted), p.complied);
    }

-- the closure that the search for the next allowed step needs
pub allows-closed : (moves : Moves) → moves.demanded < 2 ^ 32 → (y j : ℕ) → y < 2 ^ 32 → j < 32
    → T (has y j) → T (allows moves y)
    → T (allows moves (lowered y j moves.demanded)) × (lowered y j moves.demanded ≤ y)
allows-closed moves d y j h l m t = (
  (says_allows moves z).from (record {
    filled = ⊎_elim (λ (e : z ≡ 0). absurd (subst T (ap (λ (k : ℕ). has k j) e ∙ has-zero j) kept)) (λ (k : 0 < z). k)
        (eq-zero-or-pos z);
    below = lt_of_le_of_lt lower p.below;
    fresh = within_fewer z y moves.undone fewer p.fresh;
    free = apart_fewer z y moves.held fewer p.free;
    room = fits_fewer moves z y fewer p.room;
    wanted = apart_fewer z y moves.excluded fewer p.wanted;
    complied = members-within low z
        (λ i s. subst T (sym (has_lowered y j low i)) (choose (ltb i j) (has low i) (has y i) s (f i s)));
  }),
  lower,
)
  where
    low : ℕ
    low = moves.demanded

    z : ℕ
    z = lowered y j low

    p : Allowed moves y
    p = (says_allows moves y).to t

    f : Fewer low y
    f = within-members low y d p.complied

    fewer : Fewer z y
    fewer = lowered_fewer y j low f

    lower : z ≤ y
    lower = fewer_le 32 z y (lowered_lt 32 y j low h f) fewer

    kept : T (has z j)
    kept = subst T (sym (has_lowered y j low j ∙ ap (λ (b : Bool). cond b (has low j) (has y j)) (le-ltb j j (le_refl j)))) m

    choose : (b s u : Bool) → T s → T u → T (cond b s u)
    choose true s u v w = v
    choose false s u v w = w

-- The members of a raised set.
has-raised : (x j low i : ℕ) → has (raised x j low) i ≡ cond (ltb i j) (has low i) (has x i || eqb j i)
unfolding raised lowered
has-raised x j low i =
    ap (λ (k : ℕ). has (k * 2 ^ j + low % 2 ^ j) i) (sym shifted) ∙ has_lowered (bit_or x (2 ^ j)) j low i
    ∙ ap (cond (ltb i j) (has low i)) (has-or x (2 ^ j) i ∙ ap (λ (t : Bool). has x i || t) (has-power j i))
  where
    shifted : bit_or x (2 ^ j) / 2 ^ j ≡ x / 2 ^ j / 2 * 2 + 1
    shifted = or_shr x (2 ^ j) j ∙ ap (bit_or (x / 2 ^ j)) (div_self (pow_pos j)) ∙ or-one (x / 2 ^ j)

pub raised_member : (x j low : ℕ) → T (has (raised x j low) j)
raised_member x j low = of_true (has-raised x j low j ∙ rw (le-ltb j j (le_refl j), eq-eqb j j refl) (or-true (has x j)))

-- an allowed step can be raised only at an operation that is ready
pub allows-ready : (moves : Moves) → moves.held < 2 ^ 32 → moves.excluded < 2 ^ 32 → (step i : ℕ) → i < 32
    → T (allows moves (raised step i moves.demanded))
    → T (has (bit_and (bit_and moves.undone (2 ^ 32 - 1 - moves.held)) (2 ^ 32 - 1 - moves.excluded)) i)
allows-ready moves b d step i h t =
    outside (bit_and moves.undone (2 ^ 32 - 1 - moves.held)) moves.excluded d
    (outside moves.undone moves.held b (within-at z moves.undone i h p.fresh at) (apart-at z moves.held i h p.free at))
    (apart-at z moves.excluded i h p.wanted at)
  where
    outside : (a m : ℕ) → m < 2 ^ 32 → T (has a i) → T (not (has m i)) → T (has (bit_and a (2 ^ 32 - 1 - m)) i)
    outside a m l s u =
        subst T (sym (has-and a (2 ^ 32 - 1 - m) i ∙ ap (λ (k : Bool). has a i && k) (has_opposite 32 m i l h)))
        (both (has a i) (not (has m i)) s u)

    z : ℕ
    z = raised step i moves.demanded

    p : Allowed moves z
    p = (says_allows moves z).to t

    at : T (has z i)
    at = raised_member step i moves.demanded

-- an allowed step is below the number of steps
pub allows-below : (moves : Moves) (step : ℕ) → T (allows moves step) → step < moves.steps
allows-below moves step t = ((says_allows moves step).to t).below

-- what the search gives: the least step from a number on, or none where that is the number of steps
pub next_some : (moves : Moves) (from step : ℕ) → step ≡ step_from moves from → step < moves.steps → Some step ≡ next_of moves from
unfolding next_of
next_some moves from step e h = rw (← e, lt-ltb step moves.steps h) refl

pub next_none : (moves : Moves) (from : ℕ) → moves.steps ≡ step_from moves from → None ≡ next_of moves from
unfolding next_of
next_none moves from e = rw (← e, le-ltb moves.steps moves.steps (le_refl moves.steps)) refl
