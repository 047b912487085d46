-- Lists of eight, one for each class that the masks hold. Assumes nothing.
use Prim.Native.Nat.{ℕ, zero, suc, min, ◌+◌, ◌≤◌, ◌<◌}
use native.Mathlib.Omega.{arith}
use mathlib.Core.Path.{◌≡◌, refl, sym, ◌∙◌, ap}
use mathlib.Core.Logic.{⊎_elim, ◌≢◌}
use mathlib.Core.Bool.{Bool, true, false, cond, ◌&&◌, ◌||◌, or-false}
use mathlib.Core.List.{List, [], ◌∷◌, map}
use lib.Dec.{eqb, ltb}
use lib.ListN.{length, get_or, set, take, length-set}
use lib.Seq.{get_or-set_same, get_or-set_other}
use borrow.Author.Tests.{eq-eqb, ne_eqb, lt-ltb, le-ltb}
use Rattle.std.specs.List.{list_all, range_with_len}
use Rattle.std.proofs.lemmas.List.Folds.{list_all-map}
use Rattle.std.proofs.lemmas.List.FromFn.{take-map-range_with_len}
use Rattle.steps.proofs.Ranges.{all_of_range}
use Rattle.machine.specs.Sets.{has, all_below, mask_below}
use Rattle.machine.proofs.Sets.{le-or-lt, trichotomy, mask_lt, mask-same, mask_of_has}
use Rattle.masks.proofs.Gather.{gather_start, gather_turn}
use Rattle.meaning.specs.Graph.{Graph, class, limit}
use Rattle.steps.specs.Moves.{eight, joined}
use Rattle.steps.specs.declared.Class.{Class}

pub eight-at : {A : Type 0} (f : ℕ → A) (d : A) (k : ℕ) → k < 8 → get_or (eight f) k d ≡ f k
eight-at f d zero h = refl
eight-at f d (suc zero) h = refl
eight-at f d (suc (suc zero)) h = refl
eight-at f d (suc (suc (suc zero))) h = refl
eight-at f d (suc (suc (suc (suc zero)))) h = refl
eight-at f d (suc (suc (suc (suc (suc zero))))) h = refl
eight-at f d (suc (suc (suc (suc (suc (suc zero)))))) h = refl
eight-at f d (suc (suc (suc (suc (suc (suc (suc zero))))))) h = refl
eight-at f d (suc (suc (suc (suc (suc (suc (suc (suc k)))))))) h = absurd (omega arith)

-- two lists of eight are the same where they agree at 0 to 7
pub eight-same : {A : Type 0} (f g : ℕ → A) → ((k : ℕ) → k < 8 → f k ≡ g k) → eight f ≡ eight g
eight-same f g e =
    rw (
      e 0 (omega arith),
      e 1 (omega arith),
      e 2 (omega arith),
      e 3 (omega arith),
      e 4 (omega arith),
      e 5 (omega arith),
      e 6 (omega arith),
      e 7 (omega arith),
    ) refl

-- a list of eight by what it holds
eight_of : {A : Type 0} (l : List A) (d : A) → length l ≡ 8 → l ≡ eight (λ k. get_or l k d)
eight_of (a ∷ b ∷ c ∷ d ∷ e ∷ f ∷ g ∷ h ∷ []) n p = refl
eight_of [] n p = absurd (omega arith)
eight_of (a ∷ []) n p = absurd (omega arith)
eight_of (a ∷ b ∷ []) n p = absurd (omega arith)
eight_of (a ∷ b ∷ c ∷ []) n p = absurd (omega arith)
eight_of (a ∷ b ∷ c ∷ d ∷ []) n p = absurd (omega arith)
eight_of (a ∷ b ∷ c ∷ d ∷ e ∷ []) n p = absurd (omega arith)
eight_of (a ∷ b ∷ c ∷ d ∷ e ∷ f ∷ []) n p = absurd (omega arith)
eight_of (a ∷ b ∷ c ∷ d ∷ e ∷ f ∷ g ∷ []) n p = absurd (omega arith)
eight_of (a ∷ b ∷ c ∷ d ∷ e ∷ f ∷ g ∷ h ∷ i ∷ l) n p = absurd (omega arith)

-- a test of the first n of eight, which are no more
pub first_of_eight : {A : Type 0} (f : A → Bool) (h : ℕ → A) (n : ℕ) → n ≤ 8
    → list_all f (take (min n 8) (eight h)) ≡ all_below n (λ k. f (h k))
first_of_eight f h n l =
    ap (λ (k : ℕ). list_all f (take k (map h (range_with_len 0 8)))) (omega arith)
    ∙ ap (list_all f) (take-map-range_with_len h 0 8 n l) ∙ list_all-map f h (range_with_len 0 n) ∙ all_of_range (λ k. f (h k)) n

-- the classes stay where the number is not one of theirs
pub set_past : {A : Type 0} (l : List A) (i : ℕ) (a : A) → length l ≤ i → l ≡ set l i a
set_past [] i a h = refl
set_past (x ∷ l) zero a h = absurd (omega arith)
set_past (x ∷ l) (suc i) a h = ap (λ (m : List _). x ∷ m) (set_past l i a (omega arith))

-- The classes before n with their limits, and none of them with an operation.
abbrev pub only_limit : ℕ → Class
only_limit n = record { members = 0; limit = n }

abbrev pub limits_to : Graph → ℕ → ℕ → Class
limits_to g n k = only_limit (cond (ltb k n) (limit g k) 0)

module _ (g : Graph) (n : ℕ) where
  pub limits_turn : n < 8 → set (eight (limits_to g n)) n (only_limit (limit g n)) ≡ eight (limits_to g (n + 1))
  limits_turn l =
      eight_of (set old n new) none (length-set old n new) ∙ eight-same (λ k. get_or (set old n new) k none) (limits_to g (n + 1)) each
    where
      none : Class
      none = record { members = 0; limit = 0 }

      old : List Class
      old = eight (limits_to g n)

      new : Class
      new = record { members = 0; limit = limit g n }

      where_on : ℕ → Bool → Class
      where_on k b = record { members = 0; limit = cond b (limit g k) 0 }

      at : (k : ℕ) (s t : Bool) → s ≡ t → where_on k s ≡ where_on k t
      at k s t e = ap (where_on k) e

      each : (k : ℕ) → k < 8 → get_or (set old n new) k none ≡ limits_to g (n + 1) k
      each k h =
          ⊎_elim
          (λ (p : n ≡ k). ap (λ (m : ℕ). get_or (set old n new) m none) (sym p) ∙ get_or-set_same old n new none l
          ∙ at n true (ltb n (n + 1)) (sym (lt-ltb n (n + 1) (omega arith))) ∙ ap (limits_to g (n + 1)) p)
          (⊎_elim
          (λ (p : n < k). get_or-set_other old n k new none (λ e. omega arith) ∙ eight-at (limits_to g n) none k h
          ∙ at k (ltb k n) (ltb k (n + 1)) (le-ltb k n (omega arith) ∙ sym (le-ltb k (n + 1) (omega arith))))
          (λ (p : k < n). get_or-set_other old n k new none (λ e. omega arith) ∙ eight-at (limits_to g n) none k h
          ∙ at k (ltb k n) (ltb k (n + 1)) (lt-ltb k n p ∙ sym (lt-ltb k (n + 1) (omega arith)))))
          (trichotomy n k)

  -- all of them, where a class that the graph has not has the limit 0
  pub limits_all : ((k : ℕ) → n ≤ k → k < 8 → limit g k ≡ 0) → eight (limits_to g n) ≡ eight (λ k. only_limit (limit g k))
  limits_all past = eight-same (limits_to g n) (λ k. only_limit (limit g k)) each
    where
      each : (k : ℕ) → k < 8 → limits_to g n k ≡ only_limit (limit g k)
      each k h =
          ap only_limit
          (⊎_elim (λ (p : n ≤ k). ap (λ (b : Bool). cond b (limit g k) 0) (le-ltb k n p) ∙ sym (past k p h))
          (λ (p : k < n). ap (λ (b : Bool). cond b (limit g k) 0) (lt-ltb k n p)) (le-or-lt n k))

-- The class with its limit, and those of its operations that stand before j; without any where j is 0.
abbrev so_far : Graph → ℕ → ℕ → Class
so_far g j k = record { members = mask_below 32 (λ i. ltb i j && eqb (class g i) k); limit = limit g k }

unfoldable pub classes_to : Graph → ℕ → List Class
classes_to g j = eight (so_far g j)

module _ (g : Graph) where
  pub classes_start : eight (λ k. record { members = 0; limit = limit g k }) ≡ classes_to g 0
  unfolding classes_to
  classes_start =
      eight-same (λ k. record { members = 0; limit = limit g k }) (so_far g 0)
      (λ k h. ap (λ (m : ℕ). record { members = m; limit = limit g k }) (gather_start 32 (λ i. eqb (class g i) k)))

  module _ (j : ℕ) where
    abbrev none : Class
    none = record { members = 0; limit = 0 }

    abbrev its : ℕ
    its = class g j

    -- the class that j joins, and one that it does not
    joins : record { members = mask_below 32 (λ i. has (so_far g j its).members i || eqb j i); limit = limit g its }
        ≡ so_far g (j + 1) its
    joins =
        ap (λ (m : ℕ). record { members = m; limit = limit g its })
        (gather_turn 32 (so_far g j its).members (mask_below 32 (λ i. has (so_far g j its).members i || eqb j i)) j true refl
        (λ i. eqb (class g i) its) refl (sym (eq-eqb its its refl)))

    stays : (k : ℕ) → its ≢ k → so_far g j k ≡ so_far g (j + 1) k
    stays k n =
        ap (λ (m : ℕ). record { members = m; limit = limit g k })
        (gather_turn 32 set_k set_k j false
        (sym (mask-same 32 (λ i. has set_k i || false) (has set_k) (λ i h. or-false (has set_k i))
        ∙ mask_of_has 32 set_k (mask_lt 32 (λ i. ltb i j && eqb (class g i) k))))
        (λ i. eqb (class g i) k) refl (sym (ne_eqb its k n)))
      where
        set_k : ℕ
        set_k = (so_far g j k).members

    pub classes_turn : joined (classes_to g j) its j ≡ classes_to g (j + 1)
    unfolding classes_to joined
    classes_turn =
        eight_of (set old its new) none (length-set old its new)
        ∙ eight-same (λ k. get_or (set old its new) k none) (so_far g (j + 1)) each
      where
        old : List Class
        old = eight (so_far g j)

        added : Class → Class
        added c = record { members = mask_below 32 (λ i. has c.members i || eqb j i); limit = c.limit }

        new : Class
        new = added (get_or old its none)

        each : (k : ℕ) → k < 8 → get_or (set old its new) k none ≡ so_far g (j + 1) k
        each k h =
            ⊎_elim
            (λ (p : its ≡ k). let l : its < 8 = omega arith in
            ap (λ (m : ℕ). get_or (set old its new) m none) (sym p) ∙ get_or-set_same old its new none l
            ∙ ap added (eight-at (so_far g j) none its l) ∙ joins ∙ ap (so_far g (j + 1)) p)
            (λ q. let n : its ≢ k = λ p. ⊎_elim (λ (u : its < k). omega arith) (λ (u : k < its). omega arith) q in
            get_or-set_other old its k new none (λ p. n (sym p)) ∙ eight-at (so_far g j) none k h ∙ stays k n)
            (trichotomy its k)
