-- The sets that are free at some numbers and fixed at the others: 2 to the power of the number of free ones. Assumes nothing.
use Prim.Native.Nat.{ℕ, zero, suc, ◌+◌, ◌^◌, ◌<◌}
use native.Mathlib.Nat.{le_refl, add-zero, two-pow-succ}
use native.Mathlib.Numerals.{add-one}
use native.Mathlib.Omega.{arith}
use mathlib.Core.Path.{◌≡◌, refl, sym, ◌∙◌, ap, ap₂, subst}
use mathlib.Core.Logic.{⊎_elim, ∥∥₁_elim}
use mathlib.Core.HLevel.{⊥_prop, ¬_prop}
use mathlib.Core.Bool.{Bool, true, false, cond}
use mathlib.Core.List.Memᴰ
use mathlib.Core.List.Pairwise
use mathlib.Core.List.{List, [], ◌∷◌, ◌++◌, map, Mem, Memᴰ, Nodup, Nodup-append, not-mem-nil}
use lib.ListN.{length, length-append, length-map}
use Rattle.machine.specs.Sets.{has, count_below, mask_below}
use Rattle.machine.proofs.Sets.{mask-same, join-lt, join-low, join_top}

-- the sets of a list, each with the member n where b holds
abbrev joined : ℕ → Bool → List ℕ → List ℕ
joined n b l = map (λ v. v + cond b (2 ^ n) 0) l

module _ (free fixed : ℕ → Bool) where
  -- the set below n that is as the word says where a number is free, and as the test `fixed` says elsewhere
  abbrev pub chosen : ℕ → ℕ → ℕ
  chosen n w = mask_below n (λ j. cond (free j) (has w j) (fixed j))

  -- a list of all these sets
  unfoldable pub choices : ℕ → List ℕ
  choices zero = 0 ∷ []
  choices (suc n) =
      let l = choices n in
      cond (free n) (joined n false l ++ joined n true l) (joined n (fixed n) l)

  -- it has 2 ^ m elements for m free numbers
  pub choices_size : (n : ℕ) → length (choices n) ≡ 2 ^ count_below n free
  unfolding choices count_below
  choices_size zero = refl
  choices_size (suc n) = more (free n) (choices_size n)
    where
      l : List ℕ
      l = choices n

      more : (b : Bool) → length l ≡ 2 ^ count_below n free
          → length (cond b (joined n false l ++ joined n true l) (joined n (fixed n) l)) ≡ 2 ^ (count_below n free + cond b 1 0)
      more true e =
          let m = count_below n free in
          length-append (joined n false l) (joined n true l)
          ∙ omega (arith, length-map l (λ v. v + 0), length-map l (λ v. v + 2 ^ n), two-pow-succ m)
          ∙ ap (λ (k : ℕ). 2 ^ k) (sym (add-one m))
      more false e =
          length-map l (λ v. v + cond (fixed n) (2 ^ n) 0) ∙ e ∙ ap (λ (k : ℕ). 2 ^ k) (sym (add-zero (count_below n free)))

  -- every such set is listed
  pub chosen-listed : (n w : ℕ) → Memᴰ (chosen n w) (choices n)
  unfolding choices mask_below
  chosen-listed zero w = Memᴰ.head refl
  chosen-listed (suc n) w = here (free n) (has w n) (chosen-listed n w)
    where
      l : List ℕ
      l = choices n

      here : (b d : Bool) → Memᴰ (chosen n w) l
          → Memᴰ (chosen n w + cond (cond b d (fixed n)) (2 ^ n) 0)
          (cond b (joined n false l ++ joined n true l) (joined n (fixed n) l))
      here true true m = Memᴰ.append_right (joined n false l) (Memᴰ.map (λ v. v + 2 ^ n) m)
      here true false m = Memᴰ.append_left (joined n true l) (Memᴰ.map (λ v. v + 0) m)
      here false d m = Memᴰ.map (λ v. v + cond (fixed n) (2 ^ n) 0) m

  -- a listed set is such a set, with itself as the word
  pub listed-chosen : (n v : ℕ) → Memᴰ v (choices n) → (v < 2 ^ n) × (v ≡ chosen n v)
  unfolding choices mask_below
  listed-chosen zero v m = (rw (Memᴰ.eq_of_singleton m) (le_refl 1), Memᴰ.eq_of_singleton m)
  listed-chosen (suc n) v m = by (free n) refl (listed-chosen n) m
    where
      l : List ℕ
      l = choices n

      step : (b : Bool) → b ≡ cond (free n) b (fixed n) → ((u : ℕ) → Memᴰ u l → (u < 2 ^ n) × (u ≡ chosen n u))
          → Memᴰ v (joined n b l) → (v < 2 ^ suc n) × (v ≡ chosen (suc n) v)
      step b e known k = subst (λ (x : ℕ). (x < 2 ^ suc n) × (x ≡ chosen (suc n) x)) r.2 (join-lt u n b q.0, ap₂ (λ (x : ℕ) (d : Bool). x + cond d (2 ^ n) 0) low top)
        where
          r : (u : ℕ) × Memᴰ u l × (u + cond b (2 ^ n) 0 ≡ v)
          r = Memᴰ.of_map (λ u. u + cond b (2 ^ n) 0) l k

          u : ℕ
          u = r.0

          q : (u < 2 ^ n) × (u ≡ chosen n u)
          q = known u r.1

          low : u ≡ chosen n (u + cond b (2 ^ n) 0)
          low = q.1 ∙ mask-same n _ _ (λ j h. ap (λ (d : Bool). cond (free j) d (fixed j)) (sym (join-low u n b j h)))

          top : b ≡ cond (free n) (has (u + cond b (2 ^ n) 0) n) (fixed n)
          top = e ∙ ap (λ (d : Bool). cond (free n) d (fixed n)) (sym (join_top u n b q.0))

      by : (f : Bool) → free n ≡ f → ((u : ℕ) → Memᴰ u l → (u < 2 ^ n) × (u ≡ chosen n u))
          → Memᴰ v (cond f (joined n false l ++ joined n true l) (joined n (fixed n) l))
          → (v < 2 ^ suc n) × (v ≡ chosen (suc n) v)
      by true e known k =
          ⊎_elim (step false (rw e refl) known) (step true (rw e refl) known) (Memᴰ.append_cases (joined n false l) k)
      by false e known k = step (fixed n) (rw e refl) known k

  -- no set is listed twice
  pub choices_differ : (n : ℕ) → Nodup (choices n)
  unfolding choices
  choices_differ zero = Pairwise.cons (λ v m. absurd (not-mem-nil m)) Pairwise.nil
  choices_differ (suc n) = more (free n) (choices_differ n)
    where
      l : List ℕ
      l = choices n

      each : (b : Bool) → Nodup l → Nodup (joined n b l)
      each b d = Pairwise.map (λ u v. ¬_prop) (λ v. v + cond b (2 ^ n) 0) (λ u v differ e. differ (omega arith)) d

      top : (b : Bool) (v : ℕ) → Memᴰ v (joined n b l) → has v n ≡ b
      top b v m =
          let r = Memᴰ.of_map (λ u. u + cond b (2 ^ n) 0) l m in
          ap (λ (k : ℕ). has k n) (sym r.2) ∙ join_top r.0 n b (listed-chosen n r.0 r.1).0

      apart : (v : ℕ) → Mem v (joined n false l) → Mem v (joined n true l) → ⊥
      apart v p q = ∥∥₁_elim p ⊥_prop (λ a. ∥∥₁_elim q ⊥_prop (λ b. clash (top false v a) (top true v b)))
        where
          clash : has v n ≡ false → has v n ≡ true → ⊥
          clash e f = let z : ◌≡◌ {A = ℕ} 0 1 = cc in omega arith

      more : (b : Bool) → Nodup l → Nodup (cond b (joined n false l ++ joined n true l) (joined n (fixed n) l))
      more true d = Nodup-append.1 (each false d, each true d, apart)
      more false d = each (fixed n) d
