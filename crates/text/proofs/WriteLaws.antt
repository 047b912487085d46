-- Text laid into a buffer: nothing, past the end, byte by byte, one text behind another, and a text that has room. Assumes
-- nothing.
use Prim.Native.Nat.{ℕ, zero, suc, ◌+◌, ◌≤◌, ◌<◌}
use native.Mathlib.Nat.{zero-add, suc-add, not-suc-le-zero, le_of_suc-le-suc}
use native.Mathlib.Numerals.{add-one}
use mathlib.Core.Path.{◌≡◌, refl, ◌∙◌, ap}
use mathlib.Core.List.{List, [], ◌∷◌, ◌++◌}
use lib.ListN.{length, get_or, set, drop}
use lib.Seq.{drop-cons}
use Rattle.text.specs.Writing.{laid}

pub laid_none : (out : List ℕ) (at : ℕ) → laid out at [] ≡ out
unfolding laid
laid_none [] at = refl
laid_none (b ∷ out) zero = refl
laid_none (b ∷ out) (suc at) = ap (λ (l : List ℕ). b ∷ l) (laid_none out at)

pub laid-past : (out : List ℕ) (at : ℕ) (bytes : List ℕ) → length out ≤ at → laid out at bytes ≡ out
unfolding laid
laid-past [] at bytes h = refl
laid-past (b ∷ out) zero bytes h = absurd (not-suc-le-zero h)
laid-past (b ∷ out) (suc at) bytes h = ap (λ (l : List ℕ). b ∷ l) (laid-past out at bytes (le_of_suc-le-suc h))

pub laid_set : (out : List ℕ) (at x : ℕ) (bytes : List ℕ) → at < length out → laid (set out at x) (suc at) bytes ≡ laid out at (x ∷ bytes)
unfolding laid
laid_set [] at x bytes h = absurd (not-suc-le-zero h)
laid_set (b ∷ out) zero x bytes h = refl
laid_set (b ∷ out) (suc at) x bytes h = ap (λ (l : List ℕ). b ∷ l) (laid_set out at x bytes (le_of_suc-le-suc h))

then_front : (out a b : List ℕ) → laid (laid out 0 a) (length a) b ≡ laid out 0 (a ++ b)
unfolding laid
then_front [] a b = refl
then_front (x ∷ out) [] b = refl
then_front (x ∷ out) (y ∷ a) b = ap (λ (l : List ℕ). y ∷ l) (then_front out a b)

-- one text behind another
pub laid_then : (out : List ℕ) (at : ℕ) (a b : List ℕ) → laid (laid out at a) (at + length a) b ≡ laid out at (a ++ b)
unfolding laid
laid_then [] at a b = refl
laid_then (x ∷ out) zero a b =
    ap (λ (k : ℕ). laid (laid (x ∷ out) zero a) k b) (zero-add (length a)) ∙ then_front (x ∷ out) a b
laid_then (x ∷ out) (suc at) a b =
    ap (λ (k : ℕ). laid (x ∷ laid out at a) k b) (suc-add at (length a)) ∙ ap (λ (l : List ℕ). x ∷ l) (laid_then out at a b)

-- a text that has room
pub laid_whole : (out bytes : List ℕ) → length bytes ≤ length out → laid out 0 bytes ≡ bytes ++ drop (length bytes) out
unfolding laid
laid_whole [] [] h = refl
laid_whole [] (x ∷ bytes) h = absurd (not-suc-le-zero h)
laid_whole (b ∷ out) [] h = refl
laid_whole (b ∷ out) (x ∷ bytes) h = ap (λ (l : List ℕ). x ∷ l) (laid_whole out bytes (le_of_suc-le-suc h))

-- one byte more
pub laid_turn : (out bytes : List ℕ) (to i : ℕ) → to < length out → i < length bytes
    → laid (set out to (get_or bytes i 0)) (to + 1) (drop (i + 1) bytes) ≡ laid out to (drop i bytes)
laid_turn out bytes to i h k =
    rw (add-one to, add-one i, drop-cons bytes i 0 k) (laid_set out to (get_or bytes i 0) (drop (suc i) bytes) h)
