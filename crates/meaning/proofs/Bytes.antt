-- Numbers as bytes: what was written is read back, and what was read is written back, wherever it stands in a file; then the
-- parts of a file. Assumes nothing.
use Prim.Native.Nat.{ℕ, zero, suc, ◌+◌, ◌*◌, ◌^◌, ◌/◌, ◌%◌, ◌≤◌, ◌<◌}
use native.Mathlib.Nat.{add_assoc, add-zero, zero-add, mod-lt, mod-add-div, pow-suc, div-lt_iff_lt-mul, add-mul-mod_self_left, add-mul-div_left, mod-eq_of_lt, div-eq_of_lt}
use native.Mathlib.Omega.{arith}
use mathlib.Core.Path.{◌≡◌, refl, sym, ◌∙◌, ap}
use mathlib.Core.List.{List, [], ◌∷◌, ◌++◌}
use lib.ListN.{length, take, drop, length-append, take-append-drop}
use lib.Seq.{slice, take-append-add, drop-append-add, take_at, drop_at, take-take, length-slice, get_or-append-add, get_or-append_seam}
use lib.Dec.{lit<}
use Rattle.meaning.specs.Graph.{byte_at, little_endian, number_at}
use Rattle.meaning.specs.TableFile.{bytes_of}

pub bytes_length : (size x : ℕ) → length (bytes_of size x) ≡ size
unfolding bytes_of
bytes_length zero x = refl
bytes_length (suc size) x = ap suc (bytes_length size (x / 256))

pub bytes_number : (size x : ℕ) → x < 256 ^ size → little_endian (bytes_of size x) ≡ x
unfolding bytes_of little_endian
bytes_number zero x h = omega arith
bytes_number (suc size) x h =
    ap (λ (k : ℕ). x % 256 + 256 * k) (bytes_number size (x / 256) ((div-lt_iff_lt-mul (omega arith)).1 (rw (← pow-suc) h)))
    ∙ mod-add-div x 256

-- a list of bytes: every number in it is below 256
pub data AreBytes : List ℕ → Type 0 where
  empty : AreBytes []
  more : {x : ℕ} {l : List ℕ} → x < 256 → AreBytes l → AreBytes (x ∷ l)

pub append-small : {a b : List ℕ} → AreBytes a → AreBytes b → AreBytes (a ++ b)
append-small empty k = k
append-small (more h t) k = more h (append-small t k)

pub bytes_small : (size x : ℕ) → AreBytes (bytes_of size x)
unfolding bytes_of
bytes_small zero x = empty
bytes_small (suc size) x = more (mod-lt x (omega arith)) (bytes_small size (x / 256))

-- what stands behind a first part, counted from there
pub byte-after : (p l : List ℕ) (i : ℕ) → byte_at (p ++ l) (length p + i) ≡ byte_at l i
unfolding byte_at
byte-after p l i = get_or-append-add p l i 0

pub number-after : (p l : List ℕ) (i size : ℕ) → number_at (p ++ l) (length p + i) size ≡ number_at l i size
unfolding number_at
number-after p l i size =
    ap little_endian (ap (λ (k : ℕ). slice (length p + i) k (p ++ l)) (add_assoc (length p) i size)
    ∙ ap (drop (length p + i)) (take-append-add p l (i + size)) ∙ drop-append-add p (take (i + size) l) i)

-- what stands at the end of a first part
pub byte-at : (p q : List ℕ) (x : ℕ) → byte_at (p ++ x ∷ q) (length p) ≡ x
unfolding byte_at
byte-at p q x = get_or-append_seam p x q 0

pub number-at : (p q : List ℕ) (size x : ℕ) → x < 256 ^ size → number_at (p ++ (bytes_of size x ++ q)) (length p) size ≡ x
unfolding number_at
number-at p q size x h =
    ap (λ (k : ℕ). number_at (p ++ (bytes_of size x ++ q)) k size) (sym (add-zero (length p)))
    ∙ number-after p (bytes_of size x ++ q) 0 size
    ∙ ap little_endian (take_at (bytes_of size x) q (0 + size) (bytes_length size x ∙ sym (zero-add size))) ∙ bytes_number size x h

-- the parts of a list of bytes are bytes
take-small : (n : ℕ) {l : List ℕ} → AreBytes l → AreBytes (take n l)
take-small zero h = empty
take-small (suc n) empty = empty
take-small (suc n) (more h t) = more h (take-small n t)

drop-small : (n : ℕ) {l : List ℕ} → AreBytes l → AreBytes (drop n l)
drop-small zero h = h
drop-small (suc n) empty = empty
drop-small (suc n) (more h t) = drop-small n t

-- what was read is written back
number_bytes : {l : List ℕ} → AreBytes l → bytes_of (length l) (little_endian l) ≡ l
unfolding bytes_of little_endian
number_bytes empty = refl
number_bytes (more {x = x} {l = l} h t) =
    let n = little_endian l in
    rw (add-mul-mod_self_left x 256 n, mod-eq_of_lt h, add-mul-div_left x n {y = 256} (lit< tt), div-eq_of_lt h, zero-add n)
    (ap (λ (r : List ℕ). x ∷ r) (number_bytes t))

pub bytes_at : {file : List ℕ} → AreBytes file → (at size : ℕ) → at + size ≤ length file
    → bytes_of size (number_at file at size) ≡ slice at (at + size) file
unfolding number_at
bytes_at {file} bytes at size h =
    ap (λ (k : ℕ). bytes_of k (little_endian (slice at (at + size) file))) (omega (arith, length-slice at (at + size) file h))
    ∙ number_bytes (drop-small at (take-small (at + size) bytes))

-- a part in the middle is what was put there
pub slice_at : (p l q : List ℕ) (from to : ℕ) → length p ≡ from → from + length l ≡ to → slice from to (p ++ l ++ q) ≡ l
slice_at p l q from to e d = ap (drop from) (take_at (p ++ l) q to (length-append p l ∙ omega arith)) ∙ drop_at p l from e

-- a first part and the one where it ends are one
pub parts_meet : (a b : ℕ) (l : List ℕ) → a ≤ b → take a l ++ slice a b l ≡ take b l
parts_meet a b l h = ap (λ (m : List ℕ). m ++ slice a b l) (sym (take-take a b l h)) ∙ take-append-drop a (take b l)
