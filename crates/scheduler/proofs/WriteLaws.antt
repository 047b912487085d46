-- Laws of writing bytes into a buffer. Assumes nothing.
use Prim.Native.Nat.{ℕ, zero, suc, ◌+◌, ◌-◌, ◌^◌, ◌/◌, ◌%◌, ◌≤◌, ◌<◌}
use native.Mathlib.Nat.{add-zero, zero-add, mod-eq_of_lt}
use native.Mathlib.Omega.{arith}
use mathlib.Core.Path.{◌≡◌, refl, sym, ◌∙◌, ap, ap₂}
use mathlib.Core.List.{List, [], ◌∷◌, ◌++◌, append_assoc}
use lib.ListN.{length, take, drop, length-append, length-drop, take-append-drop}
use lib.Seq.{take_at, drop_at, drop-append-add, drop-drop, length-take-le}
use borrow.Rule.Slice.PartMut.{put_mid}
use Rattle.std.specs.Int.{w32, to_le_bytes}
use Rattle.machine.specs.Tables.{Row}
use Rattle.meaning.specs.Graph.{Graph}
use Rattle.meaning.specs.Steps.{machine_of}
use Rattle.meaning.specs.TableFile.{mask_bytes, row_bytes, row_start, bytes_of, header_file, row_file}
use Rattle.meaning.proofs.Bytes.{bytes_length}
use Rattle.meaning.proofs.TableFile.{row_first}
use Rattle.scheduler.specs.Writing.{written}

pub written_none : (t : List ℕ) (at : ℕ) → written t at [] ≡ t
unfolding written
written_none t at = ap (λ (k : ℕ). take at t ++ drop k t) (add-zero at) ∙ take-append-drop at t

pub written-length : (t : List ℕ) (at : ℕ) (bytes : List ℕ) → at + length bytes ≤ length t → length (written t at bytes) ≡ length t
unfolding written
written-length t at bytes h =
    length-append (take at t) (bytes ++ drop (at + length bytes) t)
    ∙ ap₂ (λ (x y : ℕ). x + y) (length-take-le at t (omega arith)) (length-append bytes (drop (at + length bytes) t))
    ∙ omega (arith, length-drop (at + length bytes) t)

-- more bytes after the first
written_more : (t : List ℕ) (at : ℕ) (a b : List ℕ) → at + length a ≤ length t
    → written (written t at a) (at + length a) b ≡ written t at (a ++ b)
unfolding written
written_more t at a b h = ap (λ (x : List ℕ). take (at + length a) x ++ (b ++ drop (at + length a + length b) x)) (sym (append_assoc x a d))
    ∙ ap₂ (λ (y z : List ℕ). y ++ (b ++ z)) (take_at (x ++ a) d (at + length a) front) behind
    ∙ append_assoc x a (b ++ drop (at + length (a ++ b)) t) ∙ ap (λ (y : List ℕ). x ++ y) (sym (append_assoc a b (drop (at + length (a ++ b)) t)))
  where
    x : List ℕ
    x = take at t

    d : List ℕ
    d = drop (at + length a) t

    front : length (x ++ a) ≡ at + length a
    front = length-append x a ∙ ap (λ (k : ℕ). k + length a) (length-take-le at t (omega arith))

    sum : at + length a + length b ≡ at + length (a ++ b)
    sum = omega (arith, length-append a b)

    behind : drop (at + length a + length b) ((x ++ a) ++ d) ≡ drop (at + length (a ++ b)) t
    behind =
        ap (λ (k : ℕ). drop (k + length b) ((x ++ a) ++ d)) (sym front) ∙ drop-append-add (x ++ a) d (length b)
        ∙ drop-drop (length b) (at + length a) t ∙ ap (λ (k : ℕ). drop k t) sum

-- a part of the buffer that becomes these bytes
pub part-written : (t : List ℕ) (at size : ℕ) (bytes : List ℕ) → length bytes ≡ size → put_mid at (at + size - at) t bytes ≡ written t at bytes
unfolding written
part-written t at size bytes e =
    ap (λ (d : List ℕ). take at t ++ (bytes ++ d)) (drop-drop (at + size - at) at t ∙ ap (λ (k : ℕ). drop k t) (omega (arith, e)))

-- the low bytes of a number, as std has them
pub bytes-low : (size x : ℕ) → size ≤ 4 → take size (to_le_bytes w32 x) ≡ bytes_of size x
unfolding bytes_of
bytes-low zero x h = refl
bytes-low (suc zero) x h = refl
bytes-low (suc (suc zero)) x h = refl
bytes-low (suc (suc (suc zero))) x h = ap (λ (a : ℕ). x % 256 ∷ x / 256 % 256 ∷ a % 256 ∷ []) (omega arith)
bytes-low (suc (suc (suc (suc zero)))) x h = ap₂ (λ (a b : ℕ). x % 256 ∷ x / 256 % 256 ∷ a % 256 ∷ b % 256 ∷ []) (omega arith) (omega arith)
bytes-low (suc (suc (suc (suc (suc n))))) x h = absurd (omega arith)

-- two writes, one behind the other
pub written_then : (t u v : List ℕ) (at next : ℕ) (a b : List ℕ) → u ≡ written t at a → v ≡ written u next b
    → next ≡ at + length a → at + length a ≤ length t → v ≡ written t at (a ++ b)
written_then t u v at next a b d e h k =
    e ∙ ap₂ (λ (x : List ℕ) (i : ℕ). written x i b) d h ∙ written_more t at a b k

-- what stands before is written last
pub written-before : (t u v : List ℕ) (next : ℕ) (a b : List ℕ) → u ≡ written t next b → v ≡ written u 0 a
    → next ≡ length a → next ≤ length t → v ≡ written t 0 (a ++ b)
unfolding written
written-before t u v next a b d e h k =
    e ∙ ap (λ (x : List ℕ). a ++ drop (0 + length a) x) d
    ∙ ap (λ (n : ℕ). a ++ drop n (take next t ++ (b ++ drop (next + length b) t))) (zero-add (length a) ∙ sym h)
    ∙ ap (λ (x : List ℕ). a ++ x) (drop_at (take next t) (b ++ drop (next + length b) t) next (length-take-le next t k))
    ∙ sym (append_assoc a b (drop (next + length b) t)) ∙ ap (λ (n : ℕ). (a ++ b) ++ drop n t) there
  where
    there : next + length b ≡ 0 + length (a ++ b)
    there = omega (arith, length-append a b)

-- A header, field by field: the buffer after the first write, the second, and so on.
module _ (t first second third fourth fifth : List ℕ) (edition cycles rows : ℕ) (room : row_start edition 1 ≤ length t) (known : edition < 2 ^ 8) (few : cycles < 2 ^ 8) where
  pub header-written : first ≡ written t 0 (bytes_of 2 0x5448) → second ≡ written first 2 (bytes_of 1 edition) → third ≡ written second 3 (bytes_of 1 cycles)
      → fourth ≡ written third 4 (bytes_of 2 rows) → fifth ≡ written fourth 6 (bytes_of 2 (row_start edition 1)) → fifth ≡ written t 0 (header_file edition cycles rows)
  unfolding header_file bytes_of
  header-written one two three four five =
      let long = row_first edition in
      let marked = bytes_of 2 0x5448 ++ bytes_of 1 edition in
      let counted = marked ++ bytes_of 1 cycles in
      let to-second = written_then t first second 0 2 (bytes_of 2 0x5448) (bytes_of 1 edition) one two refl (omega arith) in
      let to-third = written_then t second third 0 3 marked (bytes_of 1 cycles) to-second three refl (omega arith) in
      let to-fourth = written_then t third fourth 0 4 counted (bytes_of 2 rows) to-third four refl (omega arith) in
      written_then t fourth fifth 0 6 (counted ++ bytes_of 2 rows) (bytes_of 2 (row_start edition 1)) to-fourth five refl (omega arith)
      ∙ rw (row_first, mod-eq_of_lt known, mod-eq_of_lt few) refl

-- A row, field by field.
module _ (g : Graph) (r : Row (machine_of g)) (t first second third fourth : List ℕ) (at : ℕ) (room : at + row_bytes g.edition ≤ length t)
    (early : r.cycle < 2 ^ 8) (few : r.state.values < 2 ^ 8) where
  abbrev size : ℕ
  size = mask_bytes g.edition

  pub row_written : first ≡ written t at (bytes_of 1 r.cycle) → second ≡ written first (at + 1) (bytes_of 1 r.state.values)
      → third ≡ written second (at + 2) (bytes_of size r.state.done) → fourth ≡ written third (at + 2 + size) (bytes_of size r.step)
      → fourth ≡ written t at (row_file g r)
  unfolding row_file row_bytes bytes_of
  row_written one two three four =
      let start = bytes_of 1 r.cycle ++ bytes_of 1 r.state.values in
      let done = bytes_of size r.state.done in
      let long : length (start ++ done) ≡ suc (suc size) = ap (λ (k : ℕ). suc (suc k)) (bytes_length size r.state.done) in
      let to-second = written_then t first second at (at + 1) (bytes_of 1 r.cycle) (bytes_of 1 r.state.values) one two refl (omega arith) in
      let to-third = written_then t second third at (at + 2) start done to-second three refl (omega arith) in
      written_then t third fourth at (at + 2 + size) (start ++ done) (bytes_of size r.step) to-third four (omega arith) (omega arith)
      ∙ rw (mod-eq_of_lt early, mod-eq_of_lt few) refl
