-- Parts as the code cuts them, and records of a part. Assumes nothing.
use Prim.Native.Nat.{ℕ, zero, suc, min, ◌+◌, ◌-◌, ◌*◌, ◌≤◌, ◌<◌}
use native.Mathlib.Nat.{add-zero, sub-zero}
use native.Mathlib.Omega.{arith}
use mathlib.Core.Path.{◌≡◌, refl, sym, ◌∙◌, ap, ap₂, subst}
use mathlib.Core.Logic.{⊎_elim}
use mathlib.Core.List.{List, [], ◌∷◌}
use lib.ListN.{length, get_or, take, drop, length-drop, drop_of_length-le}
use lib.Seq.{slice, take_all, take-nil, drop-nil, get_or-drop}
use Rattle.machine.proofs.Sets.{le-or-lt}
use Rattle.meaning.specs.Graph.{Graph, byte_at, operation_bytes, arc_bytes, class, path, source, target, kind, joins}
use Rattle.meaning.specs.TableFile.{mask_bytes, table_in}
use Rattle.parts.specs.declared.Arc.{Arc}
use Rattle.parts.specs.declared.Operation.{Operation}
use Rattle.parts.specs.declared.Row.{Row}
use lib.Dec.{eqb, ltb}
use borrow.Author.Tests.{lt-ltb, ne_eqb}
use Rattle.parts.specs.Fields.{literals_of, kind_of, is_follow, is_unknown, row_of, IsOperation, IsArc, IsRow}

-- a part from its start on
part : (a e : ℕ) (l : List ℕ) → a ≤ e → take (e - a) (drop a l) ≡ slice a e l
part zero e l h = ap (λ (n : ℕ). take n l) (sub-zero e)
part (suc a) e [] h = take-nil (e - suc a) ∙ sym (ap (drop (suc a)) (take-nil e) ∙ drop-nil (suc a))
part (suc a) zero (x ∷ l) h = absurd (omega arith)
part (suc a) (suc e) (x ∷ l) h = ap (λ (n : ℕ). take n (drop a l)) (sub e a) ∙ part a e l (omega arith)
  where
    sub : (m n : ℕ) → suc m - suc n ≡ m - n
    sub m n = omega arith

-- a part stops at the end of the file
pub part_within : (a e start end : ℕ) (l : List ℕ) → a ≤ e → start ≡ min a (length l) → end ≡ min e (length l)
    → take (end - start) (drop start l) ≡ slice a e l
part_within a e start end l h s t = ⊎_elim inside (λ (k : length l < e). beyond k) (le-or-lt e (length l))
  where
    inside : e ≤ length l → take (end - start) (drop start l) ≡ slice a e l
    inside k = ap₂ (λ (m n : ℕ). take (n - m) (drop m l)) from to ∙ part a e l h
      where
        from : start ≡ a
        from = omega arith

        to : end ≡ e
        to = omega arith

    beyond : length l < e → take (end - start) (drop start l) ≡ slice a e l
    beyond k =
        take_all (end - start) (drop start l) (subst (λ (n : ℕ). n ≤ end - start) (sym (length-drop start l)) (omega arith))
        ∙ ⊎_elim (λ (m : a ≤ length l). ap (λ (n : ℕ). drop n l) (low m))
        (λ (m : length l < a). drop_of_length-le l {i = start} (omega arith) ∙ sym (drop_of_length-le l {i = a} (omega arith))) (le-or-lt a (length l))
        ∙ ap (drop a) (sym (take_all e l (omega arith)))
      where
        low : a ≤ length l → start ≡ a
        low m = omega arith

-- byte i of what is left from a record's start on
byte_in : (start i : ℕ) (part bytes : List ℕ) → bytes ≡ drop start part → byte_at bytes i ≡ byte_at part (start + i)
unfolding byte_at
byte_in start i part bytes e = ap (λ (m : List ℕ). get_or m i 0) e ∙ get_or-drop start part i 0

byte_first : (start : ℕ) (part bytes : List ℕ) → bytes ≡ drop start part → byte_at bytes 0 ≡ byte_at part start
byte_first start part bytes e = byte_in start 0 part bytes e ∙ ap (byte_at part) (add-zero start)

-- a record's first bytes are those of operation j, and of arc a
module _ (g : Graph) (j : ℕ) (bytes fields : List ℕ) where
  at : (five : List ℕ) (i : ℕ) → fields ≡ five → get_or fields i 0 ≡ get_or five i 0
  at five i e = ap (λ (l : List ℕ). get_or l i 0) e

  pub operation_in : (size : ℕ) (r : Operation) → size ≡ operation_bytes g.edition → bytes ≡ drop (size * j) g.operations
      → fields ≡ byte_at bytes 0 ∷ byte_at bytes 1 ∷ byte_at bytes 2 ∷ []
      → r.«class» ≡ get_or fields 0 0 → r.path.on_true ≡ get_or fields 1 0 → r.path.on_false ≡ get_or fields 2 0
      → IsOperation g j r
  unfolding class path literals_of
  operation_in size r e d are p q s =
      let here : bytes ≡ drop (operation_bytes g.edition * j) g.operations = subst (λ (n : ℕ). bytes ≡ drop (n * j) g.operations) e d in
      record {
        class = p ∙ at _ 0 are ∙ byte_first _ _ _ here;
        path = ap₂ (λ (t f : ℕ). record { on_true = t; on_false = f }) (q ∙ at _ 1 are ∙ byte_in _ 1 _ _ here) (s ∙ at _ 2 are ∙ byte_in _ 2 _ _ here);
      }

  pub arc_in : (r : Arc) → bytes ≡ drop (arc_bytes * j) g.arcs
      → fields ≡ byte_at bytes 0 ∷ byte_at bytes 1 ∷ byte_at bytes 2 ∷ byte_at bytes 3 ∷ byte_at bytes 4 ∷ []
      → r.source ≡ get_or fields 0 0 → r.target ≡ get_or fields 1 0 → r.kind ≡ kind_of (get_or fields 2 0)
      → r.joins.on_true ≡ get_or fields 3 0 → r.joins.on_false ≡ get_or fields 4 0
      → IsArc g j r
  unfolding source target kind joins literals_of
  arc_in r here are p q k t f =
      record {
        source = p ∙ at _ 0 are ∙ byte_first _ _ _ here;
        target = q ∙ at _ 1 are ∙ byte_in _ 1 _ _ here;
        kind = k ∙ ap kind_of (at _ 2 are ∙ byte_in _ 2 _ _ here);
        joins = ap₂ (λ (t f : ℕ). record { on_true = t; on_false = f }) (t ∙ at _ 3 are ∙ byte_in _ 3 _ _ here) (f ∙ at _ 4 are ∙ byte_in _ 4 _ _ here);
      }

-- no mask of a row has more bytes than `numbers::number` reads
pub mask_whole : (edition : ℕ) → min (mask_bytes edition) 4 ≡ mask_bytes edition
unfolding mask_bytes
mask_whole edition = refl

-- the kind of a number
pub follow_is : (n : ℕ) → is_follow (kind_of n) ≡ eqb n 1
unfolding kind_of is_follow
follow_is zero = refl
follow_is (suc zero) = refl
follow_is (suc (suc n)) = sym (ne_eqb (suc (suc n)) 1 (λ e. omega (arith, e)))

pub unknown_is : (n : ℕ) → is_unknown (kind_of n) ≡ ltb 1 n
unfolding kind_of is_unknown
unknown_is zero = refl
unknown_is (suc zero) = refl
unknown_is (suc (suc n)) = sym (lt-ltb 1 (suc (suc n)) (omega arith))

-- what the code has read is a row of the table
pub row_is : (g : Graph) (table : List ℕ) (p : ℕ) (r : Row) → IsRow g table p r → row_of g r ≡ (table_in g table).row p
unfolding row_of table_in
row_is g table p r is = cc
