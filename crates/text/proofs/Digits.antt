-- The digits of a number, written from the last to the first: one more, the first, and how many there are. Assumes nothing.
use Prim.Native.Nat.{ℕ, zero, suc, ◌+◌, ◌-◌, ◌/◌, ◌%◌, ◌^◌, ◌≤◌, ◌<◌}
use native.Mathlib.Nat.{pow-suc, div-lt_iff_lt-mul, not-suc-le-zero, le_of_suc-le-suc}
use native.Mathlib.Omega.{arith}
use mathlib.Core.Path.{◌≡◌, refl, sym, ◌∙◌, ap}
use mathlib.Core.Bool.{Bool, cond}
use mathlib.Core.List.{List, [], ◌∷◌, ◌++◌, append_assoc, append-nil}
use lib.ListN.{length, set, take, drop, length-set, length-drop, drop_of_length-le}
use lib.Seq.{take_all}
use borrow.Author.Tests.{le-ltb, lt-ltb}
use Rattle.meaning.specs.Listing.{digits, decimal}
use Rattle.text.specs.Writing.{Counted}

-- What is written of a number's digits so far: those behind the first `places`, which are for the rest of the number.
pub record Written (whole line : List ℕ) (places rest : ℕ) : Type 0 where
  pub some : 0 < places
  pub below : places ≤ 20
  pub small : rest < 10 ^ places
  pub long : length line ≡ 20
  pub whole_is : digits places rest ++ drop places line ≡ whole

-- what stands from the place on that was just stored
drop_set : (line : List ℕ) (i x : ℕ) → i < length line → drop i (set line i x) ≡ x ∷ drop (suc i) line
drop_set [] i x h = absurd (not-suc-le-zero h)
drop_set (y ∷ line) zero x h = refl
drop_set (y ∷ line) (suc i) x h = drop_set line i x (le_of_suc-le-suc h)

-- before the first store
pub none_written : (line : List ℕ) (n : ℕ) → length line ≡ 20 → n < 2 ^ 64 → Written (decimal n) line 20 n
unfolding decimal
none_written line n e h =
    record {
      some = omega arith;
      below = omega arith;
      small = omega arith;
      long = e;
      whole_is = ap (λ (l : List ℕ). digits 20 n ++ l) (drop_of_length-le line {i = 20} (omega arith)) ∙ append-nil (digits 20 n);
    }

-- the digits of a rest that has more than one, and of one that has only one
more_digits : (first rest : ℕ) (tail : List ℕ) → 10 ≤ rest → digits first (rest / 10) ++ ((48 + rest % 10) ∷ tail) ≡ digits (suc first) rest ++ tail
unfolding digits
more_digits first rest tail h =
    sym (append_assoc (digits first (rest / 10)) ((48 + rest % 10) ∷ []) tail)
    ∙ ap (λ (b : Bool). cond b ((48 + rest) ∷ []) (digits first (rest / 10) ++ ((48 + rest % 10) ∷ [])) ++ tail)
    (sym (le-ltb rest 10 h))

first_digit : (first rest : ℕ) (tail : List ℕ) → rest < 10 → (48 + rest) ∷ tail ≡ digits (suc first) rest ++ tail
unfolding digits
first_digit first rest tail h =
    ap (λ (b : Bool). cond b ((48 + rest) ∷ []) (digits first (rest / 10) ++ ((48 + rest % 10) ∷ [])) ++ tail)
    (sym (lt-ltb rest 10 h))

-- a rest of more than one digit needs more than one place
pub more_places : (places rest : ℕ) → rest < 10 ^ places → 10 ≤ rest → 1 < places
more_places zero rest l h = omega arith
more_places (suc zero) rest l h = omega arith
more_places (suc (suc k)) rest l h = omega arith

module _ {whole line : List ℕ} {places rest : ℕ} (w : Written whole line places rest) where
  next : suc (places - 1) ≡ places
  next = omega (arith, w.some)

  -- one digit more
  pub one_written : 10 ≤ rest → Written whole (set line (places - 1) (48 + rest % 10)) (places - 1) (rest / 10)
  one_written h =
      record {
        some = omega (arith, more_places places rest w.small h);
        below = omega (arith, w.below);
        small =
            (div-lt_iff_lt-mul {k = 10} {x = rest} {y = 10 ^ (places - 1)} (omega arith)).1 (rw (← pow-suc, next) w.small);
        long = length-set line (places - 1) (48 + rest % 10) ∙ w.long;
        whole_is =
            ap (λ (l : List ℕ). digits (places - 1) (rest / 10) ++ l)
            (drop_set line (places - 1) (48 + rest % 10) (omega (arith, w.some, w.below, w.long)))
            ∙ more_digits (places - 1) rest (drop (suc (places - 1)) line) h
            ∙ rw next w.whole_is;
      }

-- the first digit: what stands from there on is the whole (over plain values, so that a goal of the code finds it)
module _ (line : List ℕ) (places rest : ℕ) (some : 0 < places) (below : places ≤ 20) (long : length line ≡ 20) (h : rest < 10) where
  whole_line : drop (places - 1) (set line (places - 1) (48 + rest)) ≡ digits places rest ++ drop places line
  whole_line =
      drop_set line (places - 1) (48 + rest) (omega arith)
      ∙ first_digit (places - 1) rest (drop (suc (places - 1)) line) h
      ∙ rw next refl
    where
      next : suc (places - 1) ≡ places
      next = omega arith

  pub whole_length : 20 - (places - 1) ≡ length (digits places rest ++ drop places line)
  whole_length =
      ap (λ (n : ℕ). n - (places - 1)) (sym (length-set line (places - 1) (48 + rest) ∙ long))
      ∙ sym (length-drop (places - 1) (set line (places - 1) (48 + rest))) ∙ ap length whole_line

  pub all_written : take (20 - (places - 1)) (drop (places - 1) (set line (places - 1) (48 + rest))) ≡ digits places rest ++ drop places line
  all_written =
      ap (take (20 - (places - 1))) whole_line ∙ take_all (20 - (places - 1)) (digits places rest ++ drop places line) (omega (arith, whole_length))

-- how many digits there are
pub all_counted : {whole line : List ℕ} {places rest : ℕ} → Written whole line places rest → rest < 10 → Counted whole (20 - (places - 1))
all_counted {line = line} {places = places} {rest = rest} w h =
    record { right = whole_length line places rest w.some w.below w.long h ∙ ap length w.whole_is; few = omega arith }
