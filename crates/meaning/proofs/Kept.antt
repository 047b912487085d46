-- The program keeps at most 1,481 bytes of its input, which is enough: a longer input is no graph file, and its header says
-- which refusal it gets. Assumes nothing.
use Prim.Native.Nat.{ℕ, suc, ◌+◌, ◌≤◌, ◌<◌}
use native.Mathlib.Omega.{arith}
use mathlib.Core.Path.{◌≡◌, refl, sym, ◌∙◌, ap}
use mathlib.Core.Logic.{⊎_elim}
use mathlib.Core.Bool.{Bool, true, false, cond, not, ◌&&◌}
use mathlib.Core.List.{List, [], ◌++◌, append-nil, flat_map}
use lib.ListN.{length, take, drop}
use lib.Seq.{length-take-le, take_all, take-take, get_or-take}
use lib.Dec.{eqb}
use borrow.Author.Tests.{le-ltb, ne_eqb}
use Rattle.machine.specs.Refusals.{Line, Verdict, taken, refused, judge}
use Rattle.machine.specs.Machine.{Machine, remaining, state_count}
use Rattle.machine.specs.Tables.{schedule_rows}
use Rattle.machine.proofs.Truth.{of_false}
use Rattle.machine.proofs.Sets.{le-or-lt}
use Rattle.machine.proofs.Refusals.{otherwise, judge-append, placeless-first}
use Rattle.meaning.specs.Graph.{known, too_many, byte_at, little_endian, number_at, edition_of, operations_of, classes_of, controls_of, arcs_of, operations_start, controls_start, arcs_start, file_end, file_lines, content, content_lines}
use Rattle.meaning.specs.Steps.{machine_of}
use Rattle.meaning.specs.TableFile.{row_start, most_rows}
use Rattle.meaning.specs.Answers.{is_taken, graph_lines, schedule_lines}
use Rattle.meaning.specs.Listing.{first_line, row_line, printed}
use Rattle.meaning.proofs.Taken.{denies_counts, largest}

-- what lines 2, 3 and 4 ask
module _ (file : List ℕ) where
  unfoldable wrong_mark : Bool
  wrong_mark = not (eqb (byte_at file 0) 0x48 && eqb (byte_at file 1) 0x53 && known (edition_of file))

  unfoldable wrong_count : Bool
  wrong_count = too_many (edition_of file) (operations_of file) (classes_of file) (controls_of file) (arcs_of file)

  unfoldable wrong_offset : Bool
  wrong_offset =
      not (eqb (number_at file 8 2) 16 && eqb (number_at file 10 2) (operations_start file)
      && eqb (number_at file 12 2) (controls_start file) && eqb (number_at file 14 2) (arcs_start file))

  -- the verdict on a file that is longer than any graph file
  unfoldable head_verdict : Verdict
  head_verdict = cond wrong_mark (refused 2 0) (cond wrong_count (refused 3 0) (cond wrong_offset (refused 4 0) (refused 5 0)))

  -- counts within the maxima leave a file of 1,480 bytes at most
  end-within : wrong_count ≡ false → file_end file ≤ 1480
  unfolding wrong_count file_end arcs_start controls_start operations_start
  end-within e =
      let most = (denies_counts file).to (of_false e) in
      largest (edition_of file) (operations_of file) (classes_of file) (controls_of file) (arcs_of file)
      most.0.0.0 most.0.0.1 most.0.1 most.1

  module _ (long : 1480 < length file) where
    head_is : judge (file_lines file) ≡ head_verdict
    unfolding file_lines head_verdict wrong_mark wrong_count wrong_offset judge
    head_is =
        rw (placeless-first 1, placeless-first 2, placeless-first 3, placeless-first 4, placeless-first 5, le-ltb (length file) 16 (omega arith))
        (by wrong_mark wrong_count wrong_offset (not (eqb (length file) (file_end file))) (λ e. ap not (ne_eqb (length file) (file_end file) (λ d. omega (arith, end-within e)))))
      where
        by : (b c d f : Bool) → (c ≡ false → f ≡ true)
            → cond b (refused 2 0) (cond c (refused 3 0) (cond d (refused 4 0) (cond f (refused 5 0) taken)))
            ≡ cond b (refused 2 0) (cond c (refused 3 0) (cond d (refused 4 0) (refused 5 0)))
        by b true d f h = refl
        by b false d f h = rw (h refl) refl

    -- lines behind the header's do not count
    verdict_is : (ls ms : List Line) → judge (file_lines file ++ ls ++ ms) ≡ head_verdict
    unfolding head_verdict otherwise
    verdict_is ls ms =
        rw (judge-append (file_lines file ++ ls) ms, judge-append (file_lines file) ls, head_is)
        (by wrong_mark wrong_count wrong_offset (judge ls) (judge ms))
      where
        by : (b c d : Bool) (u v : Verdict) → let h = cond b (refused 2 0) (cond c (refused 3 0) (cond d (refused 4 0) (refused 5 0))) in
            otherwise (otherwise h u) v ≡ h
        by true c d u v = refl
        by false true d u v = refl
        by false false true u v = refl
        by false false false u v = refl

    printed_is : printed file ≡ first_line head_verdict 0 0 0
    unfolding printed graph_lines head_verdict first_line is_taken
    printed_is =
        rw (verdict_is (content_lines (content file)) (schedule_lines (content file) 4096 (row_start 1 (suc (most_rows 1)))))
        (by wrong_mark wrong_count wrong_offset (remaining M M.start) (length (schedule_rows M)) (state_count M) (flat_map (row_line (content file)) (schedule_rows M)))
      where
        M : Machine
        M = machine_of (content file)

        by : (b c d : Bool) (cycles rows states : ℕ) (lines : List ℕ)
            → let h = cond b (refused 2 0) (cond c (refused 3 0) (cond d (refused 4 0) (refused 5 0))) in
            first_line h cycles rows states ++ cond (is_taken h) lines [] ≡ first_line h 0 0 0
        by true c d cycles rows states lines = append-nil (first_line (refused 2 0) 0 0 0)
        by false true d cycles rows states lines = append-nil (first_line (refused 3 0) 0 0 0)
        by false false true cycles rows states lines = append-nil (first_line (refused 4 0) 0 0 0)
        by false false false cycles rows states lines = append-nil (first_line (refused 5 0) 0 0 0)

-- The first bytes of an input say its header.
module _ (input : List ℕ) where
  byte-kept : (i : ℕ) → i < 1481 → byte_at (take 1481 input) i ≡ byte_at input i
  unfolding byte_at
  byte-kept i h = get_or-take 1481 input i 0 h

  number-kept : (i : ℕ) → i + 2 ≤ 1481 → number_at (take 1481 input) i 2 ≡ number_at input i 2
  unfolding number_at
  number-kept i h = ap (λ (l : List ℕ). little_endian (drop i l)) (take-take (i + 2) 1481 input h)

  head_kept : head_verdict (take 1481 input) ≡ head_verdict input
  unfolding head_verdict wrong_mark wrong_count wrong_offset edition_of operations_of classes_of controls_of arcs_of operations_start controls_start arcs_start
  head_kept =
      rw (
        byte-kept 0 (omega arith),
        byte-kept 1 (omega arith),
        byte-kept 2 (omega arith),
        byte-kept 3 (omega arith),
        byte-kept 4 (omega arith),
        byte-kept 5 (omega arith),
        number-kept 6 (omega arith),
        number-kept 8 (omega arith),
        number-kept 10 (omega arith),
        number-kept 12 (omega arith),
        number-kept 14 (omega arith),
      ) refl

  -- What the program prints for the bytes that it keeps is what it prints for its whole input.
  pub kept-enough : printed (take 1481 input) ≡ printed input
  kept-enough =
      ⊎_elim (λ (h : length input ≤ 1481). ap printed (take_all 1481 input h))
      (λ (h : 1481 < length input).
      printed_is (take 1481 input) (omega (arith, length-take-le 1481 input (omega arith)))
      ∙ ap (λ (v : Verdict). first_line v 0 0 0) head_kept ∙ sym (printed_is input (omega arith)))
      (le-or-lt (length input) 1481)
