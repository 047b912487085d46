-- A table file that was written is read back: its length, its counts, its rows, its layout. Assumes nothing.
use Prim.Native.Nat.{ℕ, zero, suc, ◌+◌, ◌-◌, ◌*◌, ◌^◌, ◌≤◌, ◌<◌}
use native.Mathlib.Nat.{add-zero, mul-zero, mul-suc, mul-le-mul_left, not-suc-le-zero}
use native.Mathlib.Omega.{arith}
use mathlib.Core.Path.{◌≡◌, refl, sym, ◌∙◌, ap, ap₂}
use mathlib.Core.Bool.{Bool, true, false, not, ◌&&◌, ◌||◌}
use mathlib.Core.List.{List, [], ◌∷◌, ◌++◌, append_assoc, append-nil, Memᴰ}
use lib.ListN.{length, get_or, length-append}
use lib.Dec.{eqb, ltb, eqb→eq}
use borrow.Author.Tests.{le-ltb, eq-eqb}
use Rattle.machine.specs.Machine.{Machine, remaining}
use Rattle.machine.specs.Tables.{Row, order_line, sound_lines, schedule_rows}
use Rattle.machine.proofs.Truth.{not-or-right, not-not_elim}
use Rattle.machine.proofs.Refusals.{Passes, AllPass, and}
use Rattle.machine.proofs.Views.{order_view, lines_view}
use Rattle.machine.proofs.Rising.{table_of}
use Rattle.meaning.specs.Graph.{Graph, byte_at, little_endian, number_at}
use Rattle.meaning.specs.Steps.{machine_of}
use Rattle.meaning.specs.TableFile.{mask_bytes, row_bytes, most_rows, row_start, cycles_of, rows_of, layout_line, table_in, bytes_of, header_file, row_file, row_files, table_file, schedule_file}
use Rattle.meaning.specs.Answers.{table_lines}
use Rattle.meaning.proofs.Bytes.{AreBytes, empty, more, append-small, bytes_small, bytes_length, bytes_number, byte-at, byte-after, number-at, number-after}

-- no table has more rows than two bytes can count
most_small : (edition : ℕ) → most_rows edition < 256 ^ 2
unfolding most_rows
most_small edition = omega arith

-- past the last row
pub row-end : (edition n : ℕ) → row_start edition (suc n) ≡ 8 + row_bytes edition * n
unfolding row_start
row-end edition n = ap (λ (k : ℕ). 8 + row_bytes edition * k) (omega arith)

-- n rows end at 8 + 8n, in every edition so far
pub row_eights : (edition n : ℕ) → row_start edition (suc n) ≡ 8 + 8 * n
unfolding row_bytes mask_bytes
row_eights edition n = row-end edition n

-- before the first
pub row_first : (edition : ℕ) → row_start edition 1 ≡ 8
row_first edition = rw (row-end, mul-zero) refl

-- one row more
pub row_next : (edition n : ℕ) → row_start edition (suc (suc n)) ≡ row_start edition (suc n) + row_bytes edition
row_next edition n = rw (row-end, row-end, mul-suc) (omega arith)

-- more rows end no earlier
pub row_mono : (edition n m : ℕ) → n ≤ m → row_start edition (suc n) ≤ row_start edition (suc m)
row_mono edition n m h = rw (row-end edition n, row-end edition m) (omega (arith, mul-le-mul_left (row_bytes edition) h))

-- a file of the right layout is as long as its rows ask
pub layout_length : (edition : ℕ) (file : List ℕ) → Passes (layout_line edition file) → length file ≡ row_start edition (suc (rows_of file))
unfolding layout_line
layout_length edition file h =
    eqb→eq (length file) end (not-not_elim (eqb (length file) end) (not-or-right others (not (eqb (length file) end)) (h 0 (omega arith))))
  where
    end : ℕ
    end = row_start edition (suc (rows_of file))

    others : Bool
    others =
        ltb (length file) 8 || not (eqb (byte_at file 0) 0x48 && eqb (byte_at file 1) 0x54 && eqb (byte_at file 2) edition)
        || not (eqb (number_at file 6 2) 8) || ltb (most_rows edition) (rows_of file)

module _ (g : Graph) where
  -- the masks of a row have room in its bytes
  pub record Fits (r : Row (machine_of g)) : Type 0 where
    pub done : r.state.done < 256 ^ mask_bytes g.edition
    pub step : r.step < 256 ^ mask_bytes g.edition

  pub row-length : (r : Row (machine_of g)) → length (row_file g r) ≡ row_bytes g.edition
  unfolding row_file row_bytes
  row-length r = simp (length-append, bytes_length) (omega arith)

  pub rows-length : (rows : List (Row (machine_of g))) → length (row_files g rows) ≡ row_bytes g.edition * length rows
  unfolding row_files
  rows-length [] = sym (mul-zero (row_bytes g.edition))
  rows-length (r ∷ rs) = rw (length-append, row-length, rows-length rs, mul-suc) (omega arith)

  -- every byte of the rows is a byte, if the two that are written as they are given are
  rows-small : (rows : List (Row (machine_of g)))
      → ((r : Row (machine_of g)) → Memᴰ r rows → (r.cycle < 256) × (r.state.values < 256)) → AreBytes (row_files g rows)
  unfolding row_files row_file
  rows-small [] h = empty
  rows-small (r ∷ rs) h =
      let size = mask_bytes g.edition in
      append-small (append-small (more first.0 (more first.1 (bytes_small size r.state.done))) (bytes_small size r.step))
      (rows-small rs (λ s m. h s (Memᴰ.tail m)))
    where
      first : (r.cycle < 256) × (r.state.values < 256)
      first = h r (Memᴰ.head refl)

  -- the row that stands at a byte of a file
  abbrev row_at : List ℕ → ℕ → Row (machine_of g)
  row_at file at =
      record {
        cycle = byte_at file at;
        state = record { done = number_at file (at + 2) (mask_bytes g.edition); values = byte_at file (at + 1) };
        step = number_at file (at + 2 + mask_bytes g.edition) (mask_bytes g.edition);
      }

  row_read : (p q : List ℕ) (r : Row (machine_of g)) → Fits r → row_at (p ++ (row_file g r ++ q)) (length p) ≡ r
  unfolding row_file
  row_read p q r h = λ i.
      record {
        cycle = byte-at p (r.state.values ∷ (done ++ step ++ q)) r.cycle i;
        state = record { done = done-read i; values = values-read i };
        step = step-read i;
      }
    where
      size : ℕ
      size = mask_bytes g.edition

      done : List ℕ
      done = bytes_of size r.state.done

      step : List ℕ
      step = bytes_of size r.step

      values-read : byte_at (p ++ (row_file g r ++ q)) (length p + 1) ≡ r.state.values
      values-read = byte-after p (row_file g r ++ q) 1 ∙ byte-at (r.cycle ∷ []) (done ++ step ++ q) r.state.values

      -- a mask that stands behind the first two bytes and the masks `before` it
      mask-read : (before after : List ℕ) (x : ℕ) → x < 256 ^ size → done ++ step ++ q ≡ before ++ (bytes_of size x ++ after)
          → number_at (p ++ (row_file g r ++ q)) (length p + (2 + length before)) size ≡ x
      mask-read before after x small e =
          number-after p (row_file g r ++ q) (2 + length before) size
          ∙ ap₂ (λ (l : List ℕ) (k : ℕ). number_at (r.cycle ∷ r.state.values ∷ l) k size) e (omega arith)
          ∙ number-at (r.cycle ∷ r.state.values ∷ before) after size x small

      done-read : number_at (p ++ (row_file g r ++ q)) (length p + 2) size ≡ r.state.done
      done-read = mask-read [] (step ++ q) r.state.done h.done (append_assoc done step q)

      step-read : number_at (p ++ (row_file g r ++ q)) (length p + 2 + size) size ≡ r.step
      step-read =
          ap (λ (k : ℕ). number_at (p ++ (row_file g r ++ q)) k size) (omega (arith, bytes_length size r.state.done))
          ∙ mask-read done q r.step h.step (append_assoc done step q)

  -- every row of a list fits
  abbrev pub AllFit : List (Row (machine_of g)) → Type 0
  AllFit rows = (r : Row (machine_of g)) → Memᴰ r rows → Fits r

  rows_read : (p q : List ℕ) (rows : List (Row (machine_of g))) → AllFit rows → (i : ℕ) → i < length rows → (d : Row (machine_of g))
      → row_at (p ++ (row_files g rows ++ q)) (length p + row_bytes g.edition * i) ≡ get_or rows i d
  unfolding row_files
  rows_read p q [] fit i h d = absurd (not-suc-le-zero h)
  rows_read p q (r ∷ rs) fit zero h d =
      ap₂ (λ (l : List ℕ) (k : ℕ). row_at (p ++ l) k) (append_assoc (row_file g r) (row_files g rs) q)
      (ap (λ (k : ℕ). length p + k) (mul-zero (row_bytes g.edition)) ∙ add-zero (length p))
      ∙ row_read p (row_files g rs ++ q) r (fit r (Memᴰ.head refl))
  rows_read p q (r ∷ rs) fit (suc i) h d =
      ap₂ row_at (ap (λ (l : List ℕ). p ++ l) (append_assoc (row_file g r) (row_files g rs) q) ∙ sym (append_assoc p (row_file g r) (row_files g rs ++ q)))
      (rw (length-append, row-length, mul-suc) (omega arith))
      ∙ rows_read (p ++ row_file g r) q rs (λ s m. fit s (Memᴰ.tail m)) i (omega arith) d

  module _ (cycles : ℕ) (rows : List (Row (machine_of g))) where
    pub file-length : length (table_file g cycles rows) ≡ row_start g.edition (suc (length rows))
    unfolding table_file header_file bytes_of
    file-length = rw (row-end, rows-length) (omega arith)

    pub file-cycles : cycles_of (table_file g cycles rows) ≡ cycles
    unfolding cycles_of byte_at table_file header_file
    file-cycles = refl

    -- The counts and rows of a file that stands at the front of a buffer.
    pub file-rows : (q : List ℕ) → length rows < 256 ^ 2 → rows_of (table_file g cycles rows ++ q) ≡ length rows
    unfolding rows_of number_at table_file header_file bytes_of
    file-rows q h = bytes_number 2 (length rows) h

    pub file-row : (q : List ℕ) → AllFit rows → (p : ℕ) → 0 < p → p ≤ length rows → (d : Row (machine_of g))
        → (table_in g (table_file g cycles rows ++ q)).row p ≡ get_or rows (p - 1) d
    unfolding table_in row_start table_file header_file bytes_of
    file-row q fit p h k d =
        rows_read (header_file g.edition cycles (length rows)) q rows fit (p - 1) (omega arith) d

    whole_rows : length rows < 256 ^ 2 → rows_of (table_file g cycles rows) ≡ length rows
    whole_rows h = ap rows_of (sym (append-nil (table_file g cycles rows))) ∙ file-rows [] h

    pub file_layout : length rows ≤ most_rows g.edition → Passes (layout_line g.edition (table_file g cycles rows))
    unfolding layout_line byte_at number_at little_endian table_file header_file bytes_of
    file_layout h p k = rw (long, eq-eqb g.edition g.edition refl, few, whole) tt
      where
        file : List ℕ
        file = table_file g cycles rows

        counted : rows_of file ≡ length rows
        counted = whole_rows (omega (arith, most_small g.edition))

        long : ltb (length file) 8 ≡ false
        long = le-ltb (length file) 8 (rw (file-length, row-end) (omega arith))

        few : ltb (most_rows g.edition) (rows_of file) ≡ false
        few = le-ltb (most_rows g.edition) (rows_of file) (rw counted h)

        whole : eqb (length file) (row_start g.edition (suc (rows_of file))) ≡ true
        whole = eq-eqb (length file) (row_start g.edition (suc (rows_of file))) (rw counted file-length)

    -- The file of a table that passes 16 to 20 passes 15 to 20.
    pub file_passes : AllFit rows → length rows ≤ most_rows g.edition → Passes (order_line (machine_of g) (table_of (machine_of g) cycles rows))
        → AllPass (sound_lines (machine_of g) (table_of (machine_of g) cycles rows)) → AllPass (table_lines g (table_file g cycles rows))
    unfolding table_lines table_of table_in
    file_passes fit h order sound =
        and (file_layout h)
        (and (order_view M (table_of M cycles rows) (table_in g file) cycles-same rows_same row_same order)
        (lines_view M (table_of M cycles rows) (table_in g file) cycles-same rows_same row_same sound))
      where
        M : Machine
        M = machine_of g

        file : List ℕ
        file = table_file g cycles rows

        cycles-same : cycles ≡ cycles_of file
        cycles-same = sym file-cycles

        rows_same : length rows ≡ rows_of file
        rows_same = sym (whole_rows (omega (arith, most_small g.edition)))

        row_same : (p : ℕ) → 0 < p → p ≤ length rows → (table_of M cycles rows).row p ≡ (table_in g file).row p
        row_same p k l =
            sym (file-row [] fit p k l (record { cycle = 0; state = M.start; step = 0 }))
            ∙ ap (λ (t : List ℕ). (table_in g t).row p) (append-nil file)

    pub file-small : g.edition < 256 → cycles < 256
        → ((r : Row (machine_of g)) → Memᴰ r rows → (r.cycle < 256) × (r.state.values < 256)) → AreBytes (table_file g cycles rows)
    unfolding table_file header_file
    file-small edition few h =
        append-small
        (append-small (more (omega arith) (more (omega arith) (more edition (more few (bytes_small 2 (length rows)))))) (bytes_small 2 8))
        (rows-small rows h)

  -- the schedule's file is as long as its rows ask
  pub schedule-length : length (schedule_file g) ≡ row_start g.edition (suc (length (schedule_rows (machine_of g))))
  unfolding schedule_file
  schedule-length = file-length (remaining (machine_of g) (machine_of g).start) (schedule_rows (machine_of g))

  -- which is 8 + 8r bytes for r rows
  pub schedule_eights : length (schedule_file g) ≡ 8 + 8 * length (schedule_rows (machine_of g))
  schedule_eights = schedule-length ∙ row_eights g.edition (length (schedule_rows (machine_of g)))
