-- The writer of graph files: what passing 2, 3 and 5 means, the file and its content in both directions, and the verdicts of
-- writer and reader side by side. Assumes nothing.
use Prim.Native.Nat.{ℕ, suc, ◌+◌, ◌*◌, ◌/◌, ◌%◌, ◌≤◌, ◌<◌}
use native.Mathlib.Nat.{mod-add-div}
use native.Mathlib.Omega.{arith}
use mathlib.Core.Path.{◌≡◌, refl, sym, ◌∙◌, ap}
use mathlib.Core.Logic.Iff
use mathlib.Core.Logic.{◌↔◌}
use mathlib.Core.Bool.{Bool, false, cond, not}
use mathlib.Core.List.{List, [], ◌∷◌, ◌++◌, append_assoc, append-nil}
use lib.ListN.{length, take, drop, length-append}
use lib.Seq.{slice, slice-cons, take-length}
use lib.Dec.{T, eqb, ltb, eqb→eq, lit<}
use Rattle.machine.specs.Refusals.{placeless, taken, refused, judge}
use Rattle.machine.proofs.Says.{Says, Denies, says_eqb, says_test, says_and, says_ltb, denies_test, denies_not, denies_or, denies_eqb, denies_ltb}
use Rattle.machine.proofs.Refusals.{AllPass, none, and, passes_judge, judge-taken, judge-refused, judge-append, judge-after, numbered, taken-past, refused-past, refused-before, otherwise, placeless_pass, placeless_here, placeless-first}
use Rattle.meaning.specs.Graph.{Graph, known, too_many, operation_bytes, arc_bytes, byte_at, little_endian, number_at, edition_of, operations_of, classes_of, controls_of, arcs_of, operations_start, controls_start, arcs_start, file_end, content, operation_count, class_count, control_count, arc_count, content_lines}
use Rattle.meaning.specs.TableFile.{bytes_of}
use Rattle.meaning.specs.Answers.{is_taken, graph_verdict, graph_lines, reading, reader}
use Rattle.meaning.specs.Writer.{torn, graph_header, graph_file, list_lines, write_lines, write_verdict, writing, writer, output_after}
use Rattle.meaning.proofs.Bytes.{AreBytes, more, append-small, bytes_small, bytes_number, bytes_at, slice_at, parts_meet}
use Rattle.meaning.proofs.Taken.{Taken, taken_of, of_taken, denies_many, largest, Filed, of_filed, Within, counts-small, few-arcs, class-count, operations-length, operation-count, control-count, arcs-length, arc-count, within, graph-taken_exactly}

-- Refusals 2, 3 and 5, in order.
pub record Listed (g : Graph) : Type 0 where
  -- 2
  pub edition-known : T (known g.edition)
  -- 3
  pub within : Within g
  -- 5
  pub operations_whole : length g.operations ≡ operation_bytes g.edition * operation_count g
  pub arcs_whole : length g.arcs ≡ arc_bytes * arc_count g

-- a length is of whole records exactly when it is the records' bytes
says_whole : (n size : ℕ) → Says (eqb (n % size) 0) (n ≡ size * (n / size))
says_whole n size =
    record {
      to = λ t. let e = eqb→eq (n % size) 0 t in omega (arith, mod-add-div n size);
      from = λ e. (says_eqb (n % size) 0).from (omega (arith, mod-add-div n size));
    }

-- Each line's fault, read as the facts that it denies.
module _ (g : Graph) where
  denies_torn : Denies (torn g.edition g.operations g.arcs)
      ((length g.operations ≡ operation_bytes g.edition * operation_count g) × (length g.arcs ≡ arc_bytes * arc_count g))
  unfolding torn operation_count arc_count
  denies_torn =
      denies_not (says_and (says_whole (length g.operations) (operation_bytes g.edition)) (says_whole (length g.arcs) arc_bytes))

  denies_much : Denies (too_many g.edition (operation_count g) (class_count g) (control_count g) (arc_count g)) (Within g)
  denies_much =
      let r = denies_many g.edition (operation_count g) (class_count g) (control_count g) (arc_count g) in
      record {
        to = λ t. let p = r.to t in record { operations = p.0.0.0; classes = p.0.0.1; controls = p.0.1; arcs = p.1 };
        from = λ w. r.from (((w.operations, w.classes), w.controls), w.arcs);
      }

  listed_of : AllPass (list_lines g) → Listed g
  unfolding list_lines
  listed_of (and edition (and counts (and whole none))) =
      let torn = denies_torn.to (whole 0 (lit< tt)) in
      record {
        edition-known = (denies_not (says_test (known g.edition))).to (edition 0 (lit< tt));
        within = denies_much.to (counts 0 (lit< tt));
        operations_whole = torn.0;
        arcs_whole = torn.1;
      }

  of_listed : Listed g → AllPass (list_lines g)
  unfolding list_lines
  of_listed l =
      and (λ p h. (denies_not (says_test (known g.edition))).from l.edition-known)
      (and (λ p h. denies_much.from l.within)
      (and (λ p h. denies_torn.from (l.operations_whole, l.arcs_whole))
      none))

  -- Content passes 2, 3 and 5 exactly when these facts hold.
  pub listed_exactly : (judge (list_lines g) ≡ taken) ↔ Listed g
  listed_exactly = Iff.trans (judge-taken (list_lines g)) (listed_of, of_listed)

  -- It passes 2, 3 and 5 to 11 exactly when what they ask holds.
  content_exactly : (judge (list_lines g ++ content_lines g) ≡ taken) ↔ (Listed g × Taken g)
  content_exactly = Iff.trans (taken-past (list_lines g) (content_lines g)) (Iff.and listed_exactly (taken_of g, of_taken g))

  -- The file is as long as the header and the parts.
  pub file-length : length (graph_file g)
      ≡ 16 + length g.limits + length g.operations + length g.controls + length g.arcs
  unfolding graph_file graph_header bytes_of
  file-length = simp length-append (omega arith)

-- a known edition is a byte
known-byte : (edition : ℕ) → T (known edition) → edition < 256
unfolding known
known-byte edition t = omega (arith, eqb→eq edition 1 t)

-- The file of content that passes 2, 3 and 5.
module _ {g : Graph} (l : Listed g) where
  -- It has 1,480 bytes at most.
  pub file-largest : length (graph_file g) ≤ 1480
  unfolding class_count control_count
  file-largest =
      rw (file-length g, l.operations_whole, l.arcs_whole)
      (largest g.edition (operation_count g) (class_count g) (control_count g) (arc_count g)
      l.within.operations l.within.classes l.within.controls l.within.arcs)

  -- what the reader finds in the header, and where it expects the parts
  arcs_read : arcs_of (graph_file g) ≡ arc_count g
  unfolding arcs_of number_at graph_file graph_header bytes_of
  arcs_read = bytes_number 2 (arc_count g) (omega (arith, few-arcs l.within))

  operations-start : operations_start (graph_file g) ≡ 16 + length g.limits
  unfolding operations_start classes_of class_count byte_at graph_file graph_header
  operations-start = refl

  controls-start : controls_start (graph_file g) ≡ 16 + length g.limits + length g.operations
  unfolding controls_start operations_of edition_of byte_at graph_file graph_header
  controls-start = rw (operations-start, l.operations_whole) refl

  arcs-start : arcs_start (graph_file g) ≡ 16 + length g.limits + length g.operations + length g.controls
  unfolding arcs_start controls_of control_count byte_at graph_file graph_header
  arcs-start = rw controls-start refl

  file-end : file_end (graph_file g) ≡ length (graph_file g)
  unfolding file_end
  file-end = rw (arcs-start, arcs_read, file-length g, l.arcs_whole) refl

  -- It passes the reader's 1 to 5.
  pub file_filed : Filed (graph_file g)
  unfolding byte_at number_at little_endian edition_of operations_of classes_of controls_of graph_file graph_header bytes_of
  file_filed =
      record {
        long = rw (file-length g) (omega arith);
        mark_first = refl;
        mark_second = refl;
        edition-known = l.edition-known;
        operations_most = l.within.operations;
        classes_most = l.within.classes;
        controls_most = l.within.controls;
        arcs_most = rw arcs_read l.within.arcs;
        limits_offset = refl;
        operations_offset = fits (16 + length g.limits) (omega (arith, file-length g)) ∙ sym operations-start;
        controls_offset = fits (16 + length g.limits + length g.operations) (omega (arith, file-length g)) ∙ sym controls-start;
        arcs_offset = fits (16 + length g.limits + length g.operations + length g.controls) (omega (arith, file-length g)) ∙ sym arcs-start;
        length-right = sym file-end;
      }
    where
      -- an offset is within the file, so two bytes hold it
      fits : (at : ℕ) → at ≤ length (graph_file g) → little_endian (bytes_of 2 at) ≡ at
      fits at h = bytes_number 2 at (omega (arith, file-largest))

  -- Reading it gives the content.
  pub file-content : content (graph_file g) ≡ g
  unfolding content edition_of byte_at graph_file graph_header bytes_of
  file-content = λ i.
      record { edition = g.edition; limits = limits i; operations = operations i; controls = controls i; arcs = arcs i }
    where
      file : List ℕ
      file = graph_file g

      -- a part stands where those before it end
      found : (from to : ℕ) (before part after : List ℕ) → file ≡ before ++ part ++ after → from ≡ length before
          → to ≡ length before + length part → slice from to file ≡ part
      found from to before part after e d f = ap (slice from to) e ∙ slice_at before part after from to (sym d) (rw d (sym f))

      limits : slice 16 (operations_start file) file ≡ g.limits
      limits =
          found 16 (operations_start file) (graph_header g) g.limits (g.operations ++ (g.controls ++ g.arcs)) (simp append_assoc) refl
          operations-start

      operations : slice (operations_start file) (controls_start file) file ≡ g.operations
      operations =
          found (operations_start file) (controls_start file) (graph_header g ++ g.limits) g.operations (g.controls ++ g.arcs)
          (simp append_assoc) (omega (arith, operations-start)) (omega (arith, controls-start))

      controls : slice (controls_start file) (arcs_start file) file ≡ g.controls
      controls =
          found (controls_start file) (arcs_start file) (graph_header g ++ g.limits ++ g.operations) g.controls g.arcs refl
          (simp length-append (omega (arith, controls-start))) (simp length-append (omega (arith, arcs-start)))

      arcs : slice (arcs_start file) (file_end file) file ≡ g.arcs
      arcs =
          found (arcs_start file) (file_end file) (graph_header g ++ g.limits ++ g.operations ++ g.controls) g.arcs []
          (sym (append-nil file)) (simp length-append (omega (arith, arcs-start)))
          (simp length-append (omega (arith, file-end, file-length g)))

  -- It is of bytes if its parts are.
  pub file_bytes : AreBytes g.limits → AreBytes g.operations → AreBytes g.controls → AreBytes g.arcs → AreBytes (graph_file g)
  unfolding graph_file graph_header
  file_bytes limits operations controls arcs =
      append-small (append-small (append-small (append-small header limits) operations) controls) arcs
    where
      counts : AreBytes (0x48 ∷ 0x53 ∷ g.edition ∷ operation_count g ∷ class_count g ∷ control_count g ∷ bytes_of 2 (arc_count g))
      counts =
          let edition = known-byte g.edition l.edition-known in
          let small = counts-small l.within in
          more (lit< tt) (more (lit< tt) (more edition (more small.0 (more small.1 (more small.2 (bytes_small 2 (arc_count g)))))))

      header : AreBytes (graph_header g)
      header =
          append-small (append-small (append-small (append-small counts (bytes_small 2 16))
          (bytes_small 2 (16 + length g.limits))) (bytes_small 2 (16 + length g.limits + length g.operations)))
          (bytes_small 2 (16 + length g.limits + length g.operations + length g.controls))

  -- The reader's verdict on it is that on the content.
  pub file-verdict : graph_verdict (graph_file g) ≡ judge (content_lines g)
  unfolding graph_verdict graph_lines
  file-verdict =
      judge-after (of_filed (graph_file g) file_filed) (content_lines (content (graph_file g)))
      ∙ ap (λ (h : Graph). judge (content_lines h)) file-content

  -- The reader takes the file of content that passes 6 to 11 too, with the content's counts.
  pub file-reading : Taken g → reader (graph_file g)
      ≡ record { verdict = taken; operations = operation_count g; classes = class_count g; controls = control_count g; arcs = arc_count g }
  unfolding reader reading operations_of classes_of controls_of byte_at graph_file graph_header
  file-reading t = rw (file-verdict ∙ passes_judge (of_taken g t), arcs_read) refl

-- The content of a file that passes 1 to 5.
module _ {file : List ℕ} (f : Filed file) where
  -- It passes 2, 3 and 5.
  pub content-listed : Listed (content file)
  unfolding content
  content-listed =
      record {
        edition-known = f.edition-known;
        within = within file f;
        operations_whole = rw (operation-count file f) (operations-length file f);
        arcs_whole = rw (arc-count file f) (arcs-length file f);
      }

  -- where the content's parts end, as the header of the file has it
  limits-end : 16 + length (content file).limits ≡ number_at file 10 2
  unfolding class_count operations_start
  limits-end = omega (arith, class-count file f, f.operations_offset)

  operations-end : 16 + length (content file).limits + length (content file).operations ≡ number_at file 12 2
  unfolding controls_start
  operations-end = omega (arith, limits-end, f.operations_offset, operations-length file f, f.controls_offset)

  controls-end : 16 + length (content file).limits + length (content file).operations + length (content file).controls ≡ number_at file 14 2
  unfolding control_count arcs_start
  controls-end = omega (arith, operations-end, f.controls_offset, control-count file f, f.arcs_offset)

  module _ (bytes : AreBytes file) where
    -- the first sixteen bytes, byte by byte and number by number
    first_bytes : byte_at file 0 ∷ byte_at file 1 ∷ byte_at file 2 ∷ byte_at file 3 ∷ byte_at file 4 ∷ byte_at file 5 ∷ bytes_of 2 (number_at file 6 2)
        ++ bytes_of 2 (number_at file 8 2) ++ bytes_of 2 (number_at file 10 2) ++ bytes_of 2 (number_at file 12 2) ++ bytes_of 2 (number_at file 14 2)
        ≡ take 16 file
    unfolding byte_at
    first_bytes =
        (λ i. counts i ++ number 8 (omega arith) i ++ number 10 (omega arith) i ++ number 12 (omega arith) i ++ number 14 (omega arith) i)
        ∙ rw (parts_meet 8 10 file (omega arith), parts_meet 10 12 file (omega arith), parts_meet 12 14 file (omega arith))
        (parts_meet 14 16 file (omega arith))
      where
        byte : (i : ℕ) → i < 8 → slice i 8 file ≡ byte_at file i ∷ slice (suc i) 8 file
        byte i h = slice-cons i 8 file 0 h (omega (arith, f.long))

        number : (at : ℕ) → at + 2 ≤ 16 → bytes_of 2 (number_at file at 2) ≡ slice at (at + 2) file
        number at h = bytes_at bytes at 2 (omega (arith, f.long))

        counts : byte_at file 0 ∷ byte_at file 1 ∷ byte_at file 2 ∷ byte_at file 3 ∷ byte_at file 4 ∷ byte_at file 5 ∷ bytes_of 2 (number_at file 6 2)
            ≡ take 8 file
        counts =
            rw (
              number 6 (omega arith),
              ← byte 5 (omega arith),
              ← byte 4 (omega arith),
              ← byte 3 (omega arith),
              ← byte 2 (omega arith),
              ← byte 1 (omega arith),
            ) (sym (byte 0 (omega arith)))

    -- they are the header of the content
    header-file : graph_header (content file) ≡ take 16 file
    unfolding graph_header content edition_of operations_of classes_of controls_of arcs_of
    header-file =
        (λ i.
        sym f.mark_first i ∷ sym f.mark_second i ∷ edition_of file ∷ operation-count file f i ∷ class-count file f i
        ∷ control-count file f i ∷ bytes_of 2 (arc-count file f i) ++ bytes_of 2 (sym f.limits_offset i)
        ++ bytes_of 2 (limits-end i) ++ bytes_of 2 (operations-end i) ++ bytes_of 2 (controls-end i))
        ∙ first_bytes

    -- Writing it gives the file.
    pub content-file : graph_file (content file) ≡ file
    unfolding graph_file content operations_start controls_start arcs_start file_end
    content-file =
        rw (
          header-file,
          parts_meet 16 (operations_start file) file (omega arith),
          parts_meet (operations_start file) (controls_start file) file (omega arith),
          parts_meet (controls_start file) (arcs_start file) file (omega arith),
          parts_meet (arcs_start file) (file_end file) file (omega arith),
          ← f.length-right,
        ) (take-length file)

-- It is the one file of its content: no other file of bytes that passes 1 to 5 holds the same.
pub one-file : {file other : List ℕ} → Filed file → AreBytes file → Filed other → AreBytes other → content file ≡ content other → file ≡ other
one-file f bytes h others e = sym (content-file f bytes) ∙ ap graph_file e ∙ content-file h others

-- The writer's verdict, refusal by refusal.
module _ (g : Graph) (output : List ℕ) where
  -- what 14 asks
  abbrev short : Bool
  short = ltb (length output) (length (graph_file g))

  -- It is that of 2, 3 and 5 to 11, else that of 14.
  pub written-verdict : write_verdict g output ≡ otherwise (judge (list_lines g ++ content_lines g)) (cond short (refused 14 0) taken)
  unfolding write_verdict write_lines judge
  written-verdict =
      judge-append (list_lines g ++ content_lines g) (placeless 14 short ∷ [])
      ∙ ap (otherwise (judge (list_lines g ++ content_lines g))) (placeless-first 14 short [])

  -- Content is written exactly when it passes 2, 3 and 5 to 11 and the output has room.
  pub written_exactly : (write_verdict g output ≡ taken) ↔ ((Listed g × Taken g) × (length (graph_file g) ≤ length output))
  unfolding write_verdict write_lines
  written_exactly =
      Iff.trans (taken-past (list_lines g ++ content_lines g) (placeless 14 short ∷ []))
      (Iff.and (content_exactly g)
      (Iff.trans (placeless_pass 14 [] (denies_ltb (length output) (length (graph_file g)))) (λ p. p.0, λ h. (h, none))))

  -- 14 is given exactly when it passes 2, 3 and 5 to 11 and the output is too short.
  pub fourteen_exactly : (write_verdict g output ≡ refused 14 0) ↔ ((Listed g × Taken g) × (length output < length (graph_file g)))
  unfolding write_verdict write_lines list_lines content_lines numbered
  fourteen_exactly =
      Iff.trans (refused-past 14 0 (list_lines g ++ content_lines g) (placeless 14 short ∷ []) tt)
      (Iff.and (content_exactly g) (placeless_here 14 [] tt (says_ltb (length output) (length (graph_file g)))))

  -- What was written is accepted, and reading it gives the content.
  pub written_read : write_verdict g output ≡ taken → (graph_verdict (graph_file g) ≡ taken) × (content (graph_file g) ≡ g)
  written_read e =
      let p = (written_exactly.0 e).0 in
      (file-verdict p.0 ∙ passes_judge (of_taken g p.1), file-content p.0)

  -- After success the output is the file and then what stood there; after a refusal it is as it was.
  pub output-written : write_verdict g output ≡ taken → output_after g output ≡ graph_file g ++ drop (length (graph_file g)) output
  unfolding output_after is_taken
  output-written e = rw e refl

  pub output-kept : (k p : ℕ) → write_verdict g output ≡ refused k p → output_after g output ≡ output
  unfolding output_after is_taken
  output-kept k p e = rw e refl

  -- The numbers 6 to 11.
  module _ (k p : ℕ) (low : 6 ≤ k) (high : k ≤ 11) where
    -- they are not among 2, 3 and 5
    past_lists : T (not (numbered k (list_lines g)))
    unfolding list_lines numbered
    past_lists =
        (denies_or (denies_eqb 2 k) (denies_or (denies_eqb 3 k) (denies_or (denies_eqb 5 k) (denies_test false)))).from
        (λ e. omega arith, (λ e. omega arith, (λ e. omega arith, tt)))

    -- nor 14
    before-room : T (not (numbered k (placeless 14 short ∷ [])))
    unfolding numbered
    before-room = (denies_or (denies_eqb 14 k) (denies_test false)).from (λ e. omega arith, tt)

    content-refused : (write_verdict g output ≡ refused k p) ↔ (Listed g × (judge (content_lines g) ≡ refused k p))
    unfolding write_verdict write_lines
    content-refused =
        Iff.trans (refused-before k p (list_lines g ++ content_lines g) (placeless 14 short ∷ []) before-room)
        (Iff.trans (refused-past k p (list_lines g) (content_lines g) past_lists)
        (Iff.and (listed_exactly g) (Iff.symm (judge-refused (content_lines g) k p))))

    -- The writer refuses content by 6 to 11 exactly as the reader refuses the file of that content.
    pub refused_alike : (write_verdict g output ≡ refused k p) ↔ (Listed g × (graph_verdict (graph_file g) ≡ refused k p))
    refused_alike =
        Iff.trans content-refused (λ h. (h.0, file-verdict h.0 ∙ h.1), λ h. (h.0, sym (file-verdict h.0) ∙ h.1))

-- A file that was read, as the writer sees it.
module _ {file : List ℕ} (bytes : AreBytes file) (output : List ℕ) where
  -- One that passes 1 to 5 is refused by 6 to 11 exactly as its content is by the writer.
  pub file-refused_alike : Filed file → (k p : ℕ) → 6 ≤ k → k ≤ 11
      → (graph_verdict file ≡ refused k p) ↔ (write_verdict (content file) output ≡ refused k p)
  file-refused_alike f k p low high =
      let r = refused_alike (content file) output k p low high in
      (λ e. r.1 (content-listed f, ap graph_verdict (content-file f bytes) ∙ e), λ e. sym (ap graph_verdict (content-file f bytes)) ∙ (r.0 e).1)

  -- One that is accepted is written again, byte by byte, where there is room.
  module _ (accepted : graph_verdict file ≡ taken) (room : length file ≤ length output) where
    same-file : graph_file (content file) ≡ file
    same-file = content-file ((graph-taken_exactly file).0 accepted).0 bytes

    pub read_written : write_verdict (content file) output ≡ taken
    read_written =
        let p = (graph-taken_exactly file).0 accepted in
        (written_exactly (content file) output).1 ((content-listed p.0, p.1), rw same-file room)

    pub read_output : output_after (content file) output ≡ file ++ drop (length file) output
    read_output = output-written (content file) output read_written ∙ rw same-file refl

    pub read_writer : writer (content file) output ≡ record { verdict = taken; length = length file }
    unfolding writer writing
    read_writer = rw (read_written, same-file) refl
