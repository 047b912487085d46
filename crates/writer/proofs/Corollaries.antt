-- What the writer's promise says: one outcome for each input; each refusal, and a success, exactly when; what was written is read
-- again, what was read is written again, and content is refused as the file of it is. Assumes nothing.
use Prim.Native.Nat.{ℕ, ◌≤◌, ◌<◌}
use mathlib.Core.Path.{◌≡◌, refl, sym, ◌∙◌, ap}
use mathlib.Core.Logic.Iff
use mathlib.Core.Logic.{◌↔◌}
use mathlib.Core.List.{List, ◌++◌}
use lib.ListN.{length, take, drop}
use lib.Seq.{take_at, drop_at}
use Rattle.std.specs.Prelude.{Result, Ok, Err}
use Rattle.machine.specs.Refusals.{Verdict, taken, refused}
use Rattle.machine.proofs.Refusals.{Given, judge-refused}
use Rattle.meaning.specs.Graph.{Graph, content, operation_count, class_count, control_count, arc_count}
use Rattle.meaning.specs.Answers.{graph_lines, graph_verdict, reader}
use Rattle.meaning.specs.Writer.{graph_file, write_lines, Writing, writing, write_verdict, writer}
use Rattle.meaning.proofs.Bytes.{AreBytes}
use Rattle.meaning.proofs.Taken.{Taken}
use Rattle.meaning.proofs.Writer as laws
use Rattle.meaning.proofs.Writer.{Listed, file-largest, file-reading, written_exactly, written_read, output-written, output-kept, read_writer, read_output}
use Rattle.parts.specs.declared.Counts.{Counts}
use Rattle.refusals.specs.declared.Fault.{Fault}
use Rattle.refusals.specs.declared.Refusal.TheVariants.{Room}
use Rattle.refusals.specs.Faults.{number_of, fault_verdict, verdict_of}
use Rattle.refusals.proofs.Unique.{fault_of, fault_back, faulted_exactly}
use Rattle.reader.specs.Reading.{values_of as reading_of}
use Rattle.reader.proofs.Unique.{one_read}
use Rattle.reader.proofs.Corollaries as read
use Rattle.writer.specs.Promise.{values_of, Promised}

-- the answer that has the values
answer_of : Verdict → Writing → Result ℕ Fault
answer_of taken v = Ok v.length
answer_of (refused k p) v = Err (fault_of (refused k p))

answer_back : (r : Result ℕ Fault) → answer_of (values_of r).verdict (values_of r) ≡ r
unfolding answer_of values_of fault_verdict
answer_back (Err f) = ap (λ (g : Fault). Err g) (fault_back f)
answer_back (Ok n) = refl

-- Two outcomes that the promise allows are equal.
pub one_outcome : (g : Graph) (before : List ℕ) (r q : Result ℕ Fault) (after other : List ℕ) → Promised g before r after
    → Promised g before q other → (r ≡ q) × (after ≡ other)
one_outcome g before r q after other a b = (
  sym (answer_back r) ∙ ap (λ (v : Writing). answer_of v.verdict v) (a.answers ∙ sym b.answers) ∙ answer_back q,
  a.writes ∙ sym b.writes,
)

writing-verdict : (v : Verdict) (n : ℕ) → (writing v n).verdict ≡ v
unfolding writing
writing-verdict taken n = refl
writing-verdict (refused k p) n = refl

-- What a call has answered.
module _ (g : Graph) (before : List ℕ) (r : Result ℕ Fault) (after : List ℕ) (p : Promised g before r after) where
  -- the answer's verdict is the writer's
  verdict_is : verdict_of r ≡ write_verdict g before
  unfolding writer verdict_of values_of
  verdict_is =
      by r ∙ ap (λ (v : Writing). v.verdict) p.answers ∙ writing-verdict (write_verdict g before) (length (graph_file g))
    where
      by : (s : Result ℕ Fault) → verdict_of s ≡ (values_of s).verdict
      by (Ok n) = refl
      by (Err f) = refl

  refusal_is : (k q : ℕ) → (verdict_of r ≡ refused k q) ↔ (write_verdict g before ≡ refused k q)
  refusal_is k q = (λ e. sym verdict_is ∙ e, λ v. verdict_is ∙ v)

  done-taken : (n : ℕ) → r ≡ Ok n → write_verdict g before ≡ taken
  unfolding verdict_of
  done-taken n e = sym verdict_is ∙ ap verdict_of e

  taken-done : write_verdict g before ≡ taken → r ≡ Ok (length (graph_file g))
  unfolding values_of answer_of writer writing
  taken-done v =
      sym (answer_back r) ∙ ap (λ (a : Writing). answer_of a.verdict a) p.answers
      ∙ ap (λ (w : Verdict). let a = writing w (length (graph_file g)) in answer_of a.verdict a) v

  -- A refusal is given exactly by the refusal table: its line is at fault at that place first, and no earlier line anywhere.
  pub refuses_exactly : (k q : ℕ) → (verdict_of r ≡ refused k q) ↔ Given k q (write_lines g (length before))
  unfolding write_verdict
  refuses_exactly k q = Iff.trans (refusal_is k q) (judge-refused (write_lines g (length before)) k q)

  -- So is each fault, by its number and place.
  pub faults_exactly : (f : Fault) → (r ≡ Err f) ↔ Given (number_of f.refusal) f.place (write_lines g (length before))
  unfolding write_verdict
  faults_exactly f = faulted_exactly r (write_lines g (length before)) verdict_is f

  fault_is : (f : Fault) → (r ≡ Err f) ↔ (write_verdict g before ≡ refused (number_of f.refusal) f.place)
  unfolding write_verdict
  fault_is f =
      Iff.trans (faults_exactly f) (Iff.symm (judge-refused (write_lines g (length before)) (number_of f.refusal) f.place))

  -- The file's length is answered exactly when the content passes 2, 3 and 5 to 11 and the output has room for the file.
  pub writes_exactly : (r ≡ Ok (length (graph_file g))) ↔ ((Listed g × Taken g) × (length (graph_file g) ≤ length before))
  writes_exactly = Iff.trans (done-taken (length (graph_file g)), taken-done) (written_exactly g before)

  -- 14 is given exactly when the content passes them and the output is shorter than the file.
  pub fourteen_exactly : let room : Fault = record { refusal = Room; place = 0 } in
      (r ≡ Err room) ↔ ((Listed g × Taken g) × (length before < length (graph_file g)))
  unfolding number_of
  fourteen_exactly = Iff.trans (fault_is (record { refusal = Room; place = 0 })) (laws.fourteen_exactly g before)

  -- 6 to 11 are given exactly as the reader gives them for the file of the content.
  pub refused_alike : (k q : ℕ) → 6 ≤ k → k ≤ 11 → (verdict_of r ≡ refused k q) ↔ (Listed g × (graph_verdict (graph_file g) ≡ refused k q))
  refused_alike k q low high = Iff.trans (refusal_is k q) (laws.refused_alike g before k q low high)

  -- So the writer's code answers them exactly as the reader's code does for that file.
  pub refused_as_read : (q : Result Counts Fault) → reading_of q ≡ reader (graph_file g) → (f : Fault) → 6 ≤ number_of f.refusal
      → number_of f.refusal ≤ 11 → (r ≡ Err f) ↔ (Listed g × (q ≡ Err f))
  unfolding graph_verdict
  refused_as_read q h f low high =
      let k = number_of f.refusal in
      Iff.trans (Iff.trans (fault_is f) (laws.refused_alike g before k f.place low high))
      (Iff.and Iff.rfl
      (Iff.trans (judge-refused (graph_lines (graph_file g)) k f.place) (Iff.symm (read.faults_exactly (graph_file g) q h f))))

  -- After a refusal the output is as it was.
  pub output_unchanged : (f : Fault) → r ≡ Err f → after ≡ before
  output_unchanged f e = p.writes ∙ output-kept g before (number_of f.refusal) f.place ((fault_is f).0 e)

  -- After a success of length n:
  module _ (n : ℕ) (e : r ≡ Ok n) where
    -- the length is that of the file
    pub done-length : n ≡ length (graph_file g)
    done-length = ap length_of (sym e ∙ taken-done (done-taken n e))
      where
        length_of : Result ℕ Fault → ℕ
        length_of (Ok m) = m
        length_of (Err f) = 0

    after_is : after ≡ graph_file g ++ drop (length (graph_file g)) before
    after_is = p.writes ∙ output-written g before (done-taken n e)

    -- the first n bytes are the file, and the bytes past it are as they were
    pub file-written : take n after ≡ graph_file g
    file-written = ap (take n) after_is ∙ take_at (graph_file g) (drop (length (graph_file g)) before) n (sym done-length)

    pub past_unchanged : drop n after ≡ drop n before
    past_unchanged =
        ap (drop n) after_is ∙ drop_at (graph_file g) (drop (length (graph_file g)) before) n (sym done-length)
        ∙ ap (λ (m : ℕ). drop m before) (sym done-length)

    -- the file is taken, and reading it gives the content
    pub read_back : (graph_verdict (take n after) ≡ taken) × (content (take n after) ≡ g)
    read_back = rw file-written (written_read g before (done-taken n e))

    -- the reader's code takes it with the content's counts
    pub counts_back : (q : Result Counts Fault) → reading_of q ≡ reader (take n after)
        → q ≡ Ok (record { operations = operation_count g; classes = class_count g; controls = control_count g; arcs = arc_count g })
    unfolding reading_of
    counts_back q h =
        let c = ((written_exactly g before).0 (done-taken n e)).0 in
        one_read (reader (take n after)) q _ h (sym (ap reader file-written ∙ file-reading c.0 c.1))

    -- it has no more bytes than the largest file
    pub done-largest : n ≤ 1480
    done-largest = rw done-length (file-largest ((written_exactly g before).0 (done-taken n e)).0.0)

-- What was read is written again: a file of bytes that is taken, where the output has room for it.
module _ {file : List ℕ} (bytes : AreBytes file) (accepted : graph_verdict file ≡ taken) (before : List ℕ)
    (room : length file ≤ length before) (r : Result ℕ Fault) (after : List ℕ) (p : Promised (content file) before r after) where
  pub written_again : (r ≡ Ok (length file)) × (after ≡ file ++ drop (length file) before)
  unfolding answer_of
  written_again = (
    sym (answer_back r) ∙ ap (λ (v : Writing). answer_of v.verdict v) (p.answers ∙ read_writer bytes before accepted room),
    p.writes ∙ read_output bytes before accepted room,
  )
