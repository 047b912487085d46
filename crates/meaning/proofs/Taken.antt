-- What a graph guarantees whose file passes refusals 1 to 5 and whose content passes refusals 6 to 11, a named fact or
-- more for each refusal. Assumes nothing.
use Prim.Native.Nat.{ℕ, ◌+◌, ◌-◌, ◌*◌, ◌^◌, ◌/◌, ◌≤◌, ◌<◌}
use native.Mathlib.Nat.{le_refl, mul-div_right}
use native.Mathlib.Omega.{arith}
use mathlib.Core.Path.{◌≡◌, sym, ◌∙◌, ap, subst}
use mathlib.Core.Logic.Iff
use mathlib.Core.Logic.{◌⊎◌, inl, ⊎_elim, ◌↔◌, ◌≢◌}
use mathlib.Core.Bool.{not, ◌&&◌, ◌||◌}
use mathlib.Core.List.{List}
use lib.ListN.{length}
use lib.Seq.{slice, length-slice}
use lib.Dec.{T, eqb, leb, ltb, lit<}
use Rattle.machine.specs.Sets.{has, any_below}
use Rattle.machine.proofs.Says.{Denies, says_test, denies_test, denies_leb, says_ltb, denies_ltb, says_eqb, denies_eqb, denies_not, says_and, says_or, denies_or, denies_and, denies_any}
use Rattle.machine.specs.Refusals.{taken as accepts}
use Rattle.machine.proofs.Refusals.{AllPass, none, and, pass_append, judge-taken}
use Rattle.meaning.specs.Graph.{known, most_operations, most_classes, most_controls, most_arcs, too_many, operation_bytes, arc_bytes, byte_at, number_at, edition_of, operations_of, classes_of, controls_of, arcs_of, operations_start, controls_start, arcs_start, file_end, file_lines, content, Graph, Literals, names, misnamed, lacks, operation_count, class_count, control_count, arc_count, class, path, producer, source, target, kind, joins, stray_path, unordered, follows_join, content_lines}
use Rattle.meaning.specs.Answers.{graph_lines, graph_verdict}

-- The masks have no bit at c or above, and share no bit.
pub record Named (l : Literals) (c : ℕ) : Type 0 where
  pub true_below : l.on_true < 2 ^ c
  pub false_below : l.on_false < 2 ^ c
  pub apart : (b : ℕ) → b < c → T (has l.on_true b) → T (not (has l.on_false b))

-- A literal of l, of a control below c, is in m or in k.
record Covered (c : ℕ) (l m k : Literals) : Type 0 where
  on_true : (b : ℕ) → b < c → T (has l.on_true b) → T (has m.on_true b) ⊎ T (has k.on_true b)
  on_false : (b : ℕ) → b < c → T (has l.on_false b) → T (has m.on_false b) ⊎ T (has k.on_false b)

-- Refusals 6 to 11, in order.
pub record Taken (g : Graph) : Type 0 where
  -- 6
  pub class-below : (j : ℕ) → j < operation_count g → class g j < class_count g
  -- 7
  pub path_named : (j : ℕ) → j < operation_count g → Named (path g j) (control_count g)
  -- 8
  pub producer-below : (b : ℕ) → b < control_count g → producer g b < operation_count g
  pub producers_differ : (b : ℕ) → b < control_count g → (d : ℕ) → d < b → producer g d ≢ producer g b
  -- 9
  pub names_other : (j : ℕ) → j < operation_count g → (x : ℕ) → x < control_count g → T (names (path g j) x)
      → producer g x ≢ j
  pub names-true : (j : ℕ) → j < operation_count g → (x : ℕ) → x < control_count g → T (names (path g j) x)
      → (b : ℕ) → b < control_count g → T (has (path g (producer g x)).on_true b) → T (has (path g j).on_true b)
  pub names-false : (j : ℕ) → j < operation_count g → (x : ℕ) → x < control_count g → T (names (path g j) x)
      → (b : ℕ) → b < control_count g → T (has (path g (producer g x)).on_false b) → T (has (path g j).on_false b)
  -- 10
  pub source-below : (a : ℕ) → a < arc_count g → source g a < target g a
  pub target_below : (a : ℕ) → a < arc_count g → target g a < operation_count g
  pub kind-below : (a : ℕ) → a < arc_count g → kind g a ≤ 1
  pub joins_named : (a : ℕ) → a < arc_count g → Named (joins g a) (control_count g)
  pub follow_true : (a : ℕ) → a < arc_count g → kind g a ≡ 1 → (joins g a).on_true ≡ 0
  pub follow_false : (a : ℕ) → a < arc_count g → kind g a ≡ 1 → (joins g a).on_false ≡ 0
  pub arcs_rise : (a : ℕ) → a < arc_count g → 0 < a
      → (target g (a - 1) < target g a) ⊎ ((target g (a - 1) ≡ target g a) × (source g (a - 1) < source g a))
  -- 11
  pub source-true : (a : ℕ) → a < arc_count g → (b : ℕ) → b < control_count g → T (has (path g (source g a)).on_true b)
      → T (has (path g (target g a)).on_true b) ⊎ T (has (joins g a).on_true b)
  pub source-false : (a : ℕ) → a < arc_count g → (b : ℕ) → b < control_count g → T (has (path g (source g a)).on_false b)
      → T (has (path g (target g a)).on_false b) ⊎ T (has (joins g a).on_false b)

-- Each line's fault, read as the facts that it denies.
pub denies_misnamed : (l : Literals) (c : ℕ) → Denies (misnamed l c) (Named l c)
unfolding misnamed
denies_misnamed l c =
    let r = denies_or (denies_or (denies_leb (2 ^ c) l.on_true) (denies_leb (2 ^ c) l.on_false))
    (denies_any {n = c} (λ b. denies_and (says_test (has l.on_true b)) (denies_test (has l.on_false b)))) in
    record {
      to = λ t. let p = r.to t in record { true_below = p.0.0; false_below = p.0.1; apart = p.1 };
      from = λ p. r.from ((p.true_below, p.false_below), p.apart);
    }

denies_lacks : (c : ℕ) (l m k : Literals) → Denies (lacks c l m k) (Covered c l m k)
unfolding lacks
denies_lacks c l m k =
    let r = denies_any {n = c} (λ b. denies_or (side l.on_true m.on_true k.on_true b) (side l.on_false m.on_false k.on_false b)) in
    record {
      to = λ t. record { on_true = λ b h. (r.to t b h).0; on_false = λ b h. (r.to t b h).1 };
      from = λ p. r.from (λ b h. (p.on_true b h, p.on_false b h));
    }
  where
    side : (x y z b : ℕ) → Denies (has x b && not (has y b || has z b)) (T (has x b) → T (has y b) ⊎ T (has z b))
    side x y z b = denies_and (says_test (has x b)) (denies_not (says_or (says_test (has y b)) (says_test (has z b))))

module _ (g : Graph) where
  denies_producer : (b : ℕ)
      → Denies (leb (operation_count g) (producer g b) || any_below b (λ d. eqb (producer g d) (producer g b)))
      ((producer g b < operation_count g) × ((d : ℕ) → d < b → producer g d ≢ producer g b))
  denies_producer b = denies_or (denies_leb (operation_count g) (producer g b)) (denies_any (λ d. denies_eqb (producer g d) (producer g b)))

  denies_stray : (j x : ℕ)
      → Denies (stray_path g j x)
      (T (names (path g j) x) → Covered (control_count g) (path g (producer g x)) (path g j) (path g j) × (producer g x ≢ j))
  unfolding stray_path
  denies_stray j x =
      denies_and (says_test (names (path g j) x))
      (denies_or (denies_lacks (control_count g) (path g (producer g x)) (path g j) (path g j)) (denies_eqb (producer g x) j))

  denies_follows : (a : ℕ)
      → Denies (follows_join g a) (kind g a ≡ 1 → ((joins g a).on_true ≡ 0) × ((joins g a).on_false ≡ 0))
  unfolding follows_join
  denies_follows a =
      denies_and (says_eqb (kind g a) 1)
      (denies_not (says_and (says_eqb (joins g a).on_true 0) (says_eqb (joins g a).on_false 0)))

  denies_unordered : (a : ℕ)
      → Denies (unordered g a) (0 < a
      → (target g (a - 1) < target g a) ⊎ ((target g (a - 1) ≡ target g a) × (source g (a - 1) < source g a)))
  unfolding unordered
  denies_unordered a =
      denies_and (says_ltb 0 a)
      (denies_not (says_or (says_ltb (target g (a - 1)) (target g a))
      (says_and (says_eqb (target g (a - 1)) (target g a)) (says_ltb (source g (a - 1)) (source g a)))))

  denies_arc : (a : ℕ)
      → Denies
      (leb (target g a) (source g a) || leb (operation_count g) (target g a) || ltb 1 (kind g a)
      || misnamed (joins g a) (control_count g) || follows_join g a || unordered g a)
      ((((((source g a < target g a) × (target g a < operation_count g)) × (kind g a ≤ 1))
      × Named (joins g a) (control_count g)) × (kind g a ≡ 1 → ((joins g a).on_true ≡ 0) × ((joins g a).on_false ≡ 0)))
      × (0 < a
      → (target g (a - 1) < target g a) ⊎ ((target g (a - 1) ≡ target g a) × (source g (a - 1) < source g a))))
  denies_arc a =
      denies_or (denies_or (denies_or (denies_or
      (denies_or (denies_leb (target g a) (source g a)) (denies_leb (operation_count g) (target g a)))
      (denies_ltb 1 (kind g a))) (denies_misnamed (joins g a) (control_count g))) (denies_follows a)) (denies_unordered a)

  pub taken_of : AllPass (content_lines g) → Taken g
  unfolding content_lines
  taken_of (and classes (and paths (and producers (and strays (and arcs (and sources none)))))) =
      record {
        class-below = λ j h. (denies_leb (class_count g) (class g j)).to (classes j h);
        path_named = λ j h. (denies_misnamed (path g j) (control_count g)).to (paths j h);
        producer-below = λ b h. ((denies_producer b).to (producers b h)).0;
        producers_differ = λ b h. ((denies_producer b).to (producers b h)).1;
        names_other = λ j h x k t. ((denies_any (denies_stray j)).to (strays j h) x k t).1;
        names-true = λ j h x k t b i u. once (((denies_any (denies_stray j)).to (strays j h) x k t).0.on_true b i u);
        names-false = λ j h x k t b i u. once (((denies_any (denies_stray j)).to (strays j h) x k t).0.on_false b i u);
        source-below = λ a h. ((denies_arc a).to (arcs a h)).0.0.0.0.0;
        target_below = λ a h. ((denies_arc a).to (arcs a h)).0.0.0.0.1;
        kind-below = λ a h. ((denies_arc a).to (arcs a h)).0.0.0.1;
        joins_named = λ a h. ((denies_arc a).to (arcs a h)).0.0.1;
        follow_true = λ a h e. (((denies_arc a).to (arcs a h)).0.1 e).0;
        follow_false = λ a h e. (((denies_arc a).to (arcs a h)).0.1 e).1;
        arcs_rise = λ a h. ((denies_arc a).to (arcs a h)).1;
        source-true = λ a h. ((denies_lacks (control_count g) (path g (source g a)) (path g (target g a)) (joins g a)).to (sources a h)).on_true;
        source-false = λ a h. ((denies_lacks (control_count g) (path g (source g a)) (path g (target g a)) (joins g a)).to (sources a h)).on_false;
      }
    where
      once : {P : Type 0} → P ⊎ P → P
      once e = ⊎_elim (λ p. p) (λ p. p) e

  pub of_taken : Taken g → AllPass (content_lines g)
  unfolding content_lines
  of_taken t =
      and (λ j h. (denies_leb (class_count g) (class g j)).from (t.class-below j h))
      (and (λ j h. (denies_misnamed (path g j) (control_count g)).from (t.path_named j h))
      (and (λ b h. (denies_producer b).from (t.producer-below b h, t.producers_differ b h))
      (and (λ j h. (denies_any (denies_stray j)).from (λ x k u. (
        record {
          on_true = λ b i v. inl (t.names-true j h x k u b i v);
          on_false = λ b i v. inl (t.names-false j h x k u b i v);
        },
        t.names_other j h x k u,
      )))
      (and (λ a h. (denies_arc a).from (
        (
          (((t.source-below a h, t.target_below a h), t.kind-below a h), t.joins_named a h),
          λ e. (t.follow_true a h e, t.follow_false a h e),
        ),
        t.arcs_rise a h,
      ))
      (and (λ a h. (denies_lacks (control_count g) (path g (source g a)) (path g (target g a)) (joins g a)).from
      (record { on_true = t.source-true a h; on_false = t.source-false a h }))
      none)))))

-- Refusal 3, for any counts: none is above its maximum.
module _ (e n k c a : ℕ) where
  pub denies_many : Denies (too_many e n k c a)
      ((((n ≤ most_operations e) × (k ≤ most_classes e)) × (c ≤ most_controls e)) × (a ≤ most_arcs e))
  denies_many =
      denies_or (denies_or (denies_or (denies_ltb (most_operations e) n) (denies_ltb (most_classes e) k)) (denies_ltb (most_controls e) c))
      (denies_ltb (most_arcs e) a)

  -- a file of such counts has 1,480 bytes at most
  pub largest : n ≤ most_operations e → k ≤ most_classes e → c ≤ most_controls e → a ≤ most_arcs e
      → 16 + k + operation_bytes e * n + c + arc_bytes * a ≤ 1480
  unfolding most_operations most_classes most_controls most_arcs operation_bytes arc_bytes
  largest operations classes controls arcs = omega arith

-- Refusals 1 to 5, in order.
pub record Filed (file : List ℕ) : Type 0 where
  -- 1
  pub long : 16 ≤ length file
  -- 2
  pub mark_first : byte_at file 0 ≡ 0x48
  pub mark_second : byte_at file 1 ≡ 0x53
  pub edition-known : T (known (edition_of file))
  -- 3
  pub operations_most : operations_of file ≤ most_operations (edition_of file)
  pub classes_most : classes_of file ≤ most_classes (edition_of file)
  pub controls_most : controls_of file ≤ most_controls (edition_of file)
  pub arcs_most : arcs_of file ≤ most_arcs (edition_of file)
  -- 4
  pub limits_offset : number_at file 8 2 ≡ 16
  pub operations_offset : number_at file 10 2 ≡ operations_start file
  pub controls_offset : number_at file 12 2 ≡ controls_start file
  pub arcs_offset : number_at file 14 2 ≡ arcs_start file
  -- 5
  pub length-right : length file ≡ file_end file

module _ (file : List ℕ) where
  denies_mark : Denies (not (eqb (byte_at file 0) 0x48 && eqb (byte_at file 1) 0x53 && known (edition_of file)))
      (((byte_at file 0 ≡ 0x48) × (byte_at file 1 ≡ 0x53)) × T (known (edition_of file)))
  denies_mark =
      denies_not (says_and (says_and (says_eqb (byte_at file 0) 0x48) (says_eqb (byte_at file 1) 0x53)) (says_test (known (edition_of file))))

  pub denies_counts : let e = edition_of file in
      Denies (too_many e (operations_of file) (classes_of file) (controls_of file) (arcs_of file))
      ((((operations_of file ≤ most_operations e) × (classes_of file ≤ most_classes e)) × (controls_of file ≤ most_controls e))
      × (arcs_of file ≤ most_arcs e))
  denies_counts = denies_many (edition_of file) (operations_of file) (classes_of file) (controls_of file) (arcs_of file)

  denies_offsets : Denies
      (not (eqb (number_at file 8 2) 16 && eqb (number_at file 10 2) (operations_start file)
      && eqb (number_at file 12 2) (controls_start file) && eqb (number_at file 14 2) (arcs_start file)))
      ((((number_at file 8 2 ≡ 16) × (number_at file 10 2 ≡ operations_start file)) × (number_at file 12 2 ≡ controls_start file))
      × (number_at file 14 2 ≡ arcs_start file))
  denies_offsets =
      denies_not (says_and (says_and
      (says_and (says_eqb (number_at file 8 2) 16) (says_eqb (number_at file 10 2) (operations_start file)))
      (says_eqb (number_at file 12 2) (controls_start file))) (says_eqb (number_at file 14 2) (arcs_start file)))

  -- A file passes 1 to 5 exactly when these facts hold.
  pub filed_of : AllPass (file_lines file) → Filed file
  unfolding file_lines
  filed_of (and short (and mark (and counts (and offsets (and end none))))) =
      let marks = denies_mark.to (mark 0 (lit< tt)) in
      let most = denies_counts.to (counts 0 (lit< tt)) in
      let starts = denies_offsets.to (offsets 0 (lit< tt)) in
      record {
        long = (denies_ltb (length file) 16).to (short 0 (lit< tt));
        mark_first = marks.0.0;
        mark_second = marks.0.1;
        edition-known = marks.1;
        operations_most = most.0.0.0;
        classes_most = most.0.0.1;
        controls_most = most.0.1;
        arcs_most = most.1;
        limits_offset = starts.0.0.0;
        operations_offset = starts.0.0.1;
        controls_offset = starts.0.1;
        arcs_offset = starts.1;
        length-right = (denies_not (says_eqb (length file) (file_end file))).to (end 0 (lit< tt));
      }

  pub of_filed : Filed file → AllPass (file_lines file)
  unfolding file_lines
  of_filed f =
      and (λ p h. (denies_ltb (length file) 16).from f.long)
      (and (λ p h. denies_mark.from ((f.mark_first, f.mark_second), f.edition-known))
      (and (λ p h. denies_counts.from (((f.operations_most, f.classes_most), f.controls_most), f.arcs_most))
      (and (λ p h. denies_offsets.from (((f.limits_offset, f.operations_offset), f.controls_offset), f.arcs_offset))
      (and (λ p h. (denies_not (says_eqb (length file) (file_end file))).from f.length-right)
      none))))

-- A graph's counts are within its edition's maxima.
pub record Within (g : Graph) : Type 0 where
  pub operations : operation_count g ≤ most_operations g.edition
  pub classes : class_count g ≤ most_classes g.edition
  pub controls : control_count g ≤ most_controls g.edition
  pub arcs : arc_count g ≤ most_arcs g.edition

-- What every edition keeps to, so that masks, words and slots hold it.
module _ {g : Graph} (w : Within g) where
  pub few-operations : operation_count g ≤ 24
  unfolding most_operations
  few-operations = w.operations

  pub few-classes : class_count g ≤ 8
  unfolding most_classes
  few-classes = w.classes

  pub few-controls : control_count g ≤ 4
  unfolding most_controls
  few-controls = w.controls

  -- each of these is a byte
  pub counts-small : (operation_count g < 256) × (class_count g < 256) × (control_count g < 256)
  counts-small = (omega (arith, few-operations), omega (arith, few-classes), omega (arith, few-controls))

  pub few-arcs : arc_count g ≤ 276
  unfolding most_arcs
  few-arcs = w.arcs

-- The content's counts are the header's, and within the edition's maxima.
module _ (file : List ℕ) (f : Filed file) where
  -- a part that ends within the file has the length that its ends give
  part_length : (from to : ℕ) → to ≤ file_end file → length (slice from to file) ≡ to - from
  part_length from to h = length-slice from to file (subst (λ (k : ℕ). to ≤ k) (sym f.length-right) h)

  pub class-count : class_count (content file) ≡ classes_of file
  unfolding class_count content operations_start controls_start arcs_start file_end
  class-count = part_length 16 (operations_start file) (omega arith) ∙ omega arith

  pub operations-length : length (content file).operations ≡ operation_bytes (edition_of file) * operations_of file
  unfolding content operations_start controls_start arcs_start file_end
  operations-length = part_length (operations_start file) (controls_start file) (omega arith) ∙ omega arith

  pub operation-count : operation_count (content file) ≡ operations_of file
  unfolding operation_count content operation_bytes
  operation-count = ap (λ (k : ℕ). k / 3) operations-length ∙ mul-div_right (operations_of file) {m = 3} (lit< tt)

  pub control-count : control_count (content file) ≡ controls_of file
  unfolding control_count content operations_start controls_start arcs_start file_end
  control-count = part_length (controls_start file) (arcs_start file) (omega arith) ∙ omega arith

  pub arcs-length : length (content file).arcs ≡ arc_bytes * arcs_of file
  unfolding content file_end
  arcs-length = part_length (arcs_start file) (file_end file) (le_refl (file_end file)) ∙ omega arith

  pub arc-count : arc_count (content file) ≡ arcs_of file
  unfolding arc_count arc_bytes
  arc-count = ap (λ (k : ℕ). k / 5) arcs-length ∙ mul-div_right (arcs_of file) {m = 5} (lit< tt)

  pub within : Within (content file)
  unfolding content
  within =
      record {
        operations = subst (λ (k : ℕ). k ≤ most_operations (edition_of file)) (sym operation-count) f.operations_most;
        classes = subst (λ (k : ℕ). k ≤ most_classes (edition_of file)) (sym class-count) f.classes_most;
        controls = subst (λ (k : ℕ). k ≤ most_controls (edition_of file)) (sym control-count) f.controls_most;
        arcs = subst (λ (k : ℕ). k ≤ most_arcs (edition_of file)) (sym arc-count) f.arcs_most;
      }

-- A file that passes all of refusals 1 to 11, and its graph.
pub graph_of : (file : List ℕ) → AllPass (graph_lines file) → Filed file × Taken (content file)
unfolding graph_lines
graph_of file ps =
    let p = (pass_append (file_lines file) (content_lines (content file))).0 ps in
    (filed_of file p.0, taken_of (content file) p.1)

-- Nothing of 1 to 11 is given exactly when the file and its graph are as the named facts say.
pub graph-taken_exactly : (file : List ℕ) → (graph_verdict file ≡ accepts) ↔ (Filed file × Taken (content file))
unfolding graph_verdict graph_lines
graph-taken_exactly file =
    Iff.trans (judge-taken (graph_lines file))
    (graph_of file, λ t. (pass_append (file_lines file) (content_lines (content file))).1 (of_filed file t.0, of_taken (content file) t.1))

-- a graph that passes refusals 1 to 11
pub record Accepted (g : Graph) : Type 0 where
  pub taken : Taken g
  pub within : Within g

pub accepted_of : (file : List ℕ) → graph_verdict file ≡ accepts → Accepted (content file)
accepted_of file e =
    let p = (graph-taken_exactly file).0 e in
    record { taken = p.1; within = within file p.0 }
