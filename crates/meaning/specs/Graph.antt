-- The graph file, its content, and refusals 1 to 11.
use Rattle.std.specs.Prelude.{ℕ, ◌+◌, ◌-◌, ◌*◌, ◌^◌, ◌/◌, Bool, not, ◌&&◌, ◌||◌, List, [], ◌∷◌, length, get_or, eqb, leb, ltb}
use Rattle.std.proofs.Math.Seq.{slice}
use Rattle.machine.specs.Sets.{has, any_below}
use Rattle.machine.specs.Refusals.{Line, line, placeless}

-- What an edition fixes.
module _ (edition : ℕ) where
  unfoldable pub known : Bool
  known = eqb edition 1

  unfoldable pub most_operations : ℕ
  most_operations = 24

  unfoldable pub most_classes : ℕ
  most_classes = 8

  unfoldable pub most_controls : ℕ
  most_controls = 4

  unfoldable pub most_arcs : ℕ
  most_arcs = 276

  -- a count is above its maximum
  abbrev pub too_many : ℕ → ℕ → ℕ → ℕ → Bool
  too_many operations classes controls arcs =
      ltb most_operations operations || ltb most_classes classes || ltb most_controls controls || ltb most_arcs arcs

  -- the bytes of an operation: class, path-true mask, path-false mask
  unfoldable pub operation_bytes : ℕ
  operation_bytes = 3

-- the bytes of an arc: source, target, kind, true mask, false mask
unfoldable pub arc_bytes : ℕ
arc_bytes = 5

unfoldable pub byte_at : List ℕ → ℕ → ℕ
byte_at file i = get_or file i 0

unfoldable pub little_endian : List ℕ → ℕ
little_endian [] = 0
little_endian (b ∷ bs) = b + 256 * little_endian bs

-- the number of `size` bytes that stands at `at`
unfoldable pub number_at : List ℕ → ℕ → ℕ → ℕ
number_at file at size = little_endian (slice at (at + size) file)

-- The header of a graph file: its counts, and where its parts have to stand.
module _ (file : List ℕ) where
  unfoldable pub edition_of : ℕ
  edition_of = byte_at file 2

  unfoldable pub operations_of : ℕ
  operations_of = byte_at file 3

  unfoldable pub classes_of : ℕ
  classes_of = byte_at file 4

  unfoldable pub controls_of : ℕ
  controls_of = byte_at file 5

  unfoldable pub arcs_of : ℕ
  arcs_of = number_at file 6 2

  unfoldable pub operations_start : ℕ
  operations_start = 16 + classes_of

  unfoldable pub controls_start : ℕ
  controls_start = operations_start + operation_bytes edition_of * operations_of

  unfoldable pub arcs_start : ℕ
  arcs_start = controls_start + controls_of

  unfoldable pub file_end : ℕ
  file_end = arcs_start + arc_bytes * arcs_of

  -- Refusals 1 to 5.
  unfoldable pub file_lines : List Line
  file_lines =
      placeless 1 (ltb (length file) 16)
      ∷ placeless 2 (not (eqb (byte_at file 0) 0x48 && eqb (byte_at file 1) 0x53 && known edition_of))
      ∷ placeless 3 (too_many edition_of operations_of classes_of controls_of arcs_of)
      ∷ placeless 4
      (not (eqb (number_at file 8 2) 16 && eqb (number_at file 10 2) operations_start
      && eqb (number_at file 12 2) controls_start && eqb (number_at file 14 2) arcs_start))
      ∷ placeless 5 (not (eqb (length file) file_end))
      ∷ []

-- A graph's content: the edition and the bytes of the four parts.
pub record Graph : Type 0 where
  pub edition : ℕ
  pub limits : List ℕ
  pub operations : List ℕ
  pub controls : List ℕ
  pub arcs : List ℕ

abbrev pub graph_of : ℕ → List ℕ → List ℕ → List ℕ → List ℕ → Graph
graph_of edition limits operations controls arcs =
    record { edition = edition; limits = limits; operations = operations; controls = controls; arcs = arcs }

-- the graph that a file holds
unfoldable pub content : List ℕ → Graph
content file =
    graph_of (edition_of file) (slice 16 (operations_start file) file)
    (slice (operations_start file) (controls_start file) file) (slice (controls_start file) (arcs_start file) file)
    (slice (arcs_start file) (file_end file) file)

-- A set of literals: the controls that it names on the true side, and those on the false side.
pub record Literals : Type 0 where
  pub on_true : ℕ
  pub on_false : ℕ

module _ (l : Literals) where
  unfoldable pub names : ℕ → Bool
  names b = has l.on_true b || has l.on_false b

  -- a mask has a bit not below c, or both masks share a bit
  unfoldable pub misnamed : ℕ → Bool
  misnamed c =
      leb (2 ^ c) l.on_true || leb (2 ^ c) l.on_false || any_below c (λ b. has l.on_true b && has l.on_false b)

-- a literal, of a control below c, of the first set is in none of the others
unfoldable pub lacks : ℕ → Literals → Literals → Literals → Bool
lacks c l m k =
    any_below c (λ b. (has l.on_true b && not (has m.on_true b || has k.on_true b))
    || (has l.on_false b && not (has m.on_false b || has k.on_false b)))

module _ (g : Graph) where
  unfoldable pub operation_count : ℕ
  operation_count = length g.operations / operation_bytes g.edition

  unfoldable pub class_count : ℕ
  class_count = length g.limits

  unfoldable pub control_count : ℕ
  control_count = length g.controls

  unfoldable pub arc_count : ℕ
  arc_count = length g.arcs / arc_bytes

  unfoldable pub limit : ℕ → ℕ
  limit k = byte_at g.limits k

  unfoldable pub class : ℕ → ℕ
  class j = byte_at g.operations (operation_bytes g.edition * j)

  -- the branch sides that operation j stands on
  unfoldable pub path : ℕ → Literals
  path j =
      record {
        on_true = byte_at g.operations (operation_bytes g.edition * j + 1);
        on_false = byte_at g.operations (operation_bytes g.edition * j + 2);
      }

  -- the operation that produces control b
  unfoldable pub producer : ℕ → ℕ
  producer b = byte_at g.controls b

  unfoldable pub source : ℕ → ℕ
  source a = byte_at g.arcs (arc_bytes * a)

  unfoldable pub target : ℕ → ℕ
  target a = byte_at g.arcs (arc_bytes * a + 1)

  -- 0 plain, 1 follow
  unfoldable pub kind : ℕ → ℕ
  kind a = byte_at g.arcs (arc_bytes * a + 2)

  -- the join sides that arc a passes
  unfoldable pub joins : ℕ → Literals
  joins a =
      record { on_true = byte_at g.arcs (arc_bytes * a + 3); on_false = byte_at g.arcs (arc_bytes * a + 4) }

  -- operation j names control x without all literals of x's operation's path, or is itself x's operation
  unfoldable pub stray_path : ℕ → ℕ → Bool
  stray_path j x =
      names (path j) x && (lacks control_count (path (producer x)) (path j) (path j) || eqb (producer x) j)

  -- (target, source) of arc a is not above that of the arc before
  unfoldable pub unordered : ℕ → Bool
  unordered a =
      ltb 0 a
      && not (ltb (target (a - 1)) (target a) || (eqb (target (a - 1)) (target a) && ltb (source (a - 1)) (source a)))

  -- arc a is a follow arc with literals
  unfoldable pub follows_join : ℕ → Bool
  follows_join a = eqb (kind a) 1 && not (eqb (joins a).on_true 0 && eqb (joins a).on_false 0)

  -- Refusals 6 to 11.
  unfoldable pub content_lines : List Line
  content_lines =
      line 6 operation_count (λ j. leb class_count (class j))
      ∷ line 7 operation_count (λ j. misnamed (path j) control_count)
      ∷ line 8 control_count (λ b. leb operation_count (producer b) || any_below b (λ d. eqb (producer d) (producer b)))
      ∷ line 9 operation_count (λ j. any_below control_count (stray_path j))
      ∷ line 10 arc_count
      (λ a. leb (target a) (source a) || leb operation_count (target a) || ltb 1 (kind a)
      || misnamed (joins a) control_count || follows_join a || unordered a)
      ∷ line 11 arc_count (λ a. lacks control_count (path (source a)) (path (target a)) (joins a))
      ∷ []
