-- What the code's structs hold, in the terms of a graph and its table.
use Rattle.std.specs.Prelude.{ℕ, zero, suc, min, ◌+◌, ◌^◌, ◌<◌, ◌≡◌, Bool, false, true, List, length}
use Rattle.std.specs.Borrow.{Bor}
use Rattle.machine.specs.Tables.{Row as TableRow}
use Rattle.meaning.specs.Graph.{most_operations, most_classes, most_controls, most_arcs, operations_of, classes_of, controls_of, arcs_of, operations_start, controls_start, arcs_start, file_end, Graph as Content, Literals, graph_of, content, operation_count, class_count, control_count, arc_count, class, path, source, target, kind, joins}
use Rattle.meaning.specs.Steps.{State, machine_of}
use Rattle.meaning.specs.TableFile.{table_in}
use Rattle.parts.specs.declared.Arc.{Arc}
use Rattle.parts.specs.declared.Counts.{Counts}
use Rattle.parts.specs.declared.Graph.{Graph}
use Rattle.parts.specs.declared.Kind.{Kind}
use Rattle.parts.specs.declared.Kind.TheVariants.{Plain, Follow, Unknown}
use Rattle.parts.specs.declared.Literals.{Literals as Masks}
use Rattle.parts.specs.declared.Operation.{Operation}
use Rattle.parts.specs.declared.Row.{Row}
use Rattle.parts.specs.declared.Starts.{Starts}
use Rattle.parts.specs.declared.State.{State as Fields}

-- the graph of an edition and four lent parts
abbrev pub graph_in : Graph → Content
graph_in g = graph_of g.edition g.limits.now g.operations.now g.controls.now g.arcs.now

-- the set of literals that two masks hold
unfoldable pub literals_of : Masks → Literals
literals_of l = record { on_true = l.on_true; on_false = l.on_false }

-- the kind of a number
unfoldable pub kind_of : ℕ → Kind
kind_of zero = Plain
kind_of (suc zero) = Follow
kind_of (suc (suc n)) = Unknown (suc (suc n))

unfoldable pub is_follow : Kind → Bool
is_follow Plain = false
is_follow Follow = true
is_follow (Unknown n) = false

unfoldable pub is_unknown : Kind → Bool
is_unknown Plain = false
is_unknown Follow = false
is_unknown (Unknown n) = true

-- r is operation j of the graph, and r is arc a
pub record IsOperation (g : Content) (j : ℕ) (r : Operation) : Type 0 where
  pub class : r.«class» ≡ class g j
  pub path : literals_of r.path ≡ path g j

pub record IsArc (g : Content) (a : ℕ) (r : Arc) : Type 0 where
  pub source : r.source ≡ source g a
  pub target : r.target ≡ target g a
  pub kind : r.kind ≡ kind_of (kind g a)
  pub joins : literals_of r.joins ≡ joins g a

-- the state that the struct holds
abbrev pub state_of : Fields → State
state_of s = record { done = s.done; values = s.values }

-- the row of a graph's table that the struct holds
unfoldable pub row_of : (g : Content) → Row → TableRow (machine_of g)
row_of g r = record { cycle = r.cycle; state = state_of r.state; step = r.step }

-- r is row p of a graph's table, and its cycle and values are bytes
pub record IsRow (g : Content) (table : List ℕ) (p : ℕ) (r : Row) : Type 0 where
  pub cycle : r.cycle ≡ ((table_in g table).row p).cycle
  pub state : state_of r.state ≡ ((table_in g table).row p).state
  pub step : r.step ≡ ((table_in g table).row p).step
  pub cycle-small : r.cycle < 256
  pub values-small : r.state.values < 256

-- r has the most of each that an edition allows
pub record Maxima (edition : ℕ) (r : Counts) : Type 0 where
  pub operations : r.operations ≡ most_operations edition
  pub classes : r.classes ≡ most_classes edition
  pub controls : r.controls ≡ most_controls edition
  pub arcs : r.arcs ≡ most_arcs edition

-- r has the counts that the header says, of a byte each and of two
pub record Counted (file : List ℕ) (r : Counts) : Type 0 where
  pub operations : r.operations ≡ operations_of file
  pub classes : r.classes ≡ classes_of file
  pub controls : r.controls ≡ controls_of file
  pub arcs : r.arcs ≡ arcs_of file
  pub operations-small : r.operations < 256
  pub classes-small : r.classes < 256
  pub controls-small : r.controls < 256
  pub arcs-small : r.arcs < 2 ^ 16

-- r has the counts of a graph's whole records
pub record CountsOf (g : Content) (r : Counts) : Type 0 where
  pub operations : r.operations ≡ operation_count g
  pub classes : r.classes ≡ class_count g
  pub controls : r.controls ≡ control_count g
  pub arcs : r.arcs ≡ arc_count g

-- r is the place n, which has no more than so many bits
pub record Stands (n bits r : ℕ) : Type 0 where
  pub right : r ≡ n
  pub small : r < 2 ^ bits

-- r has the places that a file's header asks of the parts
pub record StartsOf (file : List ℕ) (r : Starts) : Type 0 where
  pub operations : Stands (operations_start file) 9 r.operations
  pub controls : Stands (controls_start file) 11 r.controls
  pub arcs : Stands (arcs_start file) 12 r.arcs
  pub end : Stands (file_end file) 19 r.end

-- r is these bytes of the lent ones: what it holds, and where it lies, in the same block and from a place on, or at the end
pub record Lent (bytes : List ℕ) (from : ℕ) (whole r : Bor (List ℕ)) : Type 0 where
  pub holds : r.now ≡ bytes
  pub block : r.ref_ptr.0 ≡ whole.ref_ptr.0
  pub place : r.ref_ptr.1 ≡ whole.ref_ptr.1 + min from (length whole.now)

-- the parts of r are those of a file, lent where they stand
pub record Cut (file : Bor (List ℕ)) (r : Graph) : Type 0 where
  pub limits : Lent (content file.now).limits 16 file r.limits
  pub operations : Lent (content file.now).operations (operations_start file.now) file r.operations
  pub controls : Lent (content file.now).controls (controls_start file.now) file r.controls
  pub arcs : Lent (content file.now).arcs (arcs_start file.now) file r.arcs

-- What is said of every graph of an edition.
abbrev pub OfEdition : ℕ → (Content → Type 0) → Type 0
OfEdition edition P = (g : Content) → g.edition ≡ edition → P g

-- What is said of every graph that has these limits, operations, controls or arcs, whatever its other parts are.
abbrev pub OfLimits : List ℕ → (Content → Type 0) → Type 0
OfLimits limits P = (g : Content) → g.limits ≡ limits → P g

abbrev pub OfOperations : ℕ → List ℕ → (Content → Type 0) → Type 0
OfOperations edition operations P = (g : Content) → g.edition ≡ edition → g.operations ≡ operations → P g

abbrev pub OfControls : List ℕ → (Content → Type 0) → Type 0
OfControls controls P = (g : Content) → g.controls ≡ controls → P g

abbrev pub OfArcs : List ℕ → (Content → Type 0) → Type 0
OfArcs arcs P = (g : Content) → g.arcs ≡ arcs → P g
