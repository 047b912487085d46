-- The promises of `parts` leave one outcome each. A returned part is fixed in what it holds and in where it lies; its ghost name,
-- which no program can see, is not. Assumes nothing.
use Prim.Native.Nat.{ℕ}
use mathlib.Core.Path.{◌≡◌, refl, sym, ◌∙◌, ap, ap₂}
use mathlib.Core.List.{List, []}
use denote.Ref.{Bor}
use Rattle.meaning.specs.Graph.{Graph, Literals, graph_of}
use Rattle.parts.specs.declared.Literals.{Literals as Masks}
use Rattle.parts.specs.declared.Operation.{Operation}
use Rattle.parts.specs.declared.Arc.{Arc}
use Rattle.parts.specs.declared.Row.{Row}
use Rattle.parts.specs.declared.Counts.{Counts}
use Rattle.parts.specs.declared.Starts.{Starts}
use Rattle.parts.specs.declared.State.{State as Fields}
use Rattle.meaning.specs.Steps.{State}
use Rattle.parts.specs.Fields.{literals_of, state_of, Counted, CountsOf, StartsOf, IsOperation, IsArc, IsRow, Stands, Lent, OfEdition, OfLimits, OfOperations, OfControls, OfArcs}

pub one-start : (n bits a b : ℕ) → Stands n bits a → Stands n bits b → a ≡ b
one-start n bits a b p q = p.right ∙ sym q.right

module _ (bytes : List ℕ) (from : ℕ) (whole a b : Bor (List ℕ)) (p : Lent bytes from whole a) (q : Lent bytes from whole b) where
  pub one-content : a.now ≡ b.now
  one-content = p.holds ∙ sym q.holds

  pub one_place : a.ref_ptr ≡ b.ref_ptr
  one_place = ap₂ (λ (m n : ℕ). (m, n)) (p.block ∙ sym q.block) (p.place ∙ sym q.place)

-- What is said of every graph that has these bytes is said of one, so it leaves one result.
module _ {A : Type 0} (f : Graph → A) (a b : A) where
  pub one_of_limits : (limits : List ℕ) → OfLimits limits (λ g. a ≡ f g) → OfLimits limits (λ g. b ≡ f g) → a ≡ b
  one_of_limits limits p q = let g = graph_of 0 limits [] [] [] in p g refl ∙ sym (q g refl)

  pub one_of_operations : (edition : ℕ) (operations : List ℕ) → OfOperations edition operations (λ g. a ≡ f g)
      → OfOperations edition operations (λ g. b ≡ f g) → a ≡ b
  one_of_operations edition operations p q =
      let g = graph_of edition [] operations [] [] in p g refl refl ∙ sym (q g refl refl)

  pub one_of_controls : (controls : List ℕ) → OfControls controls (λ g. a ≡ f g) → OfControls controls (λ g. b ≡ f g) → a ≡ b
  one_of_controls controls p q = let g = graph_of 0 [] [] controls [] in p g refl ∙ sym (q g refl)

  pub one_of_arcs : (arcs : List ℕ) → OfArcs arcs (λ g. a ≡ f g) → OfArcs arcs (λ g. b ≡ f g) → a ≡ b
  one_of_arcs arcs p q = let g = graph_of 0 [] [] [] arcs in p g refl ∙ sym (q g refl)

-- structs that hold the same
pub one_literals : (a b : Masks) → literals_of a ≡ literals_of b → a ≡ b
unfolding literals_of
one_literals a b e = ap (λ (l : Literals). record { on_true = l.on_true; on_false = l.on_false }) e

pub one_state : (s : State) (a b : Fields) → state_of a ≡ s → state_of b ≡ s → a ≡ b
one_state s a b p q = ap (λ (r : State). record { values = r.values; done = r.done }) (p ∙ sym q)

pub one-operation : (g : Graph) (j : ℕ) (a b : Operation) → IsOperation g j a → IsOperation g j b → a ≡ b
one-operation g j a b m n =
    ap₂ (λ (k : ℕ) (l : Masks). record { «class» = k; path = l }) (m.class ∙ sym n.class)
    (one_literals a.path b.path (m.path ∙ sym n.path))

pub one-arc : (g : Graph) (i : ℕ) (a b : Arc) → IsArc g i a → IsArc g i b → a ≡ b
one-arc g i a b m n =
    λ t. record {
      source = (m.source ∙ sym n.source) t;
      target = (m.target ∙ sym n.target) t;
      kind = (m.kind ∙ sym n.kind) t;
      joins = one_literals a.joins b.joins (m.joins ∙ sym n.joins) t;
    }

pub one-row : (edition : ℕ) (table : List ℕ) (i : ℕ) (a b : Row) → OfEdition edition (λ g. IsRow g table i a)
    → OfEdition edition (λ g. IsRow g table i b) → a ≡ b
one-row edition table i a b p q =
    let g = graph_of edition [] [] [] [] in
    let m = p g refl in
    let n = q g refl in
    λ t. record {
      cycle = (m.cycle ∙ sym n.cycle) t;
      state = one_state _ a.state b.state m.state n.state t;
      step = (m.step ∙ sym n.step) t;
    }

-- the counts and starts that a header says, and the counts of a graph
pub one_counts : (file : List ℕ) (a b : Counts) → Counted file a → Counted file b → a ≡ b
one_counts file a b m n =
    λ t. record {
      operations = (m.operations ∙ sym n.operations) t;
      classes = (m.classes ∙ sym n.classes) t;
      controls = (m.controls ∙ sym n.controls) t;
      arcs = (m.arcs ∙ sym n.arcs) t;
    }

pub one_counts_of : (g : Graph) (a b : Counts) → CountsOf g a → CountsOf g b → a ≡ b
one_counts_of g a b m n =
    λ t. record {
      operations = (m.operations ∙ sym n.operations) t;
      classes = (m.classes ∙ sym n.classes) t;
      controls = (m.controls ∙ sym n.controls) t;
      arcs = (m.arcs ∙ sym n.arcs) t;
    }

pub one_starts : (file : List ℕ) (a b : Starts) → StartsOf file a → StartsOf file b → a ≡ b
one_starts file a b m n =
    λ t. record {
      operations = (m.operations.right ∙ sym n.operations.right) t;
      controls = (m.controls.right ∙ sym n.controls.right) t;
      arcs = (m.arcs.right ∙ sym n.arcs.right) t;
      end = (m.end.right ∙ sym n.end.right) t;
    }
