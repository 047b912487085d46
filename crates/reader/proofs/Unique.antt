-- A promise on the reader's values leaves one answer, and the graph that is taken is fixed in what it holds and in where it lies.
-- Assumes nothing.
use Prim.Native.Nat.{ℕ}
use mathlib.Core.List.{List}
use denote.Ref.{Bor}
use mathlib.Core.Path.{◌≡◌, refl, sym, ◌∙◌, ap}
use Rattle.std.specs.Prelude.{Result, Ok, Err}
use Rattle.machine.specs.Refusals.{Verdict, taken, refused}
use Rattle.meaning.specs.Answers.{Reading}
use Rattle.parts.specs.declared.Counts.{Counts}
use Rattle.refusals.specs.declared.Fault.{Fault}
use Rattle.refusals.specs.Faults.{fault_verdict}
use Rattle.refusals.proofs.Unique.{fault_of, fault_back}
use Rattle.parts.specs.Fields.{graph_in}
use Rattle.parts.proofs.Unique.{one_place}
use Rattle.reader.specs.declared.taken.TakenGraph.{TakenGraph}
use Rattle.reader.specs.Reading.{values_of, Holds}

-- the answer that has the values
read_of : Verdict → Reading → Result Counts Fault
read_of taken v =
    Ok (record { operations = v.operations; classes = v.classes; controls = v.controls; arcs = v.arcs })
read_of (refused k p) v = Err (fault_of (refused k p))

read_back : (a : Result Counts Fault) → read_of (values_of a).verdict (values_of a) ≡ a
unfolding read_of values_of fault_verdict
read_back (Ok counts) = refl
read_back (Err f) = ap (λ (g : Fault). Err g) (fault_back f)

pub one_read : (v : Reading) (a b : Result Counts Fault) → values_of a ≡ v → values_of b ≡ v → a ≡ b
one_read v a b p q =
    sym (read_back a) ∙ ap (λ (u : Reading). read_of u.verdict u) (p ∙ sym q) ∙ read_back b

-- two graphs that are taken from one file hold the same, and their parts lie in the same places
module _ (file : Bor (List ℕ)) (a b : TakenGraph) (p : Holds file a) (q : Holds file b) where
  pub one_taken : graph_in a.graph ≡ graph_in b.graph
  one_taken = p.graph ∙ sym q.graph

  pub one-lent : (a.graph.limits.ref_ptr ≡ b.graph.limits.ref_ptr) × (a.graph.operations.ref_ptr ≡ b.graph.operations.ref_ptr)
      × (a.graph.controls.ref_ptr ≡ b.graph.controls.ref_ptr) × (a.graph.arcs.ref_ptr ≡ b.graph.arcs.ref_ptr)
  one-lent = (
    one_place _ _ _ _ _ p.cut.limits q.cut.limits,
    one_place _ _ _ _ _ p.cut.operations q.cut.operations,
    one_place _ _ _ _ _ p.cut.controls q.cut.controls,
    one_place _ _ _ _ _ p.cut.arcs q.cut.arcs,
  )
