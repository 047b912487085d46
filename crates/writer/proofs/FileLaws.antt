-- The file in the output, part behind part. Assumes nothing.
use Prim.Native.Nat.{ℕ, ◌+◌, ◌^◌, ◌<◌}
use native.Mathlib.Nat.{zero-add}
use native.Mathlib.Omega.{arith}
use mathlib.Core.Path.{◌≡◌, sym, ◌∙◌, ap, ap₂}
use mathlib.Core.List.{List, ◌++◌}
use lib.ListN.{length, length-append}
use Rattle.meaning.specs.Graph.{Graph}
use Rattle.meaning.specs.Writer.{graph_file}
use Rattle.meaning.proofs.Writer.{Listed, file-length, file-largest}
use Rattle.parts.specs.declared.Starts.{Starts}
use Rattle.text.specs.Writing.{laid}
use Rattle.text.proofs.WriteLaws.{laid_then}
use Rattle.writer.specs.Promise.{StartsOf}

-- one part behind others
put_next : (before a b : List ℕ) {middle after : List ℕ} {at : ℕ} → middle ≡ laid before 0 a → at ≡ length a → after ≡ laid middle at b
    → after ≡ laid before 0 (a ++ b)
put_next before a b p e q =
    q ∙ ap₂ (λ (l : List ℕ) (k : ℕ). laid l k b) p (e ∙ sym (zero-add (length a))) ∙ laid_then before 0 a b

-- the header and the four parts, each where it starts
module _ (g : Graph) (before header : List ℕ) where
  pub parts_laid : {m1 m2 m3 m4 after : List ℕ} {s : Starts} → length header ≡ 16 → StartsOf g s
      → m1 ≡ laid before 0 header → m2 ≡ laid m1 16 g.limits → m3 ≡ laid m2 s.operations g.operations
      → m4 ≡ laid m3 s.controls g.controls → after ≡ laid m4 s.arcs g.arcs
      → after ≡ laid before 0 (header ++ g.limits ++ g.operations ++ g.controls ++ g.arcs)
  parts_laid e s p q r t u =
      let two = put_next before header g.limits p (sym e) q in
      let three = put_next before (header ++ g.limits) g.operations two (rw (length-append header g.limits, e) s.operations-at) r in
      let four = put_next before (header ++ g.limits ++ g.operations) g.controls three
      (rw (length-append (header ++ g.limits) g.operations, length-append header g.limits, e) s.controls-at) t in
      put_next before (header ++ g.limits ++ g.operations ++ g.controls) g.arcs four
      (rw (length-append (header ++ g.limits ++ g.operations) g.controls, length-append (header ++ g.limits) g.operations, length-append header g.limits, e) s.arcs-at) u

-- the file of content that passes 2, 3 and 5 is short
pub file_short : {g : Graph} → Listed g
    → 16 + length g.limits + length g.operations + length g.controls + length g.arcs < 2 ^ 16
file_short {g} l = omega (arith, file-length g, file-largest l)

-- the file of a graph ends where its last part does
pub file_ends : {g h : Graph} {s : Starts} → g ≡ h → StartsOf g s → s.end ≡ length (graph_file h)
file_ends {g} e p = p.ends ∙ sym (file-length g) ∙ ap (λ (k : Graph). length (graph_file k)) e
