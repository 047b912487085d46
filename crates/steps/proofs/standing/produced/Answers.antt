-- `steps::standing::produced` meets its contract. The loop's invariant: the controls before b are gathered. Assumes nothing.
use Prim.Native.Nat.{ℕ}
use native.Mathlib.Omega.{arith}
use mathlib.Core.Path.{◌∙◌, ap}
use mathlib.Core.Bool.{◌&&◌}
use lib.Dec.{ltb}
use Rattle.machine.specs.Sets.{has, mask_below}
use Rattle.masks.proofs.Gather.{gather_start, gather_turn}
use Rattle.meaning.specs.Graph.{control_count, producer}
use Rattle.parts.specs.Fields.{graph_in}
use Rattle.steps.specs.Moves.{produced}
use Rattle.steps.proofs.standing.produced.Goals as goal

pub loop-b-init : goal.loop-b-init
loop-b-init c = gather_start 32 (λ i. has c.args.set (producer (graph_in c.args.graph.now) i))

pub loop-b-preserved : goal.loop-b-preserved
loop-b-preserved c =
    let a = c.args in
    gather_turn 32 c.loop-b.found c.with-found.result c.loop-b.b c.has.result c.with-found.ensures
    (λ i. has a.set (producer (graph_in a.graph.now) i)) c.loop-b.invariant (c.has.ensures ∙ ap (has a.set) c.producer.ensures)

pub returns : goal.returns
unfolding produced control_count
returns c =
    let a = c.args in
    c.loop-b.invariant
    ∙ ap (λ (k : ℕ). mask_below 32 (λ i. ltb i k && has a.set (producer (graph_in a.graph.now) i))) (omega arith)
