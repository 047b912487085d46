-- `steps::standing::Standing::pulls` meets its contract. The loop's invariant: the targets of the arcs before a that hold back or demand are
-- gathered. Assumes nothing.
use Prim.Native.Nat.{ℕ}
use native.Mathlib.Omega.{arith}
use mathlib.Core.Path.{◌≡◌, ◌∙◌, ap}
use mathlib.Core.Bool.{◌&&◌}
use lib.Dec.{eqb}
use Rattle.masks.proofs.Gather.{spread_start, spread_turn}
use Rattle.meaning.specs.Graph.{arc_count, target}
use Rattle.parts.specs.Fields.{graph_in}
use Rattle.steps.specs.Moves.{waiting, demanding, targets}
use Rattle.steps.proofs.standing.Standing.pulls.Goals as goal

pub loop-a-init : goal.loop-a-init
unfolding targets
loop-a-init c =
    let g = graph_in c.args.self.now.graph.now in
    let s = c.args.self.now.state in (
      spread_start 32 (λ i b. waiting g s.done s.values b && eqb (target g b) i),
      spread_start 32 (λ i b. demanding g s.done b && eqb (target g b) i),
    )

pub loop-a-preserved : goal.loop-a-preserved
unfolding targets
loop-a-preserved c =
    let g = graph_in c.args.self.now.graph.now in
    let s = c.args.self.now.state in
    let l = c.loop-a in
    let arc = c.arc-arc.ensures in (
      spread_turn 32 l.held c.with-held.result c.arc-arc.result.target c.waits.result c.with-held.ensures
          (waiting g s.done s.values) (target g) l.a l.invariant.0 (c.waits.ensures l.a arc) arc.target,
      spread_turn 32 l.demanded c.with-demanded.result c.arc-arc.result.target c.demands.result c.with-demanded.ensures
          (demanding g s.done) (target g) l.a l.invariant.1 (c.demands.ensures l.a arc) arc.target,
    )

pub returns : goal.returns
returns c =
    let g = graph_in c.args.self.now.graph.now in
    let s = c.args.self.now.state in
    let all : c.loop-a.a ≡ arc_count g = omega arith in
    record {
      held = c.loop-a.invariant.0 ∙ ap (λ (k : ℕ). targets g k (waiting g s.done s.values)) all;
      demanded = c.loop-a.invariant.1 ∙ ap (λ (k : ℕ). targets g k (demanding g s.done)) all;
    }
