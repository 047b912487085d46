-- `steps::standing::Standing::lost` meets its contract. Assumes nothing.
use Prim.Native.Nat.{◌^◌, ◌<◌}
use native.Mathlib.Omega.{arith}
use Rattle.parts.specs.Fields.{graph_in, literals_of}
use Rattle.steps.proofs.Literals.{lost_masks}
use Rattle.steps.proofs.standing.Standing.lost.Goals as goal

pub returns : goal.returns
unfolding literals_of
returns c =
    let l = c.args.l in
    let my = c.args.self.now in
    let v : my.state.values < 2 ^ 32 = omega arith in
    let t : l.on_true < 2 ^ 32 = omega arith in
    let f : l.on_false < 2 ^ 32 = omega arith in
    lost_masks (graph_in my.graph.now) my.state.done my.state.values my.resolved l.on_true l.on_false my.known v t f
