-- `checker::claim::Claim::lawful` meets its contract. Assumes nothing.
use Prim.Native.Nat.{◌^◌, ◌<◌}
use native.Mathlib.Omega.{arith}
use mathlib.Core.Path.{◌∙◌}
use Rattle.steps.proofs.Allowed.{allows-legal}
use Rattle.checker.proofs.claim.Claim.lawful.Goals as goal

pub returns : goal.returns
returns c =
    let h : c.args.p.step < 2 ^ 32 = omega arith in
    c.allows.ensures ∙ rw c.moves_in.ensures (allows-legal _ c.args.self.now.taken.within _ _ h)
