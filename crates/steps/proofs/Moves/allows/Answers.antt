-- `steps::Moves::allows` meets its contract. Assumes nothing.
use Prim.Native.Nat.{◌^◌, ◌<◌}
use native.Mathlib.Omega.{arith}
use mathlib.Core.Path.{sym, ◌∙◌, ap}
use mathlib.Core.Bool.{Bool, ◌&&◌}
use Rattle.steps.specs.Moves.{fits}
use Rattle.steps.proofs.Rules.{tested, allows_tested}
use Rattle.steps.proofs.Moves.allows.Goals as goal

pub returns-then-ready-self : goal.returns-then-ready-self
unfolding tested
returns-then-ready-self c =
    let a = c.args in
    let u : a.self.now.undone < 2 ^ 32 = omega arith in
    let d : a.self.now.demanded < 2 ^ 32 = omega arith in
    c.fits.ensures
    ∙ sym (allows_tested a.self.now a.step c.ranges.step.fits u d ∙ ap (λ (t : Bool). t && fits a.self.now a.step) c.if-ready-self.true)

pub returns-else-ready-self : goal.returns-else-ready-self
unfolding tested
returns-else-ready-self c =
    let a = c.args in
    let u : a.self.now.undone < 2 ^ 32 = omega arith in
    let d : a.self.now.demanded < 2 ^ 32 = omega arith in
    c.if-ready-self.false
    ∙ sym (allows_tested a.self.now a.step c.ranges.step.fits u d ∙ ap (λ (t : Bool). t && fits a.self.now a.step) c.if-ready-self.false)
