-- `steps::Class::roomy` meets its contract. Assumes nothing.
use Prim.Native.Nat.{ℕ}
use mathlib.Core.Path.{◌∙◌, ap}
use mathlib.Core.Bool.{◌&&◌}
use lib.Bits.{bit_and}
use lib.Dec.{leb}
use Rattle.machine.specs.Sets.{has}
use Rattle.machine.proofs.Sets.{count_same}
use Rattle.masks.proofs.Bits.{has-and}
use Rattle.steps.specs.Moves.{roomy}
use Rattle.steps.proofs.Class.roomy.Goals as goal

pub returns : goal.returns
unfolding roomy
returns c =
    let a = c.args in
    ap (leb c.count.result) c.from.ensures ∙ ap (λ (n : ℕ). leb n a.self.limit)
    (c.count.ensures ∙ count_same 32 (has (bit_and a.step a.self.members)) (λ j. has a.step j && has a.self.members j)
    (λ j h. has-and a.step a.self.members j))
