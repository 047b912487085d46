-- `checker::claim::Claim::gapless` meets its contract. Assumes nothing.
use Prim.Native.Nat.{ℕ, ◌^◌}
use mathlib.Core.Path.{◌∙◌}
use mathlib.Core.Bool.{Bool, ◌&&◌}
use lib.Dec.{ltb}
use Rattle.std.proofs.Common.{rules}
use Rattle.refusals.specs.Faults.{number_of}
use Rattle.checker.specs.Rows.{gap_line}
use Rattle.checker.specs.Claims.{graph_of, file_of}
use Rattle.checker.proofs.Places.{near_places}
use Rattle.checker.proofs.claim.Claim.gapless.Goals as goal

pub returns : goal.returns
unfolding number_of gap_line
returns c =
    let fault : ℕ → Bool = (gap_line (graph_of c.args.self.now) (file_of c.args.self.now)).fault in
    c.first_fault.ensures (λ p. ltb p (2 ^ 32) && fault p) (λ p r l h. search rules)
    ∙ near_places 19 _ _ fault c.row_count.ensures
