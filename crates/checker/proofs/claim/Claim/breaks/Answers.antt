-- `checker::claim::Claim::breaks` meets its contract. Assumes nothing.
use native.Mathlib.Omega.{arith}
use mathlib.Core.Path.{◌≡◌}
use Rattle.std.proofs.Common.{rules}
use Rattle.checker.proofs.SoundLaws.{gap-start, gap-row}
use Rattle.checker.proofs.claim.Claim.breaks.Goals as goal

pub returns-then-place-eq0 : goal.returns-then-place-eq0
returns-then-place-eq0 c = gap-start _ _ _ _ _ (omega arith) c.start.ensures c.covered.ensures

pub returns : goal.returns
returns c =
    let same : c.args.place ≡ c.in-Ok.place = search rules in
    rw same (gap-row _ _ _ _ (λ e. omega arith) (omega arith) c.continues.ensures)
