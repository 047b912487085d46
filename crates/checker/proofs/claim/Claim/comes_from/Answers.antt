-- `checker::claim::Claim::comes_from` meets its contract. Assumes nothing.
use native.Mathlib.Omega.{arith}
use mathlib.Core.Path.{◌∙◌}
use borrow.Author.Tests.{ne_eqb}
use Rattle.parts.proofs.PartLaws.{row_is}
use Rattle.checker.proofs.SoundLaws.{not_came, came}
use Rattle.checker.proofs.claim.Claim.comes_from.Goals as goal

pub returns-else-q-p : goal.returns-else-q-p
returns-else-q-p c = ne_eqb _ _ c.if-q-p.false ∙ not_came _ _ _ _ _ (row_is _ _ _ _ c.row-q.ensures) c.if-q-p.false

pub returns-then-q-p : goal.returns-then-q-p
returns-then-q-p c =
    came _ _ _ _ _ (row_is _ _ _ _ c.row-q.ensures) c.args.self.now.taken.within (omega arith) c.fork_of.ensures _
    c.if-q-p.true c.leads.ensures
