-- `checker::rows::misshapen` meets its contract. Assumes nothing.
use Rattle.meaning.specs.TableFile.{layout_line}
use Rattle.meaning.proofs.TableFile.{row_first}
use Rattle.checker.proofs.rows.misshapen.Goals as goal

pub returns : goal.returns
unfolding layout_line
returns c = cc (row_first c.args.table.now.edition)
