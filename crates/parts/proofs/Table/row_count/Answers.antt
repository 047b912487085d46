-- `parts::Table::row_count` meets its contract. Assumes nothing.
use Rattle.meaning.specs.TableFile.{rows_of}
use Rattle.parts.proofs.Table.row_count.Goals as goal

pub returns : goal.returns
unfolding rows_of
returns c = c.pair.ensures
