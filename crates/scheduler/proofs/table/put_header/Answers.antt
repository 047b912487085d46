-- `scheduler::table::put_header` meets its contract. Assumes nothing.
use Prim.Native.Nat.{ℕ}
use mathlib.Core.Path.{◌∙◌, ap}
use Rattle.meaning.specs.TableFile.{row_start, bytes_of}
use Rattle.scheduler.specs.Writing.{written}
use Rattle.scheduler.proofs.WriteLaws.{header-written}
use Rattle.scheduler.proofs.table.put_header.Goals as goal

pub returns : goal.returns
unfolding row_start
returns c =
    let a = c.args in
    header-written a.table.now c.put.new.table c.put-2.new.table c.put-3.new.table c.put-4.new.table c.put-5.new.table
    a.edition a.cycles a.rows c.requires.edition_in_bounds c.requires.edition_bound.0 c.requires.edition_bound.1
    c.put.ensures c.put-2.ensures c.put-3.ensures c.put-4.ensures
    (c.put-5.ensures ∙ ap (λ (k : ℕ). written c.put-4.new.table 6 (bytes_of 2 k)) c.row_start.ensures.right)
