-- `scheduler::table::put_row` meets its contract. Assumes nothing.
use Prim.Native.Nat.{ℕ, suc, ◌+◌, ◌*◌, ◌≤◌}
use native.Mathlib.Omega.{arith}
use mathlib.Core.Path.{◌≡◌, sym, ◌∙◌, ap}
use Rattle.meaning.specs.TableFile.{row_start, mask_bytes, row_bytes, row_file}
use Rattle.meaning.proofs.TableFile.{row_next}
use Rattle.parts.specs.Fields.{row_of}
use Rattle.scheduler.specs.Writing.{written}
use Rattle.scheduler.proofs.WriteLaws.{row_written}
use Rattle.scheduler.proofs.table.put_row.Goals as goal

-- the buffer has room for the row
room : (edition rows at size count : ℕ) → row_start edition (suc (suc rows)) ≤ count → at ≡ row_start edition (suc rows)
    → size ≡ mask_bytes edition → at + (2 + 2 * size) ≤ count
unfolding row_bytes
room edition rows at size count h a s = omega (arith, row_next edition rows)

pub returns : goal.returns
unfolding row_bytes row_of
returns c = λ g e.
    let a = c.args in
    let at = c.row_start-at.result in
    let size : c.mask_bytes-size.result ≡ mask_bytes g.edition = c.mask_bytes-size.ensures ∙ ap mask_bytes (sym e) in
    let h = room _ a.rows at _ _ c.requires.rows_in_bounds c.row_start-at.ensures.right c.mask_bytes-size.ensures in
    row_written g (row_of g a.row) a.table.now c.put.new.table c.put-2.new.table
    c.put-3.new.table c.put-4.new.table at (omega (arith, size, h)) c.requires.cycle_bound.0 c.requires.cycle_bound.1
    c.put.ensures c.put-2.ensures (rw size at c.put-3.ensures) (rw size at c.put-4.ensures)
    ∙ ap (λ (k : ℕ). written a.table.now k (row_file g (row_of g a.row))) c.row_start-at.ensures.right
