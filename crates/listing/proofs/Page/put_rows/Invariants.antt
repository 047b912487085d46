-- `listing::Page::put_rows` meets its contract. Assumes nothing.
use Prim.Native.Nat.{◌*◌}
use Rattle.parts.specs.Fields.{OfEdition}
use Rattle.listing.specs.Listed.{Adds}
use Rattle.listing.proofs.RowLaws.{lines_below}
use Rattle.listing.proofs.Page.put_rows.Given as goal

abbrev pub invariant-loop-row : goal.invariant-loop-row
invariant-loop-row l =
    OfEdition l.table.edition (λ g. Adds (113 * l.row) l.initial.self (lines_below g l.table.bytes.now l.row) l.self)
