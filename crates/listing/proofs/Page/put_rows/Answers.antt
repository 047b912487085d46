-- `listing::Page::put_rows` meets its contract. Assumes nothing.
use native.Mathlib.Omega.{arith}
use mathlib.Core.Path.{◌≡◌, refl}
use mathlib.Core.List.{[]}
use Rattle.meaning.specs.Graph.{graph_of}
use Rattle.meaning.specs.TableFile.{rows_of, table_in}
use Rattle.meaning.specs.Listing.{row_lines}
use Rattle.listing.proofs.PutLaws.{adds_few}
use Rattle.listing.proofs.RowLaws.{none_put, more_put}
use Rattle.listing.proofs.Page.put_rows.Goals as goal

pub loop-row-init : goal.loop-row-init
loop-row-init c = λ g e. none_put g _ _

-- no row ends far behind the first; any graph of the edition says so
pub put_row-requires : goal.put_row-requires
put_row-requires c =
    let l = c.loop-row in
    omega (
      arith,
      c.row_count-row-end.ensures.small,
      (l.invariant (graph_of c.args.table.now.edition [] [] [] []) refl).put.near,
    )

pub loop-row-preserved : goal.loop-row-preserved
loop-row-preserved c =
    let l = c.loop-row in
    λ g e. more_put g _ l.row _ (l.invariant g e) (c.row.ensures g e) (c.put_row.ensures g)

pub returns : goal.returns
unfolding row_lines table_in
returns c = λ g e.
    let l = c.loop-row in
    let counted = c.row_count-row-end.ensures in
    let all : l.row ≡ rows_of c.args.table.now.bytes.now = omega (arith, counted.right) in
    rw (← all) (adds_few (omega (arith, counted.small)) (l.invariant g e))
