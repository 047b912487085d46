-- `listing::Page::put_row` meets its contract. Assumes nothing.
use Rattle.meaning.specs.Listing.{ascii, field, row_line}
use Rattle.parts.specs.Fields.{row_of}
use Rattle.listing.proofs.PutLaws.{adds_then, converted}
use Rattle.listing.proofs.Page.put_row.Goals as goal

pub returns : goal.returns
unfolding row_line row_of field ascii
returns c = λ g.
    let cycle = converted (ascii "") c.from.ensures c.put_field.ensures in
    let values = converted (ascii " ") c.from-2.ensures c.put_field-2.ensures in
    let done = converted (ascii " ") c.from-3.ensures c.put_field-3.ensures in
    let step = converted (ascii " ") c.from-4.ensures c.put_field-4.ensures in
    adds_then (adds_then (adds_then (adds_then cycle values) done) step) c.put.ensures
