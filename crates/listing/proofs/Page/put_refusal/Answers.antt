-- `listing::Page::put_refusal` meets its contract. Assumes nothing.
use Rattle.meaning.specs.Listing.{ascii, field, first_line}
use Rattle.listing.proofs.PutLaws.{adds_then, converted}
use Rattle.listing.proofs.Page.put_refusal.Goals as goal

pub returns : goal.returns
unfolding first_line field ascii
returns c =
    adds_then (adds_then (converted (ascii "refused ") c.from.ensures c.put_field.ensures) c.put_field-2.ensures) c.put.ensures
