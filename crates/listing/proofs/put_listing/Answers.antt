-- `listing::put_listing` meets its contract. An empty buffer tells the length. Assumes nothing.
use native.Mathlib.Omega.{arith}
use Rattle.listing.proofs.PutLaws.{listed-room, listed_short}
use Rattle.listing.proofs.put_listing.Goals as goal

pub returns-then-length-out : goal.returns-then-length-out
returns-then-length-out c =
    let measured = c.put_front-length.ensures in
    listed-room (omega (arith, measured.ends)) (omega (arith, c.if-length-out.true)) c.put_front.ensures

pub returns-else-length-out : goal.returns-else-length-out
returns-else-length-out c = listed_short (omega (arith, c.put_front-length.ensures.ends)) (omega (arith, c.if-length-out.false))
