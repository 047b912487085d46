-- `listing::Page::put_field` meets its contract. Assumes nothing.
use native.Mathlib.Omega.{arith}
use Rattle.listing.proofs.PutLaws.{put_then, adds_few}
use Rattle.listing.proofs.Page.put_field.Goals as goal

pub returns : goal.returns
returns c =
    record {
      same = c.put.ensures.same;
      put =
          put_then {most = 8} {more = 20} (adds_few c.requires.1 c.put.ensures).put
          (record {
            writes = c.put_decimal.ensures.out_after;
            ends = omega (arith, c.put_decimal.ensures.counted.right);
            near = omega (arith, c.put_decimal.ensures.counted.few);
          });
    }
