-- `reader::sets::misnamed` meets its contract. Assumes nothing.
use Prim.Native.Nat.{◌^◌}
use Rattle.machine.proofs.Sets.{leb-not}
use Rattle.meaning.specs.Graph.{misnamed}
use Rattle.parts.specs.Fields.{literals_of}
use Rattle.reader.proofs.sets.misnamed.Goals as goal

pub returns : goal.returns
unfolding misnamed literals_of
returns c =
    let l = c.args.l in
    let bound = 2 ^ c.args.c in
    cc (leb-not bound l.on_true, leb-not bound l.on_false)
