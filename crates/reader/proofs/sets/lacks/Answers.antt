-- `reader::sets::lacks` meets its contract. Assumes nothing.
use Rattle.parts.specs.Fields.{literals_of}
use Rattle.reader.proofs.SetLaws.{lacks_sides}
use Rattle.reader.proofs.sets.lacks.Goals as goal

pub returns : goal.returns
unfolding literals_of
returns c =
    let a = c.args in
    cc (lacks_sides a.c (literals_of a.l) (literals_of a.m) (literals_of a.k))
