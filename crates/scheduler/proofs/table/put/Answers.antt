-- `scheduler::table::put` meets its contract. Assumes nothing.
use Prim.Native.Nat.{◌+◌, ◌-◌}
use mathlib.Core.Path.{◌≡◌, ◌∙◌, ap}
use lib.ListN.{take}
use borrow.Rule.Slice.PartMut.{put_mid}
use Rattle.meaning.specs.TableFile.{bytes_of}
use Rattle.meaning.proofs.Bytes.{bytes_length}
use Rattle.scheduler.proofs.WriteLaws.{part-written, bytes-low}
use Rattle.scheduler.proofs.table.put.Goals as goal

pub returns : goal.returns
returns c =
    let a = c.args in
    let bytes : c.copy_from_slice.new.self ≡ bytes_of a.size a.number =
    c.copy_from_slice.ensures.after ∙ ap (take a.size) c.to_le_bytes.ensures ∙ bytes-low a.size a.number c.requires.1 in
    ap (put_mid a.at (a.at + a.size - a.at) a.table.now) bytes
    ∙ part-written a.table.now a.at a.size (bytes_of a.size a.number) (bytes_length a.size a.number)
