-- `scheduler::key::Key::slot` meets its contract. Assumes nothing.
use Rattle.scheduler.proofs.SlotLaws.{slot_made}
use Rattle.scheduler.proofs.key.Key.slot.Goals as goal

pub returns : goal.returns
returns c = rw c.from.ensures (slot_made c.args.self.bits c.args.self.small c.args.number c.requires)
