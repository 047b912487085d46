-- `scheduler::key::Key::number_in` meets its contract. Assumes nothing.
use Rattle.scheduler.proofs.SlotLaws.{read_here, read_nothing}
use Rattle.scheduler.proofs.key.Key.number_in.Goals as goal

pub returns-then-slot-self : goal.returns-then-slot-self
returns-then-slot-self c = read_nothing c.args.self.bits c.args.self.small c.args.slot c.if-slot-self.true

pub returns : goal.returns
returns c = read_here c.args.self.bits c.args.self.small c.args.slot c.if-slot-self.false
