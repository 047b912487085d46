-- `scheduler::slots::Slots::find` meets its contract. Assumes nothing.
use Rattle.scheduler.specs.Slots.{state_in}
use Rattle.scheduler.proofs.SlotLaws.{Left}
use Rattle.scheduler.proofs.slots.Slots.find.Given as goal

abbrev pub invariant-loop-slot : goal.invariant-loop-slot
invariant-loop-slot l = Left l.self.slots.now l.self.used (state_in l.key.bits) l.slot-iterator.iter.rest.now
