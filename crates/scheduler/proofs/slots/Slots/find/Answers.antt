-- `scheduler::slots::Slots::find` meets its contract. Assumes nothing.
use Rattle.scheduler.specs.Slots.{state_in}
use Rattle.scheduler.proofs.SlotLaws.{left_all, left-next, found_none, found_last, bits_fit}
use Rattle.scheduler.proofs.slots.Slots.find.Goals as goal

pub loop-slot-init : goal.loop-slot-init
loop-slot-init c =
    let a = c.args.self.now in
    rw (c.into_iter-slot-iterator.ensures.into_iter_gives, c.rev-slot-items.ensures.source, c.iter.ensures.rest)
    (left_all a.slots.now a.used (state_in c.args.key.bits) a.in_order.within)

pub returns-in-Some-number_in : goal.returns-in-Some-number_in
returns-in-Some-number_in c =
    let a = c.args.self.now in
    let k = c.args.key in
    found_last a.slots.now a.used a.in_order (state_in k.bits) (bits_fit k.bits k.small) c.loop-slot.slot-iterator.iter.rest.now
    c.next.new.self.iter.rest.now c.in-Some.slot.now c.in-Some-number_in.number c.in-Some.ensures.steps c.loop-slot.invariant
    c.in-Some-number_in.ensures

pub loop-slot-preserved : goal.loop-slot-preserved
loop-slot-preserved c =
    let a = c.args.self.now in
    left-next a.slots.now a.used (state_in c.args.key.bits) c.loop-slot.slot-iterator.iter.rest.now
    c.next.new.self.iter.rest.now c.in-Some.slot.now c.in-Some.ensures.steps c.loop-slot.invariant
    c.in_default.ensures

pub returns : goal.returns
returns c =
    let a = c.args.self.now in
    let k = c.args.key in
    found_none a.slots.now a.used a.in_order (state_in k.bits) (bits_fit k.bits k.small) c.loop-slot.slot-iterator.iter.rest.now
    c.in-None.ensures.steps.0 c.loop-slot.invariant
