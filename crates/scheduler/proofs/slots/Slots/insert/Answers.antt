-- `scheduler::slots::Slots::insert` meets its contract. Assumes nothing.
use Prim.Native.Nat.{ℕ, ◌+◌, ◌<◌}
use native.Mathlib.Omega.{arith}
use mathlib.Core.Path.{refl, sym, subst}
use lib.ListN.{length, set}
use Rattle.scheduler.specs.Slots.{state_in, InOrder, Added}
use Rattle.scheduler.proofs.SlotLaws.{bits_fit, inserted-order, inserted}
use Rattle.scheduler.proofs.slots.Slots.insert.Goals as goal

pub invariant_of-self : goal.invariant_of-self
invariant_of-self c =
    let a = c.args.self.now in
    let k = c.args.key in
    let r = c.requires in
    let room : a.used < length a.slots.now = omega (arith, a.in_order.within, c.if-self.false) in
    record {
      in_order = subst (λ (x : ℕ). InOrder (set a.slots.now a.used x) (a.used + 1)) (sym c.slot.ensures)
          (inserted-order a.slots.now a.used a.in_order (state_in k.bits) (bits_fit k.bits k.small) c.args.number r.number_bound room r.finds);
    }

pub returns : goal.returns
returns c =
    let a = c.args.self.now in
    let k = c.args.key in
    let r = c.requires in
    let room : a.used < length a.slots.now = omega (arith, a.in_order.within, c.if-self.false) in (
      subst (λ (x : ℕ). Added a.slots.now (set a.slots.now a.used x) (state_in k.bits) c.args.number) (sym c.slot.ensures)
          (inserted a.slots.now a.used a.in_order (state_in k.bits) (bits_fit k.bits k.small) c.args.number r.number_bound room r.finds),
      refl,
    )
