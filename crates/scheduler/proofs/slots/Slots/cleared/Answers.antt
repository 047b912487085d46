-- `scheduler::slots::Slots::cleared` meets its contract. Assumes nothing.
use mathlib.Core.Path.{sym, subst}
use mathlib.Core.List.{List}
use Prim.Native.Nat.{ℕ}
use lib.ListN.{length}
use Rattle.scheduler.specs.Slots.{InOrder}
use Rattle.scheduler.proofs.SlotLaws.{cleared}
use Rattle.scheduler.proofs.slots.Slots.cleared.Goals as goal

pub invariant_of-result : goal.invariant_of-result
invariant_of-result c =
    record {
      in_order = subst (λ (s : List ℕ). InOrder s 0) (sym (c.fill.ensures.after (λ y e. e))) (cleared (length c.args.slots.now));
    }
