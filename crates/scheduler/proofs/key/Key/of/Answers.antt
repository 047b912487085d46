-- `scheduler::key::Key::of` meets its contract. Assumes nothing.
use native.Mathlib.Omega.{arith}
use Rattle.parts.specs.Fields.{state_of}
use Rattle.scheduler.proofs.SlotLaws.{key_made, key-small}
use Rattle.scheduler.proofs.key.Key.of.Goals as goal

pub invariant_of-result : goal.invariant_of-result
invariant_of-result c =
    record {
      small = rw (c.from.ensures, c.from-2.ensures)
          (key-small (state_of c.args.s) (record { done = omega arith; values = c.requires }));
    }

pub returns : goal.returns
returns c =
    rw (c.from.ensures, c.from-2.ensures)
    (key_made (state_of c.args.s) (record { done = omega arith; values = c.requires }))
