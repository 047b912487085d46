-- `scheduler::rows::Settled::number_of` meets its contract. Assumes nothing.
use Prim.Native.Nat.{ℕ}
use mathlib.Core.Path.{refl, subst}
use mathlib.Core.List.{List}
use Rattle.std.specs.Prelude.{Option, Some, None, IsSome}
use Rattle.meaning.specs.Steps.{State}
use Rattle.parts.specs.Fields.{state_of}
use Rattle.scheduler.specs.Slots.{Finds}
use Rattle.scheduler.specs.Search.{Held}
use Rattle.scheduler.proofs.rows.Settled.number_of.Goals as goal

-- a state that is held is found
found : (slots : List ℕ) (s : State) (r : Option ℕ) → Held slots s → Finds slots s r → IsSome r
found slots s (Some number) h f = refl
found slots s None h f = absurd (f h.0 h.1)

pub unwrap-requires : goal.unwrap-requires
unwrap-requires c =
    let slots = c.args.self.now.slots.now.slots.now in
    found slots (state_of c.args.s) c.find.result c.requires.held (subst (λ (s : State). Finds slots s c.find.result) c.of.ensures c.find.ensures)
