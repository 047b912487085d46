-- The test of sets of literals, side by side. Assumes nothing.
use Prim.Native.Nat.{ℕ}
use mathlib.Core.Path.{◌≡◌, refl, ◌∙◌}
use mathlib.Core.Bool.{not, ◌&&◌, ◌||◌}
use lib.Bits.{bit_or}
use Rattle.machine.specs.Sets.{has, any_below}
use Rattle.machine.proofs.Sets.{any-or, any_same}
use Rattle.masks.proofs.Bits.{has-or}
use Rattle.meaning.specs.Graph.{Literals, lacks}

-- the literals that are missing, side by side
pub lacks_sides : (c : ℕ) (l m k : Literals)
    → (any_below c (λ j. has l.on_true j && not (has (bit_or m.on_true k.on_true) j))
    || any_below c (λ j. has l.on_false j && not (has (bit_or m.on_false k.on_false) j)))
    ≡ lacks c l m k
unfolding lacks
lacks_sides c l m k =
    any-or c (λ j. has l.on_true j && not (has (bit_or m.on_true k.on_true) j)) (λ j. has l.on_false j && not (has (bit_or m.on_false k.on_false) j))
    ∙ any_same c _ _ (λ j h. rw (has-or m.on_true k.on_true j, has-or m.on_false k.on_false j) refl)
