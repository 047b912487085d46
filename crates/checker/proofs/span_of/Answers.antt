-- `checker::span_of` meets its contract. Assumes nothing.
use native.Mathlib.Numerals.{add-one}
use native.Mathlib.Omega.{arith}
use mathlib.Core.Path.{refl, sym, ◌∙◌, ap}
use Rattle.meaning.specs.Graph.{byte_at}
use Rattle.meaning.specs.TableFile.{cycles_of}
use Rattle.checker.specs.Checked.{values_of, part_of}
use Rattle.checker.proofs.Parts.{front, at-end, above-none, of-cycle}
use Rattle.checker.proofs.span_of.Goals as goal

pub returns-in_default : goal.returns-in_default
unfolding part_of
returns-in_default c = rw (front _ _ _ c.args.cycle (sym (ap values_of c.in_default.is) ∙ c.check.ensures)) refl

pub returns-then-cycle-accepted : goal.returns-then-cycle-accepted
unfolding part_of
returns-then-cycle-accepted c =
    rw (at-end _ _ _ _ (sym (ap values_of c.in-Ok.is) ∙ c.check.ensures) c.if-cycle-accepted.true) refl

pub overflow_add-cycle : goal.overflow_add-cycle
unfolding cycles_of byte_at
overflow_add-cycle c =
    omega (
      arith,
      above-none c.args.graph.now c.args.table.now _ c.args.cycle
          (sym (ap values_of c.in-Ok.is) ∙ c.check.ensures) c.if-cycle-accepted.false,
      c.type_inv.table 3,
    )

pub returns : goal.returns
unfolding part_of
returns c =
    let of = sym c.edition.ensures.right in
    rw (
      of-cycle _ _ _ _ (sym (ap values_of c.in-Ok.is) ∙ c.check.ensures) c.if-cycle-accepted.false,
      ← c.cycle_start.ensures _ of,
      ← add-one _,
      ← c.cycle_start-2.ensures _ of,
    ) refl
