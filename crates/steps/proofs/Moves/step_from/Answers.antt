-- `steps::Moves::step_from` meets its contract. The loop's invariant: raised at any bit outside `free` the number is not allowed.
-- Assumes nothing.
use Prim.Native.Nat.{◌-◌, ◌^◌, ◌<◌}
use native.Mathlib.Nat.{lt_of_lt_of_le, le_of_lt}
use native.Mathlib.Omega.{arith}
use mathlib.Core.Path.{sym, ◌∙◌}
use lib.Bits.{bit_and, and_le_l}
use Rattle.machine.proofs.Truth.{of_true, of_false}
use Rattle.steps.specs.Moves.{allows, step_from}
use Rattle.steps.proofs.Above.{Next, search_start, search_turn, search_less, search_end, search_found, lowest_member, from_here, from_past, from_next, from_none}
use Rattle.steps.proofs.Fewer.{allows-below, allows-closed, allows-ready, next_some, next_none}
use Rattle.steps.proofs.Moves.step_from.Goals as goal

pub returns-then-allows : goal.returns-then-allows
unfolding step_from
returns-then-allows c =
    let a = c.args in
    let t = of_true (sym c.allows.ensures ∙ c.if-allows.true) in
    let below = allows-below a.self.now a.from t in
    next_some a.self.now a.from a.from (from_here a.self.now.steps (allows a.self.now) a.from t below) below

pub returns-then-self-from : goal.returns-then-self-from
unfolding step_from
returns-then-self-from c =
    let a = c.args in
    next_none a.self.now a.from (from_past a.self.now.steps (allows a.self.now) a.from (omega arith))

pub loop-free-init : goal.loop-free-init
loop-free-init c =
    let a = c.args in
    let ready = bit_and (bit_and a.self.now.undone (2 ^ 32 - 1 - a.self.now.held)) (2 ^ 32 - 1 - a.self.now.excluded) in
    let u : ready < 2 ^ 32 = omega (
      arith,
      and_le_l a.self.now.undone (2 ^ 32 - 1 - a.self.now.held),
      and_le_l (bit_and a.self.now.undone (2 ^ 32 - 1 - a.self.now.held)) (2 ^ 32 - 1 - a.self.now.excluded),
    ) in
    let h : a.self.now.held < 2 ^ 32 = omega arith in
    let x : a.self.now.excluded < 2 ^ 32 = omega arith in
    search_start 32 (allows a.self.now) a.self.now.demanded a.from ready u c.ranges.from.fits (allows-ready a.self.now h x a.from)

pub raised-next-requires : goal.raised-next-requires
raised-next-requires c =
    (lowest_member 32 c.loop-free.free c.loop-free.invariant.small (omega arith) c.lowest-j.result c.lowest-j.ensures).below

pub returns-then-allows-2 : goal.returns-then-allows-2
unfolding step_from
returns-then-allows-2 c =
    let a = c.args in
    let l = c.loop-free in
    let r = c.raised-next in
    let d : a.self.now.demanded < 2 ^ 32 = omega arith in
    let next : Next (2 ^ 32) (allows a.self.now) a.from r.result =
    search_found 32 (allows a.self.now) a.self.now.demanded (allows-closed a.self.now d) a.from l.free c.lowest-j.result r.result
    c.allows-in-loop-free.result l.invariant (omega arith) c.lowest-j.ensures r.ensures c.allows-in-loop-free.ensures c.if-allows-2.true r.type_inv in
    let below = allows-below a.self.now r.result next.holds in
    next_some a.self.now a.from r.result
    (from_next a.self.now.steps (allows a.self.now) a.from (2 ^ 32) r.result (of_false (sym c.allows.ensures ∙ c.if-allows.false)) next below)
    below

pub overflow_shl-free : goal.overflow_shl-free
overflow_shl-free c =
    (lowest_member 32 c.loop-free.free c.loop-free.invariant.small (omega arith) c.lowest-j.result c.lowest-j.ensures).below

pub loop-free-smaller : goal.loop-free-smaller
loop-free-smaller c =
    let a = c.args in
    let l = c.loop-free in
    search_less 32 (allows a.self.now) a.self.now.demanded a.from l.free c.lowest-j.result l.invariant.small (omega arith) c.lowest-j.ensures

pub loop-free-preserved : goal.loop-free-preserved
loop-free-preserved c =
    let a = c.args in
    let l = c.loop-free in
    let r = c.raised-next in
    search_turn 32 (allows a.self.now) a.self.now.demanded a.from l.free c.lowest-j.result l.invariant.small (omega arith) c.lowest-j.ensures
    r.result c.allows-in-loop-free.result r.ensures c.allows-in-loop-free.ensures c.if-allows-2.false l.invariant

pub returns : goal.returns
unfolding step_from
returns c =
    let a = c.args in
    let l = c.loop-free in
    let d : a.self.now.demanded < 2 ^ 32 = omega arith in
    let b : a.self.now.steps < 2 ^ 32 = omega arith in
    let none = search_end 32 (allows a.self.now) a.self.now.demanded (allows-closed a.self.now d) a.from l.free l.invariant (omega arith) in
    next_none a.self.now a.from
    (from_none a.self.now.steps (allows a.self.now) a.from (of_false (sym c.allows.ensures ∙ c.if-allows.false))
    (λ z h k. none z h (lt_of_lt_of_le k (le_of_lt b))))
