-- `text::put` meets its contract. What is left of the bytes, laid behind those that are written, makes the whole. Assumes
-- nothing.
use native.Mathlib.Omega.{arith}
use mathlib.Core.Path.{◌≡◌, sym, ◌∙◌, ap}
use Prim.Native.Nat.{◌+◌, ◌<◌}
use lib.ListN.{length, drop, get_or, length-set, drop_of_length-le}
use Rattle.text.specs.Writing.{laid}
use Rattle.text.proofs.WriteLaws.{laid_none, laid-past, laid_turn}
use Rattle.text.proofs.put.Goals as goal

pub returns-then-out-at : goal.returns-then-out-at
returns-then-out-at c = sym (laid-past c.args.out.now c.args.at c.args.bytes.now (omega (arith, c.if-out-at.true)))

pub returns-then-i-room : goal.returns-then-i-room
returns-then-i-room c =
    let l = c.loop-i in
    sym (laid-past l.out (c.args.at + l.i) (drop l.i c.args.bytes.now) (omega (arith, l.invariant.1, c.if-i-room.true))) ∙ l.invariant.2

pub loop-i-preserved : goal.loop-i-preserved
loop-i-preserved c =
    let l = c.loop-i in
    let b = c.args.bytes.now in
    let room : c.args.at + l.i < length l.out = omega (arith, l.invariant.0, l.invariant.1, c.if-i-room.false, c.if-out-at.false) in
    let next : c.args.at + (l.i + 1) ≡ c.args.at + l.i + 1 = omega arith in (
      omega (arith, l.invariant.0, c.if-i-room.false),
      length-set l.out (c.args.at + l.i) (get_or b l.i 0) ∙ l.invariant.1,
      rw next (laid_turn l.out b (c.args.at + l.i) l.i room (omega (arith, c.loop-i-test.true)) ∙ l.invariant.2),
    )

pub returns : goal.returns
returns c =
    let l = c.loop-i in
    let b = c.args.bytes.now in
    sym (laid_none l.out (c.args.at + l.i)) ∙ ap (laid l.out (c.args.at + l.i)) (sym (drop_of_length-le b {i = l.i} (omega (arith, c.loop-i-test.false)))) ∙ l.invariant.2
