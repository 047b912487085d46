-- `reader::content::unordered` meets its contract. Assumes nothing.
use Rattle.std.proofs.Common.{rules}
use mathlib.Core.Path.{◌≡◌, refl}
use mathlib.Core.Bool.{◌&&◌, ◌||◌}
use lib.Dec.{eqb, ltb}
use native.Mathlib.Omega.{arith}
use borrow.Author.Tests.{lt-ltb}
use Rattle.meaning.specs.Graph.{unordered}
use Rattle.reader.proofs.content.unordered.Goals as goal

pub returns-then-a-eq0 : goal.returns-then-a-eq0
unfolding unordered
returns-then-a-eq0 c = rw c.if-a-eq0.true refl

pub returns : goal.returns
unfolding unordered
returns c =
    let own = c.arc-own.result in
    let last = c.arc-last.result in
    let above : c.lt.result ≡ (ltb last.target own.target || (eqb last.target own.target && ltb last.source own.source)) = search rules in
    rw (
      lt-ltb 0 c.args.a (omega (arith, c.if-a-eq0.false)),
      ← c.arc-own.ensures.target,
      ← c.arc-own.ensures.source,
      ← c.arc-last.ensures.target,
      ← c.arc-last.ensures.source,
      above,
    ) refl
