-- `steps::standing::empty_classes` meets its contract. The loop's invariant: the classes before k have their limits. Assumes nothing.
use native.Mathlib.Omega.{arith}
use mathlib.Core.Path.{◌≡◌, refl, ◌∙◌, ap}
use mathlib.Core.List.{List}
use lib.ListN.{set, get_or-eq_default}
use Rattle.steps.specs.declared.Class.{Class}
use Rattle.parts.specs.Fields.{graph_in}
use Rattle.meaning.specs.Graph.{byte_at, limit}
use Rattle.steps.proofs.Eights.{only_limit, limits_turn, limits_all}
use Rattle.steps.proofs.standing.empty_classes.Goals as goal

pub loop-k-init : goal.loop-k-init
loop-k-init c = refl

pub loop-k-preserved : goal.loop-k-preserved
loop-k-preserved c =
    let g = graph_in c.args.graph.now in
    let l = c.loop-k in
    let own : c.limit.result ≡ limit g l.k = c.limit.ensures ∙ ap (limit g) (omega arith) in
    rw own
    (ap (λ (m : List Class). set m l.k (only_limit (limit g l.k))) l.invariant ∙ limits_turn g l.k (omega arith))

pub returns : goal.returns
unfolding limit byte_at
returns c =
    let g = graph_in c.args.graph.now in
    c.loop-k.invariant ∙ limits_all g c.loop-k.k (λ k h b. get_or-eq_default g.limits 0 (omega arith))
