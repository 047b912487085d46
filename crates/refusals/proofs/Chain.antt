-- What `?` makes of the lines of a refusal table: the first that refuses decides. Assumes nothing.
use mathlib.Core.Path.{◌≡◌, refl, ◌∙◌, ap}
use mathlib.Core.List.{List, [], ◌∷◌}
use Rattle.machine.specs.Refusals.{Line, Verdict, taken, refused, judge}
use Rattle.machine.proofs.Refusals.{otherwise, judge-append}

-- the lines of a table in turn: each counts where those before it pass
unfoldable pub in_turn : List Line → Verdict
in_turn [] = taken
in_turn (l ∷ ls) = otherwise (judge (l ∷ [])) (in_turn ls)

pub judge-in_turn : (ls : List Line) → judge ls ≡ in_turn ls
unfolding in_turn judge
judge-in_turn [] = refl
judge-in_turn (l ∷ ls) = judge-append (l ∷ []) ls ∙ ap (otherwise (judge (l ∷ []))) (judge-in_turn ls)

pub otherwise_taken : (v : Verdict) → otherwise v taken ≡ v
unfolding otherwise
otherwise_taken taken = refl
otherwise_taken (refused k p) = refl
