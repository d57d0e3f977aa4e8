-- `search::tries::stands` meets its contract, rule by rule. Assumes nothing.
use mathlib.Core.Path.{refl, sym, ap, ◌∙◌}
use mathlib.Core.Bool.{not}
use Rattle.network.specs.Engine.Rated.{rated, ranked}
use Rattle.search.specs.Engine.Representation.{rule_of}
use Rattle.search.proofs.Laws.Cuts.{stands_above_best, stands_at_least, falls_below_floor, stands_by_sum}
use Rattle.search.proofs.tries.stands.Goals as goal

pub returns-in-AboveBest : goal.returns-in-AboveBest
returns-in-AboveBest c = let best = ranked c.args.best in
    c.is_above.ensures
    ∙ stands_above_best (rated c.args.upper) best
    ∙ ap (λ r. not ((rule_of r).drops (rated c.args.upper) best)) (sym c.in-AboveBest.is)

pub returns-in-AtLeast : goal.returns-in-AtLeast
returns-in-AtLeast c = let best = ranked c.args.best in
    c.reaches.ensures
    ∙ stands_at_least (rated c.args.upper) best refl _
    ∙ ap (λ r. not ((rule_of r).drops (rated c.args.upper) best)) (sym c.in-AtLeast.is)

pub returns-then-reaches : goal.returns-then-reaches
returns-then-reaches c = let best = ranked c.args.best in
    c.sum_is_above.ensures
    ∙ stands_by_sum (rated c.args.upper) best refl _ (sym c.reaches-in-BySum.ensures ∙ c.if-reaches.true)
    ∙ ap (λ r. not ((rule_of r).drops (rated c.args.upper) best)) (sym c.in-BySum.is)

pub returns-else-reaches : goal.returns-else-reaches
returns-else-reaches c = let best = ranked c.args.best in
    c.if-reaches.false
    ∙ falls_below_floor (rated c.args.upper) best refl _ (sym c.reaches-in-BySum.ensures ∙ c.if-reaches.false)
    ∙ ap (λ r. not ((rule_of r).drops (rated c.args.upper) best)) (sym c.in-BySum.is)
