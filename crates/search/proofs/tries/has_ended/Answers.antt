-- `search::tries::has_ended` meets its contract: of the three rules only that of request A.3 ends at the first full timetable. Assumes nothing.
use mathlib.Core.Path.{sym, ap, ◌∙◌}
use mathlib.Core.Bool.{◌&&◌}
use Rattle.network.specs.Engine.Rated.{ranked}
use Rattle.search.specs.Engine.Representation.{rule_of}
use Rattle.search.specs.Search.{above_best, by_sum}
use Rattle.search.specs.Wanted.{at_least}
use Rattle.search.proofs.Laws.Cuts.{some_is}
use Rattle.search.proofs.tries.has_ended.Goals as goal

pub returns-in-AboveBest : goal.returns-in-AboveBest
unfolding rule_of above_best at_least by_sum
returns-in-AboveBest c = sym (ap (λ r. (rule_of r).ends_at_first && (ranked c.args.best).some) c.in-AboveBest.is)

pub returns-in-AtLeast : goal.returns-in-AtLeast
unfolding rule_of above_best at_least by_sum
returns-in-AtLeast c = c.is_some.ensures ∙ some_is c.args.best ∙ sym (ap (λ r. (rule_of r).ends_at_first && (ranked c.args.best).some) c.in-AtLeast.is)

pub returns-in-BySum : goal.returns-in-BySum
unfolding rule_of above_best at_least by_sum
returns-in-BySum c = sym (ap (λ r. (rule_of r).ends_at_first && (ranked c.args.best).some) c.in-BySum.is)
