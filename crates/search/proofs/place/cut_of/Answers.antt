-- `search::place::cut_of` meets its contract, rule by rule. Assumes nothing.
use mathlib.Core.Path.{refl}
use Rattle.std.specs.Prelude.{Some, None}
use Rattle.network.specs.Engine.Rated.{ranked}
use Rattle.search.proofs.Laws.Cuts.{above_best_cut, no_best_cut, at_least_cut, by_sum_cut, by_sum_alone_cut}
use Rattle.search.proofs.place.cut_of.Goals as goal

pub returns-in-Some : goal.returns-in-Some
returns-in-Some c least sum = rw (c.in-AboveBest.is, c.in-Some.is) (above_best_cut (ranked (Some c.in-Some.rating)) refl least sum)

pub returns-in-None : goal.returns-in-None
returns-in-None c least sum = rw (c.in-AboveBest.is, c.in-None.is) (no_best_cut (ranked None) refl least sum)

pub returns-in-AtLeast : goal.returns-in-AtLeast
returns-in-AtLeast c least sum = rw c.in-AtLeast.is (at_least_cut (ranked c.args.best) _ least sum)

pub returns-in-Some-best : goal.returns-in-Some-best
returns-in-Some-best c least sum = rw (c.in-BySum.is, c.in-Some-best.is) (by_sum_cut (ranked (Some c.in-Some-best.rating)) _ refl least sum)

pub returns-in-None-best : goal.returns-in-None-best
returns-in-None-best c least sum = rw (c.in-BySum.is, c.in-None-best.is) (by_sum_alone_cut (ranked None) _ refl least sum)
