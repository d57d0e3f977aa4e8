-- `network::Rating::sum_is_above` meets its contract: two ratings by their sums, a rating beside none, and none. Assumes nothing.
use mathlib.Core.Path.{sym, ap, ap₂}
use Rattle.std.proofs.Common.{Option}
use Rattle.network.specs.declared.Rating as held
use Rattle.network.specs.Rating.{is_sum_above}
use Rattle.network.specs.Engine.Rated.{ranked}
use Rattle.network.proofs.Rating.sum_is_above.Goals as goal

pub returns-in-Some-Some : goal.returns-in-Some-Some
unfolding is_sum_above
returns-in-Some-Some c = sym (ap₂ (λ (a b : Option held.Rating). is_sum_above (ranked a) (ranked b)) c.in-Some-Some.is-0 c.in-Some-Some.is-1)

pub returns-in-Some-None : goal.returns-in-Some-None
unfolding is_sum_above
returns-in-Some-None c = sym (ap₂ (λ (a b : Option held.Rating). is_sum_above (ranked a) (ranked b)) c.in-Some-None.is-0 c.in-Some-None.is-1)

pub returns-in-None-default : goal.returns-in-None-default
unfolding is_sum_above
returns-in-None-default c = sym (ap (λ (a : Option held.Rating). is_sum_above (ranked a) (ranked c.args.other)) c.in-None-default.is-0)
