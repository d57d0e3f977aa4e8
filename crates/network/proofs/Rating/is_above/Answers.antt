-- `network::Rating::is_above` meets its contract: the derived order is that of the definition, first by the least gap and then by the sum,
-- with none below every rating. Assumes nothing.
use mathlib.Core.Path.{◌≡◌, refl, ◌∙◌}
use native.Mathlib.Omega.{arith}
use Rattle.std.proofs.Common.{Option, None, Some}
use Rattle.std.proofs.lemmas.Bool.Decides.{nat_tests}
use Rattle.std.specs.Ordering.{partial_gt}
use Rattle.std.specs.Option.{option_partial_cmp}
use Rattle.network.specs.contracts.RatingPartialOrd.TheImpl.{partial_cmp-value}
use Rattle.network.specs.declared.Rating as held
use Rattle.network.specs.Rating.{is_above}
use Rattle.network.specs.Engine.Rated.{ranked}
use Rattle.network.proofs.Rating.is_above.Goals as goal

derived : (one other : Option held.Rating) → partial_gt (option_partial_cmp partial_cmp-value.it) one other ≡ is_above (ranked one) (ranked other)
unfolding is_above
derived None None = refl
derived None (Some r) = refl
derived (Some r) None = refl
derived (Some r) (Some q) = grind (arith, nat_tests)

pub returns : goal.returns
returns c = c.gt.ensures ∙ derived c.args.one c.args.other
