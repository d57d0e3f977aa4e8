-- `network::Rating::is_equal` meets its contract: two ratings are equal where both their numbers are, none is equal to none alone.
-- Assumes nothing.
use mathlib.Core.Path.{refl}
use Rattle.network.specs.Rating.{is_equal}
use Rattle.network.proofs.Rating.is_equal.Goals as goal

pub returns-in-Some-Some : goal.returns-in-Some-Some
unfolding is_equal
returns-in-Some-Some c = rw (c.in-Some-Some.is-0, c.in-Some-Some.is-1, c.eq.ensures) refl

pub returns-in-None-None : goal.returns-in-None-None
unfolding is_equal
returns-in-None-None c = rw (c.in-None-None.is-0, c.in-None-None.is-1) refl

pub returns-in_default : goal.returns-in_default
unfolding is_equal
returns-in_default c = rw (c.in_default.is-0, c.in_default.is-1) refl

pub returns-in_default-2 : goal.returns-in_default-2
unfolding is_equal
returns-in_default-2 c = rw (c.in_default.is-0, c.in_default.is-1) refl
