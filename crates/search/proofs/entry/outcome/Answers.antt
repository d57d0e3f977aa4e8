-- `search::entry::outcome` meets its contract, by the cases of a walk at its end. Assumes nothing.
use Prim.Native.Nat.{ℕ}
use mathlib.Core.Path.{◌≡◌, refl}
use Rattle.std.specs.Prelude.{Option, Some, None}
use Rattle.std.specs.Option.{unwrap_or}
use Rattle.network.specs.declared.Rating as held
use Rattle.network.specs.Engine.Rated.{ranked}
use Rattle.search.specs.Search.{finished, search_answer, walk_outcome, outcome_of}
use Rattle.search.specs.Engine.Representation.{state_by}
use Rattle.search.proofs.entry.outcome.Goals as goal

abbrev zero_rating : held.Rating
zero_rating = record { least = 0; sum = 0 }

-- None has the numbers that stand in its place
numbers_of : (best : Option held.Rating) (tries : ℕ)
    → finished (unwrap_or best zero_rating).least (unwrap_or best zero_rating).sum tries ≡ finished (ranked best).least (ranked best).sum tries
numbers_of None tries = refl
numbers_of (Some r) tries = refl

pub returns-in-Some : goal.returns-in-Some
unfolding search_answer walk_outcome outcome_of state_by
returns-in-Some c n = rw (c.if-walk.true, c.in-Some.is) refl

pub returns-in-None : goal.returns-in-None
unfolding search_answer walk_outcome outcome_of state_by
returns-in-None c n = rw (c.if-walk.true, c.in-None.is) refl

pub returns-else-walk : goal.returns-else-walk
unfolding search_answer walk_outcome outcome_of state_by
returns-else-walk c n = rw (c.if-walk.false, c.unwrap_or-best.ensures) (numbers_of c.args.walk.best c.args.walk.tries)
