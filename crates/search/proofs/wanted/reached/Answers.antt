-- `search::wanted::reached` meets its contract, by the three cases of a walk at its end. Assumes nothing.
use mathlib.Core.Path.{refl}
use Rattle.search.specs.Wanted.{wanted_answer, reached_by, reached_of}
use Rattle.search.specs.Engine.Representation.{state_by}
use Rattle.search.proofs.Laws.Cuts.{some_is}
use Rattle.search.proofs.wanted.reached.Goals as goal

pub returns-then-is_some : goal.returns-then-is_some
unfolding wanted_answer reached_by reached_of state_by
returns-then-is_some c lines = rw (← some_is c.args.walk.best, ← c.is_some.ensures, c.if-is_some.true) refl

pub returns-then-walk : goal.returns-then-walk
unfolding wanted_answer reached_by reached_of state_by
returns-then-walk c lines = rw (← some_is c.args.walk.best, ← c.is_some.ensures, c.if-is_some.false, c.if-walk.true) refl

pub returns-else-walk : goal.returns-else-walk
unfolding wanted_answer reached_by reached_of state_by
returns-else-walk c lines = rw (← some_is c.args.walk.best, ← c.is_some.ensures, c.if-is_some.false, c.if-walk.false) refl
