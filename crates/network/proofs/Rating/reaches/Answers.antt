-- `network::Rating::reaches` meets its contract: a rating by its least gap, and none. Assumes nothing.
use mathlib.Core.Path.{sym, ap}
use Rattle.std.proofs.Common.{Option}
use Rattle.network.specs.declared.Rating as held
use Rattle.network.specs.Rating.{reaches}
use Rattle.network.specs.Engine.Rated.{ranked}
use Rattle.network.proofs.Rating.reaches.Goals as goal

pub returns-in-Some : goal.returns-in-Some
unfolding reaches
returns-in-Some c = sym (ap (λ (o : Option held.Rating). reaches (ranked o) c.args.wanted) c.in-Some.is)

pub returns-in-None : goal.returns-in-None
unfolding reaches
returns-in-None c = sym (ap (λ (o : Option held.Rating). reaches (ranked o) c.args.wanted) c.in-None.is)
