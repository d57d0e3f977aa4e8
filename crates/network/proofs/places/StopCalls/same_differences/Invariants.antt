-- `network::places::StopCalls::same_differences` meets its contract. The loop's invariant: every place passed differs by the same remainder. Assumes
-- nothing.
use mathlib.Core.Path.{◌≡◌}
use mathlib.Core.Bool.{true}
use Rattle.network.specs.Lists.{all_below}
use Rattle.network.specs.Classes.{same_remainder}
use Rattle.network.specs.Engine.Stored.{net_of}
use Rattle.network.proofs.places.StopCalls.same_differences.Given as goal

abbrev pub invariant-loop-before : goal.invariant-loop-before
invariant-loop-before l = all_below (same_remainder (net_of l.self.network.now.rows) l.first l.second l.place) l.before ≡ true
