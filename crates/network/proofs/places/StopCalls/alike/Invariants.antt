-- `network::places::StopCalls::alike` meets its contract. The loop's invariant: every place passed differs from those before it by the same remainders.
-- Assumes nothing.
use mathlib.Core.Path.{◌≡◌}
use mathlib.Core.Bool.{true}
use Rattle.network.specs.Lists.{all_below}
use Rattle.network.specs.Classes.{same_remainder}
use Rattle.network.specs.Engine.Stored.{net_of}
use Rattle.network.proofs.places.StopCalls.alike.Given as goal

abbrev pub invariant-loop-place : goal.invariant-loop-place
invariant-loop-place l = all_below (λ j. all_below (same_remainder (net_of l.self.network.now.rows) l.first l.second j) j) l.place ≡ true
