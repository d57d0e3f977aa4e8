-- `network::ratings::rating_over` meets its contract. The loop's invariant: the rating is that of the stops passed, and its sum is small.
-- Assumes nothing.
use Prim.Native.Nat.{◌*◌, ◌-◌, ◌≤◌}
use mathlib.Core.Path.{◌≡◌}
use lib.ListN.{get_or}
use Rattle.network.specs.Engine.Scan.{rating_so_far}
use Rattle.network.specs.Engine.Rated.{ranked}
use Rattle.network.proofs.Laws.Scan.{counted_below}
use Rattle.network.proofs.ratings.rating_over.Given as goal

abbrev pub invariant-loop-stop : goal.invariant-loop-stop
invariant-loop-stop l = (l.stop ≤ 64)
    × (ranked l.rating ≡ rating_so_far (λ s. get_or l.gaps s 0) (counted_below l.counts l.weights l.stop))
    × ((ranked l.rating).sum ≤ l.stop * 2880000)

abbrev pub decreases-loop-stop : goal.decreases-loop-stop
decreases-loop-stop l = 64 - l.stop
