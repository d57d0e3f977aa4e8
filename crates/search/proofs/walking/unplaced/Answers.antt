-- `search::walking::unplaced` meets its contract: with no line placed each stop's upper value is its cap, and the rows of caps and of served
-- stops give the upper rating. Assumes nothing.
use Prim.Native.Nat.{ℕ, ◌<◌}
use mathlib.Core.Path.{◌≡◌, ◌∙◌}
use native.Mathlib.Omega.{arith}
use lib.ListN.{get_or, replicate, get_or-replicate}
use Rattle.network.specs.Engine.Stored.{net_of}
use Rattle.search.specs.Caps.{cap}
use Rattle.search.proofs.Laws.CapScan.{cap_le}
use Rattle.search.proofs.Laws.WalkOnFile.{caps_rating, unplaced_represents}
use Rattle.search.proofs.walking.unplaced.Goals as goal
use Rattle.search.proofs.walking.unplaced.Goals.{After-widened-wide}

ones_are : (stop : ℕ) → stop < 64 → ◌≡◌ {A = ℕ} (get_or (replicate 64 1) stop 0) 1
ones_are stop h = get_or-replicate 64 stop 1 0 h

-- The row as numbers of a rating holds the caps
wide_is : (c : After-widened-wide) (stop : ℕ) → stop < 64 → get_or c.widened-wide.result stop 0 ≡ cap (net_of c.args.network.now.rows) stop
wide_is c stop h = c.widened-wide.ensures stop h ∙ c.cap_row-caps.ensures stop h

pub cap_row-caps-requires : goal.cap_row-caps-requires
cap_row-caps-requires c = c.served_stops-served.ensures

pub rating_over-requires : goal.rating_over-requires
rating_over-requires c stop h k = (omega (arith, wide_is (goal.at.rating_over-requires c).After-widened-wide stop h, cap_le (net_of c.args.network.now.rows) c.args.network.now.valid stop), omega (arith, ones_are stop h))

pub returns : goal.returns
returns c =
    let n = c.args.network.now in
    let caps = c.cap_row-caps in
    let served = c.served_stops-served in
    unplaced_represents (net_of n.rows) n.valid caps.result c.rating_over.result caps.type_inv.1.0.1 caps.ensures
    (c.rating_over.ensures
    ∙ caps_rating (net_of n.rows) n.valid c.widened-wide.result served.result (replicate 64 1) (wide_is (goal.at.returns c).After-widened-wide) served.ensures ones_are)
