-- `search::caps::bounds_of` meets its contract. The loop's invariant: the bounds are those of the calls passed. Assumes nothing.
use mathlib.Core.Path.{◌≡◌}
use Rattle.network.specs.Engine.Scan.{calls_before}
use Rattle.network.specs.Engine.Stored.{net_of, calls_in}
use Rattle.search.specs.Engine.CapScan.{bounds_of}
use Rattle.search.proofs.caps.bounds_of.Given as goal

abbrev pub invariant-loop-i : goal.invariant-loop-i
invariant-loop-i l = l.bounds ≡ bounds_of (net_of l.network.rows) (calls_before l.stop (calls_in l.network.rows.list) l.i)
