-- `search::layout::Layout::lowered` meets its contract. The loop's invariant: the least of `least` and the gaps to the calls up to `from` is that of
-- `value` and the gaps to all before. Assumes nothing.
use Prim.Native.Nat.{ℕ, ◌-◌, ◌<◌, ◌≤◌}
use mathlib.Core.Path.{◌≡◌}
use mathlib.Core.List.{List, map}
use lib.IntN.{pos}
use lib.ListN.{get_or}
use Rattle.network.specs.declared.Call.{Call}
use Rattle.network.specs.Network.{Net}
use Rattle.network.specs.Rating.{gap_of_calls}
use Rattle.network.specs.Lists.{least_from}
use Rattle.network.specs.Engine.Scan.{calls_before}
use Rattle.network.specs.Engine.Stored.{net_of}
use Rattle.network.specs.Valid.{no_call}
use Rattle.search.specs.Engine.Representation.{calls_by_line}
use Rattle.search.proofs.layout.Layout.lowered.Given as goal

-- the gap from an earlier call to the one at a place
abbrev pub to : Net → List ℕ → ℕ → Call → ℕ
to n starts at d = gap_of_calls n (map pos starts) d (get_or (calls_by_line n) at no_call)

pub record Lowers (n : Net) (starts : List ℕ) (at value from least : ℕ) : Type 0 where
  pub from_le : from ≤ at
  pub least_le : least ≤ value
  pub landed : 0 < from → (get_or (calls_by_line n) (from - 1) no_call).stop ≡ (get_or (calls_by_line n) at no_call).stop
  pub lowers :
      least_from least (map (to n starts at) (calls_before (get_or (calls_by_line n) at no_call).stop (calls_by_line n) from))
      ≡ least_from value (map (to n starts at) (calls_before (get_or (calls_by_line n) at no_call).stop (calls_by_line n) at))

abbrev pub invariant-loop-from : goal.invariant-loop-from
invariant-loop-from l = Lowers (net_of l.self.network.now.rows) l.starts l.at l.value l.from l.least

abbrev pub decreases-loop-from : goal.decreases-loop-from
decreases-loop-from l = l.from
