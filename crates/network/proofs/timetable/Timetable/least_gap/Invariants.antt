-- `network::timetable::Timetable::least_gap` meets its contract. The loop's invariant: the least of `lesser` and the gaps to the calls up to `from` is
-- that of `least` and the gaps to all. Assumes nothing.
use Prim.Native.Nat.{ℕ, ◌-◌, ◌<◌, ◌≤◌}
use mathlib.Core.Path.{◌≡◌}
use mathlib.Core.List.{List, map}
use lib.IntN.{ℤ}
use lib.ListN.{get_or}
use Rattle.network.specs.declared.Call.{Call}
use Rattle.network.specs.declared.Rows.{Rows}
use Rattle.network.specs.Lists.{least_from}
use Rattle.network.specs.Rating.{gap_of_calls}
use Rattle.network.specs.Engine.Scan.{calls_before}
use Rattle.network.specs.Engine.Stored.{net_of, calls_in}
use Rattle.network.specs.Valid.{no_call}
use Rattle.network.proofs.timetable.Timetable.least_gap.Given as goal

-- the gap from an earlier call to this one
abbrev pub to : Rows → List ℤ → Call → Call → ℕ
to n sheet call d = gap_of_calls (net_of n) sheet d call

-- What holds on the way back: the place reached is a call at this stop, and what is left makes the whole
pub record OnTheWay (n : Rows) (sheet : List ℤ) (call : Call) (next least lesser from : ℕ) : Type 0 where
  pub within : from ≤ next
  pub lands : 0 < from → (get_or (calls_in n.list) (from - 1) no_call).stop ≡ call.stop
  pub whole :
      least_from lesser (map (to n sheet call) (calls_before call.stop (calls_in n.list) from))
      ≡ least_from least (map (to n sheet call) (calls_before call.stop (calls_in n.list) next))

abbrev pub invariant-loop-from : goal.invariant-loop-from
invariant-loop-from l = OnTheWay l.self.network.now.rows l.self.starts.now l.call l.next l.least l.lesser l.from

abbrev pub decreases-loop-from : goal.decreases-loop-from
decreases-loop-from l = l.from
