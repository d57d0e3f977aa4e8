-- `search::layout::Layout::place` meets its contract. The loop's invariant: values and rating are those after the calls passed. Assumes nothing.
use Prim.Native.Nat.{◌-◌, ◌≤◌}
use mathlib.Core.Path.{◌≡◌}
use mathlib.Core.List.{map}
use lib.IntN.{pos}
use Rattle.network.specs.Engine.Stored.{net_of}
use Rattle.search.proofs.Laws.Placing.{Lowering}
use Rattle.search.proofs.layout.Layout.place.Given as goal

abbrev pub invariant-loop-i : goal.invariant-loop-i
invariant-loop-i l = (l.i ≤ l.end)
    × (l.next.starts ≡ l.initial.next.starts)
    × Lowering (net_of l.self.network.now.rows) (map pos l.initial.next.starts) l.next.values l.next.upper.least l.next.upper.sum l.i

abbrev pub decreases-loop-i : goal.decreases-loop-i
decreases-loop-i l = l.end - l.i
