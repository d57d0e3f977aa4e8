-- `search::caps::least_pair_cap` meets its contract. The loop's invariant: `lesser` is the least of `least` and what the pairs with the calls passed give.
-- Assumes nothing.
use Prim.Native.Nat.{ℕ}
use mathlib.Core.Path.{◌≡◌}
use mathlib.Core.List.{map}
use Rattle.network.specs.declared.Call.{Call}
use Rattle.network.specs.declared.Rows.{Rows}
use Rattle.network.specs.Lists.{least_from}
use Rattle.network.specs.Engine.Scan.{calls_before}
use Rattle.network.specs.Engine.Stored.{net_of, calls_in}
use Rattle.search.specs.Caps.{pair_cap}
use Rattle.search.proofs.caps.least_pair_cap.Given as goal

abbrev pub least_to : Rows → Call → ℕ → ℕ → ℕ
least_to rows call least i = least_from least (map (λ d. pair_cap (net_of rows) d call) (calls_before call.stop (calls_in rows.list) i))

abbrev pub invariant-loop-code : goal.invariant-loop-code
invariant-loop-code l = l.lesser ≡ least_to l.network.rows l.call l.least l.code-index
