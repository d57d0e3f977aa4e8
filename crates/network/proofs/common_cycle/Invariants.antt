-- `network::common_cycle` meets its contract. The loop's invariant: the cycle is that of the periods passed. Assumes nothing.
use mathlib.Core.Path.{◌≡◌}
use lib.ListN.{take}
use Rattle.network.specs.Divisor.{common_cycle}
use Rattle.network.proofs.common_cycle.Given as goal

abbrev pub invariant-loop-period : goal.invariant-loop-period
invariant-loop-period l = l.cycle ≡ common_cycle (take l.period-index l.periods)
