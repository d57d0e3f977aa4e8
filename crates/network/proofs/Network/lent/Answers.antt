-- `network::Network::lent` meets its contract: what is put together is the network's rows in the first edition, since the common cycle that the rows
-- have is that of their periods. Assumes nothing.
use mathlib.Core.Path.{sym}
use native.Mathlib.Omega.{arith}
use lib.Seq.{length-take-le}
use Rattle.network.proofs.Laws.Lent.{lines_le, cycle_lent_le, period_lent, net_of_together, sound_together, valid_together}
use Rattle.network.proofs.Network.lent.Goals as goal

pub slice_bounds-common_cycle-end : goal.slice_bounds-common_cycle-end
slice_bounds-common_cycle-end c =
    sym (length-take-le c.args.lines c.args.periods.now (omega (arith, lines_le c.requires, c.told-periods)))

pub common_cycle-requires : goal.common_cycle-requires
common_cycle-requires c = record { cycle_le = cycle_lent_le c.requires; in_range = period_lent c.requires }

pub invariant_of-result : goal.invariant_of-result
invariant_of-result c =
    let common = c.common_cycle.result in
    let is = c.common_cycle.ensures in
    record { sound = sound_together c.requires common 1 is; valid = valid_together c.requires common 1 is (omega arith) (omega arith) }

pub returns : goal.returns
returns c h = net_of_together h c.common_cycle.result 1 c.common_cycle.ensures
