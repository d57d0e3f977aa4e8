-- `network::classes::lowest_stops` meets its contract. Assumes nothing.
use mathlib.Core.Bool.{false}
use lib.Dec.{eqb}
use lib.ListN.{get_or}
use Rattle.std.proofs.Common.{rules, tests}
use Rattle.network.proofs.Laws.Chains.{made_at}
use Rattle.network.proofs.classes.lowest_stops.Goals as goal

pub returns : goal.returns
returns c stop low =
    made_at _ _ (λ s. eqb (get_or c.args.classes.now s 0) s) 64 (λ i y q l k. search (rules, tests)) c.from_fn.result false stop c.from_fn.ensures.items low
