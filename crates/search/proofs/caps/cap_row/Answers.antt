-- `search::caps::cap_row` meets its contract. Assumes nothing.
use Rattle.std.proofs.Common.{rules, tests}
use Rattle.network.specs.Engine.Stored.{net_of}
use Rattle.network.proofs.Laws.Chains.{made_at}
use Rattle.search.specs.Caps.{cap}
use Rattle.search.proofs.caps.cap_row.Goals as goal

pub returns : goal.returns
returns c stop low =
    made_at _ _ (cap (net_of c.args.network.now.rows)) 64 (λ i y q l k. search (rules, tests)) c.from_fn.result 0 stop c.from_fn.ensures.items low
