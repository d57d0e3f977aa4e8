-- `search::walking::walked` meets its contract: no line is placed, and the tries of the first line by the rule are the walk. Assumes nothing.
use native.Mathlib.Omega.{arith}
use lib.ListN.{replicate}
use Rattle.network.specs.Engine.Stored.{net_of}
use Rattle.search.specs.Engine.Representation.{rule_of}
use Rattle.search.proofs.Laws.WalkOnFile.{walked_by_tries}
use Rattle.search.proofs.walking.walked.Goals as goal

pub try_starts-requires : goal.try_starts-requires
try_starts-requires c =
    let n = c.args.network.now in
    rw c.lay_out-layout.ensures (record {
      may_try = record { stated = n.valid.some_line; before = c.unplaced-placed.ensures };
      count_bound = (omega arith, omega arith);
    })

pub returns : goal.returns
returns c =
    let n = c.args.network.now in
    walked_by_tries (net_of n.rows) n.valid (rule_of c.args.rule) c.args.budget (replicate 16 0) c.try_starts.result
    (rw c.lay_out-layout.ensures at c.try_starts.ensures.tried)
