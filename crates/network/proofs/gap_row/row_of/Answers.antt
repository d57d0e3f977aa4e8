-- `network::gap_row::row_of` meets its contract. Assumes nothing.
use Prim.Native.Nat.{ℕ}
use mathlib.Core.Bool.{Bool, false}
use mathlib.Core.List.{List}
use lib.ListN.{get_or}
use Rattle.std.proofs.Common.{rules, tests}
use Rattle.network.specs.Lists.{pick}
use Rattle.network.specs.GapRow.{no_gap}
use Rattle.network.proofs.Laws.Chains.{made_at}
use Rattle.network.proofs.Laws.Filled.{filled_all}
use Rattle.network.proofs.gap_row.row_of.Goals as goal

-- What the row is to hold for a stop
abbrev entry : List ℕ → List Bool → ℕ → ℕ
entry gaps counts stop = pick (get_or counts stop false) (get_or gaps stop 0) no_gap

pub returns : goal.returns
returns c =
    filled_all (entry c.args.gaps.now c.args.counts.now) 64 c.from_fn.result
    (record {
      row_length = c.from_fn.ensures.items.long;
      filled = λ stop low. made_at _ _ (entry c.args.gaps.now c.args.counts.now) 64 (λ i y q l k. search (rules, tests)) c.from_fn.result 0 stop c.from_fn.ensures.items low;
    })
