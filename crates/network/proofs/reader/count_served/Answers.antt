-- `network::reader::count_served` meets its contract. Assumes nothing.
use Prim.Native.Nat.{ℕ}
use mathlib.Core.Path.{◌∙◌}
use mathlib.Core.Bool.{Bool, false, cond}
use native.Mathlib.Omega.{arith}
use Rattle.std.proofs.Common.{rules, tests}
use Rattle.std.proofs.lemmas.List.Sums.{count_by-le-length}
use Rattle.std.proofs.lemmas.Iterator.{YieldsList-from_slice, YieldsList-from_map}
use Rattle.std.proofs.lemmas.Iterator.Consumers.{YieldsList-at, sum_by_from_yields_List, fits_by_from_yields_list}
use Rattle.network.specs.Network.{served_stops}
use Rattle.network.proofs.Laws.Chains.{count_below_of_list}
use Rattle.network.proofs.Laws.Tables.{count_below_same}
use Rattle.network.proofs.reader.count_served.Goals as goal

-- What a stop adds to the number
abbrev one : Bool → ℕ
one t = cond t 1 0

pub sum-requires-clause-fits : goal.sum-requires-clause-fits
sum-requires-clause-fits c =
    let served = c.served_stops.result in
    fits_by_from_yields_list one served c.map.result 4294967296
    (YieldsList-from_map _ one (YieldsList-at c.map.ensures.source (YieldsList-from_slice served cc)) c.map.ensures.closure (λ x r q k. search (rules, tests)))
    (omega (arith, count_by-le-length (λ t. t) served))

pub returns : goal.returns
unfolding served_stops
returns c =
    let served = c.served_stops.result in
    sum_by_from_yields_List one served c.map.result c.sum.result c.sum.ensures.ran
    (YieldsList-from_map _ one (YieldsList-at c.map.ensures.source (YieldsList-from_slice served cc)) c.map.ensures.closure (λ x r q k. search (rules, tests)))
    ∙ count_below_of_list (λ t. t) false served 64 (omega arith)
    ∙ count_below_same _ _ 64 c.served_stops.ensures
