-- `search::caps::cap_of` meets its contract: with one call at most what its pairs give is the cap, and otherwise the lesser of it and the spacing.
-- Assumes nothing.
use Prim.Native.Nat.{◌/◌, ◌≤◌, min}
use mathlib.Core.Path.{◌≡◌, ap, ap₂, ◌∙◌}
use mathlib.Core.List.{List}
use native.Mathlib.Omega.{arith}
use lib.ListN.{length}
use Rattle.network.specs.declared.Call.{Call}
use Rattle.network.specs.Rating.{calls_of_stop}
use Rattle.network.specs.Engine.Stored.{net_of}
use Rattle.search.specs.declared.caps.Bounds.{Bounds}
use Rattle.search.specs.Caps.{cap}
use Rattle.search.specs.Engine.CapScan.{visits_of, least_pair_cap, bounds_of}
use Rattle.search.proofs.Laws.CapScan.{visits_pos, cap_few, cap_many}
use Rattle.search.proofs.caps.cap_of.Goals as goal
use Rattle.search.proofs.caps.cap_of.Goals.{After-bounds_of-bounds}

-- The bounds that come back, by the definitions
module _ (a : After-bounds_of-bounds) where
  abbrev calls : List Call
  calls = calls_of_stop (net_of a.args.network.now.rows) a.args.stop

  calls_are : a.bounds_of-bounds.result.calls ≡ length calls
  unfolding bounds_of
  calls_are = ap (λ (b : Bounds). b.calls) a.bounds_of-bounds.ensures

  visits_are : a.bounds_of-bounds.result.visits ≡ visits_of (net_of a.args.network.now.rows) calls
  unfolding bounds_of
  visits_are = ap (λ (b : Bounds). b.visits) a.bounds_of-bounds.ensures

  pair_is : a.bounds_of-bounds.result.pair ≡ least_pair_cap (net_of a.args.network.now.rows) calls
  unfolding bounds_of
  pair_is = ap (λ (b : Bounds). b.pair) a.bounds_of-bounds.ensures

  lesser_is :
      2 ≤ a.bounds_of-bounds.result.calls
      → min a.bounds_of-bounds.result.pair (a.args.network.now.rows.cycle / a.bounds_of-bounds.result.visits) ≡ cap (net_of a.args.network.now.rows) a.args.stop
  lesser_is h =
      ap₂ min pair_is (ap₂ ◌/◌ a.args.network.now.sound.cycle_is visits_are)
      ∙ cap_many (net_of a.args.network.now.rows) a.args.network.now.valid a.args.stop (omega (arith, calls_are, h))

pub returns-then-bounds-lt2 : goal.returns-then-bounds-lt2
returns-then-bounds-lt2 c =
    let u = (goal.at.returns-then-bounds-lt2 c).After-bounds_of-bounds in
    pair_is u ∙ cap_few (net_of c.args.network.now.rows) c.args.network.now.valid c.args.stop (omega (arith, calls_are u, c.if-bounds-lt2.true))

pub nonzero_div-network : goal.nonzero_div-network
nonzero_div-network c =
    let u = (goal.at.nonzero_div-network c).After-bounds_of-bounds in
    omega (
      arith,
      visits_are u,
      visits_pos (net_of c.args.network.now.rows) c.args.network.now.valid c.args.stop (omega (arith, calls_are u, c.if-bounds-lt2.false)),
    )

pub returns : goal.returns
returns c = c.min.ensures ∙ lesser_is (goal.at.returns c).After-bounds_of-bounds c.if-bounds-lt2.false
