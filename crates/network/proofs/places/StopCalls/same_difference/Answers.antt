-- `network::places::StopCalls::same_difference` meets its contract: the calls that are read are those at the places of the two stops, and where
-- both stops have the same lines one divisor serves both. Assumes nothing.
use Prim.Native.Nat.{ℕ, ◌<◌}
use mathlib.Core.Path.{◌≡◌, ◌∙◌}
use native.Mathlib.Omega.{arith}
use lib.ListN.{length, get_or}
use Rattle.network.specs.declared.Rows.{Rows}
use Rattle.network.specs.Network.{Net}
use Rattle.network.specs.Rating.{period_of}
use Rattle.network.specs.Classes.{ordered, ordered_call}
use Rattle.network.specs.Engine.Stored.{net_of}
use Rattle.network.proofs.Laws.Placed.{ordered_le_max_at_stop, period_there, same_remainder_of_rows}
use Rattle.network.proofs.places.StopCalls.same_difference.Goals as goal
use Rattle.network.proofs.places.StopCalls.same_difference.Goals.{After-call_at-b, Start}

-- The places are within the stops' runs
module _ (s : Start) where
  abbrev rows : Rows
  rows = s.args.self.now.network.now.rows

  abbrev n : Net
  n = net_of rows

  low : (s.args.first < 64) × (s.args.second < 64) × (s.args.place < 32) × (s.args.before < 32)
  low =
      let (l, p, b) = s.requires in
      let few = ordered_le_max_at_stop s.args.self.now.network.now.valid s.args.first in
      (omega (arith, l.first_low), omega (arith, l.second_low), omega (arith, p, few), omega (arith, p, b, few))

  before_there : s.args.before < length (ordered n s.args.first)
  before_there = omega (arith, s.requires)

pub call_at-a-requires : goal.call_at-a-requires
call_at-a-requires c = let l = low c in (l.0, l.2)

pub call_at-b-requires : goal.call_at-b-requires
call_at-b-requires c = let l = low (goal.at.call_at-b-requires c).Start in (l.0, l.3)

pub call_at-c-requires : goal.call_at-c-requires
call_at-c-requires c = let l = low (goal.at.call_at-c-requires c).Start in (l.1, l.2)

pub call_at-d-requires : goal.call_at-d-requires
call_at-d-requires c = let l = low (goal.at.call_at-d-requires c).Start in (l.1, l.3)

-- The two calls at the first stop, whose lines have a period
module _ (c : After-call_at-b) where
  abbrev start : Start
  start = (goal.at.After-call_at-b c).Start

  abbrev first : ℕ
  first = c.args.first

  a_is : c.call_at-a.result ≡ ordered_call (n start) first c.args.place
  a_is = c.call_at-a.ensures ∙ c.args.self.now.codes_are first c.args.place c.requires.0.first_low c.requires.1

  b_is : c.call_at-b.result ≡ ordered_call (n start) first c.args.before
  b_is = c.call_at-b.ensures ∙ c.args.self.now.codes_are first c.args.before c.requires.0.first_low (before_there start)

  here : (get_or (rows start).periods c.call_at-a.result.line 0 ≡ period_of (n start) (ordered_call (n start) first c.args.place))
      × (0 < get_or (rows start).periods c.call_at-a.result.line 0)
      × (c.call_at-a.result.line < 16)
  here = period_there (rows start) c.args.self.now.network.now.sound c.args.self.now.network.now.valid first c.args.place c.call_at-a.result a_is c.requires.1

  earlier : c.call_at-b.result.line < 16
  earlier = (period_there (rows start) c.args.self.now.network.now.sound c.args.self.now.network.now.valid first c.args.before c.call_at-b.result b_is (before_there start)).2

pub bounds-periods-a : goal.bounds-periods-a
bounds-periods-a c = (here (goal.at.bounds-periods-a c).After-call_at-b).2

pub bounds-periods-b : goal.bounds-periods-b
bounds-periods-b c = earlier (goal.at.bounds-periods-b c).After-call_at-b

pub same_remainder-requires : goal.same_remainder-requires
same_remainder-requires c = (here (goal.at.same_remainder-requires c).After-call_at-b).1

pub returns : goal.returns
returns c =
    let (l, p, b) = c.requires in
    let u = (goal.at.returns c).After-call_at-b in
    let network = c.args.self.now.network.now in
    let there = c.args.self.now.codes_are in
    c.same_remainder.ensures
    ∙ same_remainder_of_rows network.rows network.sound network.valid c.args.first c.args.second l c.args.place c.args.before
    c.call_at-a.result c.call_at-b.result c.call_at-c.result c.call_at-d.result p b (a_is u) (b_is u)
    (c.call_at-c.ensures ∙ there c.args.second c.args.place l.second_low (rw (← l.same_length) p))
    (c.call_at-d.ensures ∙ there c.args.second c.args.before l.second_low (rw (← l.same_length) (before_there (start u))))
