-- `network::places::StopCalls::alike` meets its contract. The loop's invariant: every place passed differs from those before it by the same remainders.
-- Assumes nothing.
use Prim.Native.Nat.{ℕ, ◌<◌, ◌≤◌}
use mathlib.Core.Path.{◌≡◌, refl, sym, ap, ◌∙◌}
use mathlib.Core.Bool.{true}
use native.Mathlib.Omega.{arith}
use native.Mathlib.Nat.{le_antisymm}
use lib.ListN.{get_or}
use Rattle.network.specs.declared.places.StopCalls.{StopCalls}
use Rattle.network.specs.Lists.{all_below}
use Rattle.network.specs.Network.{Net, max_stop}
use Rattle.network.specs.Classes.{same_remainder, is_alike}
use Rattle.network.specs.Engine.Placed.{SameLines, same_line_in}
use Rattle.network.specs.Engine.Stored.{net_of}
use Rattle.network.proofs.Laws.Tables.{all_below_next, all_below_fails}
use Rattle.network.proofs.Laws.Placed.{counts_few, not_alike_by_counts, not_alike_by_lines, same_lines_by_rows, alike_by_differences}
use Rattle.network.proofs.places.StopCalls.alike.Goals as goal

-- Two stops of a network by its rows
module _ (k : StopCalls) (s t : ℕ) (low : s ≤ max_stop) (low' : t ≤ max_stop) where
  abbrev n : Net
  n = net_of k.network.now.rows

  few : get_or k.counts s 0 ≤ 32
  few = counts_few k.network.now.valid k.codes k.counts k.codes_are k.counts_are s t low low'

  module _ (same : get_or k.counts s 0 ≡ get_or k.counts t 0) (lines : all_below (same_line_in k.codes s t) (get_or k.counts s 0) ≡ true) where
    same_lines : SameLines n s t
    same_lines = same_lines_by_rows k.network.now.valid k.codes k.counts k.codes_are k.counts_are s t low low' same lines

    whole : 0 < get_or k.counts t 0 → is_alike n s t ≡ all_below (λ j. all_below (same_remainder n s t j) j) (get_or k.counts s 0)
    whole = alike_by_differences k.network.now.valid k.codes k.counts k.codes_are k.counts_are s t low low' same lines

-- A stop below 64
number : (s : ℕ) → s < 64 → s ≤ max_stop
number s h = omega arith

pub returns-then-self-first : goal.returns-then-self-first
returns-then-self-first c served =
    let (f, g) = c.requires in
    let k = c.args.self.now in
    sym
    (not_alike_by_counts k.network.now.valid k.codes k.counts k.codes_are k.counts_are c.args.first c.args.second (number _ f) (number _ g) served
    c.if-self-first.true)

pub same_lines-requires : goal.same_lines-requires
same_lines-requires c =
    let (f, g) = c.requires in
    (f, g, few c.args.self.now c.args.first c.args.second (number _ f) (number _ g))

pub returns-then-not-same_lines : goal.returns-then-not-same_lines
returns-then-not-same_lines c served =
    let (f, g) = c.requires in
    let k = c.args.self.now in
    sym
    (not_alike_by_lines k.network.now.valid k.codes k.counts k.codes_are k.counts_are c.args.first c.args.second (number _ f) (number _ g)
    c.if-self-first.false served (sym c.same_lines.ensures ∙ c.if-not-same_lines.true))

pub loop-place-init : goal.loop-place-init
unfolding all_below
loop-place-init c = refl

pub same_differences-requires : goal.same_differences-requires
same_differences-requires c =
    let (f, g) = c.requires in
    let k = c.args.self.now in (
      same_lines k c.args.first c.args.second (number _ f) (number _ g) c.if-self-first.false (sym c.same_lines.ensures ∙ c.if-not-same_lines.false),
      omega (arith, c.loop-place-test.true, k.counts_are c.args.first (number _ f)),
    )

pub returns-then-not-same_differences : goal.returns-then-not-same_differences
returns-then-not-same_differences c served =
    let (f, g) = c.requires in
    sym
    (whole c.args.self.now c.args.first c.args.second (number _ f) (number _ g) c.if-self-first.false (sym c.same_lines.ensures ∙ c.if-not-same_lines.false) served
    ∙ all_below_fails _ _ c.loop-place.place c.loop-place-test.true (sym c.same_differences.ensures ∙ c.if-not-same_differences.true))

pub loop-place-preserved : goal.loop-place-preserved
loop-place-preserved c =
    all_below_next _ c.loop-place.place c.loop-place.invariant (sym c.same_differences.ensures ∙ c.if-not-same_differences.false)

pub returns : goal.returns
returns c served =
    let (f, g) = c.requires in
    sym
    (whole c.args.self.now c.args.first c.args.second (number _ f) (number _ g) c.if-self-first.false (sym c.same_lines.ensures ∙ c.if-not-same_lines.false) served
    ∙ sym (ap (all_below _) (le_antisymm c.loop-place.auto.place-end c.loop-place-test.false))
    ∙ c.loop-place.invariant)
