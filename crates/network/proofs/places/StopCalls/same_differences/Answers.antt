-- `network::places::StopCalls::same_differences` meets its contract. The loop's invariant: every place passed differs by the same remainder. Assumes
-- nothing.
use mathlib.Core.Path.{refl, sym, ap, ◌∙◌}
use native.Mathlib.Nat.{le_antisymm}
use Rattle.network.specs.Lists.{all_below}
use Rattle.network.proofs.Laws.Tables.{all_below_next, all_below_fails}
use Rattle.network.proofs.places.StopCalls.same_differences.Goals as goal

pub loop-before-init : goal.loop-before-init
unfolding all_below
loop-before-init c = refl

pub returns-then-not-same_difference : goal.returns-then-not-same_difference
returns-then-not-same_difference c = sym
    (all_below_fails _ c.args.place c.loop-before.before c.loop-before-test.true
    (sym c.same_difference.ensures ∙ c.if-not-same_difference.true))

pub loop-before-preserved : goal.loop-before-preserved
loop-before-preserved c =
    all_below_next _ c.loop-before.before c.loop-before.invariant (sym c.same_difference.ensures ∙ c.if-not-same_difference.false)

pub returns : goal.returns
returns c = sym (ap (all_below _) (le_antisymm c.loop-before-test.false c.loop-before.auto.before-end) ∙ c.loop-before.invariant)
