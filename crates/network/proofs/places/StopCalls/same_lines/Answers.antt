-- `network::places::StopCalls::same_lines` meets its contract. The loop's invariant: every place passed has the same line at both stops. Assumes nothing.
use mathlib.Core.Path.{refl, sym, ap₂, ◌∙◌}
use borrow.Author.Tests.{eq-eqb, ne_eqb}
use lib.Dec.{eqb}
use Rattle.network.specs.declared.Call.{Call}
use Rattle.network.specs.Lists.{all_below}
use Rattle.network.proofs.Laws.Tables.{all_below_next, all_below_fails}
use Rattle.network.proofs.places.StopCalls.same_lines.Goals as goal

pub loop-place-init : goal.loop-place-init
unfolding all_below
loop-place-init c = refl

pub returns-then-call_at : goal.returns-then-call_at
returns-then-call_at c = sym
    (all_below_fails _ c.args.count c.loop-place.place c.loop-place-test.true
    (sym (ap₂ (λ (a b : Call). eqb a.line b.line) c.call_at.ensures c.call_at-in-loop-place.ensures) ∙ ne_eqb _ _ c.if-call_at.true))

pub loop-place-preserved : goal.loop-place-preserved
loop-place-preserved c =
    all_below_next _ c.loop-place.place c.loop-place.invariant
    (sym (ap₂ (λ (a b : Call). eqb a.line b.line) c.call_at.ensures c.call_at-in-loop-place.ensures) ∙ eq-eqb _ _ c.if-call_at.false)
