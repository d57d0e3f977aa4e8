-- `network::common_cycle` meets its contract. The loop's invariant: the cycle is that of the periods passed. Assumes nothing.
use Prim.Native.Nat.{ℕ, ◌<◌}
use mathlib.Core.Path.{◌≡◌, refl, sym, ap, ◌∙◌}
use native.Mathlib.Nat.{le_antisymm}
use native.Mathlib.Omega.{arith}
use lib.ListN.{length, get_or, take}
use lib.Seq.{take-length}
use Rattle.network.specs.Divisor.{common_cycle, cycle_from, lcm}
use Rattle.network.proofs.Laws.Divisor.{lcm_of_least_common_multiple, first_cycle_pos, first_cycle_le, first_cycle_next}
use Rattle.network.proofs.common_cycle.Goals as goal
use Rattle.network.proofs.common_cycle.Goals.{Start}

pub loop-period-init : goal.loop-period-init
unfolding common_cycle cycle_from
loop-period-init c = refl

positive : (c : Start) (i : ℕ) → i < length c.args.periods.now → 0 < get_or c.args.periods.now i 0
positive c i h = (c.requires.in_range i h).0

pub brought_forward-cycle-requires : goal.brought_forward-cycle-requires
brought_forward-cycle-requires c =
    let l = c.loop-period in
    let u = (goal.at.brought_forward-cycle-requires c).Start in
    let range = c.requires.in_range l.period-index c.loop-period-test.true in (
      rw l.invariant (first_cycle_pos c.args.periods.now (positive u) l.period-index),
      omega (arith, l.invariant, first_cycle_le c.args.periods.now (positive u) l.period-index, c.requires.cycle_le),
      range.0,
      range.1,
    )

pub loop-period-preserved : goal.loop-period-preserved
loop-period-preserved c =
    let l = c.loop-period in
    lcm_of_least_common_multiple c.brought_forward-cycle.ensures
    ∙ ap (λ (k : ℕ). lcm k (get_or c.args.periods.now l.period-index 0)) l.invariant
    ∙ sym (first_cycle_next c.args.periods.now l.period-index c.loop-period-test.true)

pub returns : goal.returns
returns c =
    let l = c.loop-period in
    let all : l.period-index ≡ length c.args.periods.now = le_antisymm l.auto.period-index-end c.loop-period-test.false in
    l.invariant ∙ ap (λ (k : ℕ). common_cycle (take k c.args.periods.now)) all ∙ ap common_cycle (take-length c.args.periods.now)
