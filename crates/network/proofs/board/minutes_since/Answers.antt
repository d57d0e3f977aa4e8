-- `network::board::minutes_since` meets its contract: the difference of a minute and an arrival is far from the ends of 64 bits. Assumes nothing.
use Prim.Native.Nat.{◌^◌, ◌≤◌}
use mathlib.Core.Path.{◌≡◌, ap, ap₂, ◌∙◌}
use native.Mathlib.Omega.{arith}
use lib.IntN.{ℤ, pos, nat_abs, ◌+ℤ◌, ◌-ℤ◌}
use mir.Syntax.{w32, w64}
use mir.Val.{SFits, to_z, of_z}
use mir.Facts.{to_z-of_z}
use Rattle.network.specs.Gap as gaps
use Rattle.network.proofs.Laws.Integers.{nat_abs_sub_le, nat_abs_le_mag, sfits_of_nat_abs, widened, widens}
use Rattle.network.proofs.board.minutes_since.Goals as goal
use Rattle.network.proofs.board.minutes_since.Goals.{After-arrival, Start}

-- One minute before
module _ (s : Start) where
  abbrev before : ℤ
  before = s.args.from -ℤ pos 1

  small : nat_abs before ≤ 2 ^ 32
  small = omega (arith, nat_abs_sub_le s.args.from (pos 1), nat_abs_le_mag s.args.from, s.ranges.from.sfits)

  fits : SFits w64 before
  fits = sfits_of_nat_abs before (omega (arith, small))

  read : to_z w64 (of_z w64 (to_z w32 (of_z w32 s.args.from))) -ℤ pos 1 ≡ before
  read = ap (λ (z : ℤ). z -ℤ pos 1) (widened s.ranges.from)

pub overflow_cast-before : goal.overflow_cast-before
overflow_cast-before c = widens c.ranges.from

pub overflow_sub-before : goal.overflow_sub-before
overflow_sub-before c = rw (read c) (fits c)

-- What the code subtracts is the difference of that minute and the arrival
module _ (c : After-arrival) where
  abbrev earlier : Start
  earlier = (goal.at.After-arrival c).Start

  abbrev difference : ℤ
  difference = before earlier -ℤ c.arrival.result

  difference_fits : SFits w64 difference
  difference_fits =
      sfits_of_nat_abs difference (omega (arith, nat_abs_sub_le (before earlier) c.arrival.result, small earlier, c.arrival.ensures.1))

  arrival_fits : SFits w64 c.arrival.result
  arrival_fits = sfits_of_nat_abs c.arrival.result (omega (arith, c.arrival.ensures.1))

  subtracted : to_z w64 (of_z w64 (to_z w64 (of_z w64 (to_z w32 (of_z w32 c.args.from))) -ℤ pos 1)) -ℤ to_z w64 (of_z w64 c.arrival.result) ≡ difference
  subtracted =
      ap₂ ◌-ℤ◌ (ap (λ (z : ℤ). to_z w64 (of_z w64 z)) (read earlier) ∙ to_z-of_z (fits earlier)) (to_z-of_z arrival_fits)

pub overflow_sub-before-2 : goal.overflow_sub-before-2
overflow_sub-before-2 c = rw (subtracted c) (difference_fits c)

pub returns : goal.returns
returns c =
    let u = (goal.at.returns c).After-arrival in
    c.residue.ensures
    ∙ ap (λ (z : ℤ). gaps.residue z c.args.period)
    (ap (λ (z : ℤ). to_z w64 (of_z w64 z)) (subtracted u)
    ∙ to_z-of_z (difference_fits u)
    ∙ ap (λ (z : ℤ). before (goal.at.returns c).Start -ℤ z) (c.arrival.ensures.0 ∙ ap (λ (z : ℤ). z +ℤ pos c.args.offset) (to_z-of_z c.ranges.start)))
