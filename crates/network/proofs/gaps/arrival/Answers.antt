-- `network::gaps::arrival` meets its contract: a start of 32 bits and an offset of 16 bits are far from the ends of 64 bits.
-- Assumes nothing.
use Prim.Native.Nat.{◌^◌, ◌<◌, ◌≤◌}
use mathlib.Core.Path.{refl}
use native.Mathlib.Omega.{arith}
use lib.IntN.{pos, nat_abs, ◌+ℤ◌}
use mir.Syntax.{w64}
use mir.Facts.{to_z-of_z}
use Rattle.network.proofs.Laws.Integers.{nat_abs_add_le, nat_abs_le_mag, widens, widened_sum, sum_fits}
use Rattle.network.proofs.gaps.arrival.Goals as goal
use Rattle.network.proofs.gaps.arrival.Goals.{Start}

small : (c : Start) → nat_abs (c.args.start +ℤ pos c.args.offset) ≤ 2 ^ 32
small c =
    omega
    (arith, nat_abs_add_le c.args.start (pos c.args.offset), nat_abs_le_mag c.args.start, c.ranges.start.sfits, c.ranges.offset)

-- An offset is below 2^32 too
low : (c : Start) → c.args.offset < 2 ^ 32
low c = omega (arith, c.ranges.offset)

pub overflow_cast-result : goal.overflow_cast-result
overflow_cast-result c = widens c.ranges.start

pub overflow_add-result : goal.overflow_add-result
overflow_add-result c = rw (widened_sum c.ranges.start c.args.offset (low c)) (sum_fits c.ranges.start c.args.offset (low c))

pub returns : goal.returns
returns c = rw (widened_sum c.ranges.start c.args.offset (low c), to_z-of_z {w = w64} (sum_fits c.ranges.start c.args.offset (low c)))
    (refl, small c)
