-- `network::board::minute_after` meets its contract: a minute of 32 signed bits and minutes of 32 bits are far from the ends of 64 bits. Assumes
-- nothing.
use Prim.Native.Nat.{◌^◌, ◌<◌}
use mathlib.Core.Path.{refl}
use native.Mathlib.Omega.{arith}
use mir.Syntax.{w64}
use mir.Facts.{to_z-of_z}
use Rattle.network.proofs.Laws.Integers.{widens, widened_sum, sum_fits}
use Rattle.network.proofs.board.minute_after.Goals as goal
use Rattle.network.proofs.board.minute_after.Goals.{Start}

low : (c : Start) → c.args.minutes < 2 ^ 32
low c = omega (arith, c.ranges.minutes)

pub overflow_cast-result : goal.overflow_cast-result
overflow_cast-result c = widens c.ranges.from

pub overflow_add-result : goal.overflow_add-result
overflow_add-result c = rw (widened_sum c.ranges.from c.args.minutes (low c)) (sum_fits c.ranges.from c.args.minutes (low c))

pub returns : goal.returns
returns c = rw (widened_sum c.ranges.from c.args.minutes (low c), to_z-of_z {w = w64} (sum_fits c.ranges.from c.args.minutes (low c))) refl
