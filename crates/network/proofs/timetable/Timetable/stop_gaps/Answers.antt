-- `network::timetable::Timetable::stop_gaps` meets its contract: the divisors written are those of the network's lines, since each line stated stands in
-- its row. Assumes nothing.
use mathlib.Core.Path.{sym, ap₂, ◌∙◌}
use native.Mathlib.Omega.{arith}
use Rattle.network.specs.Divisor as divisor
use Rattle.network.specs.Engine.Scan.{DivisorsOf}
use Rattle.network.proofs.Laws.Stored.{held_lines, held_period}
use Rattle.network.proofs.timetable.Timetable.stop_gaps.Goals as goal

pub write_divisors-requires : goal.write_divisors-requires
write_divisors-requires c = (c.args.self.now.network.now.sound.lines, omega arith)

pub scanned_gaps-requires : goal.scanned_gaps-requires
unfolding DivisorsOf
scanned_gaps-requires c i j h l =
    let n = c.args.self.now.network.now.rows in
    let s = c.args.self.now.network.now.sound in
    let own = rw (held_lines n s) at h in
    let other = rw (held_lines n s) at l in
    c.write_divisors.ensures i j own other ∙ sym (ap₂ divisor.gcd (held_period n i own) (held_period n j other))
