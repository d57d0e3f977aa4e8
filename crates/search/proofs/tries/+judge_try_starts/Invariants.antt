-- One try, and a line's starts by halves: what falls at each call are the lines left, then the starts left. A line has fewer than 2000 starts.
use Prim.Native.Nat.{◌+◌, ◌-◌, ◌*◌}
use Rattle.search.proofs.tries.+judge_try_starts.Given as goal

abbrev pub decreases-judge : goal.decreases-judge
decreases-judge l = (l.layout.now.network.now.rows.lines - l.due.line) * 2000

abbrev pub decreases-try_starts : goal.decreases-try_starts
decreases-try_starts l = (l.layout.now.network.now.rows.lines - l.starts.line) * 2000 + l.starts.count + 1
