-- `cases_typed::lines::put_numbers` meets its contract: `count` stays within the row; the measure is what is left of the text. Assumes nothing.
use Rattle.std.proofs.Common.{length, ◌≤◌}
use Rattle.cases_typed.proofs.lines.put_numbers.Given as goal

abbrev pub invariant-loop-rest : goal.invariant-loop-rest
invariant-loop-rest g l = l.count ≤ length l.row

abbrev pub decreases-loop-rest : goal.decreases-loop-rest
decreases-loop-rest g l = length l.rest
