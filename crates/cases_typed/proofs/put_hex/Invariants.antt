-- `cases_typed::put_hex` meets its contract: `end` begins within the file and goes on only where there is room; the measure is what is left of the
-- text. Assumes nothing.
use Rattle.std.proofs.Common.{length, ◌≤◌}
use Rattle.cases_typed.proofs.put_hex.Given as goal

abbrev pub invariant-loop-rest : goal.invariant-loop-rest
invariant-loop-rest l = l.end ≤ length l.file

abbrev pub decreases-loop-rest : goal.decreases-loop-rest
decreases-loop-rest l = length l.rest
