-- `cases_typed::lines::number_of` meets its contract: of what stands before a digit the last 12 digits count, and a digit is at most 15. Assumes nothing.
use Rattle.std.proofs.Common.{◌<◌}
use Rattle.cases_typed.proofs.lines.number_of.Given as goal

abbrev pub invariant-loop-glyph : goal.invariant-loop-glyph
invariant-loop-glyph l = l.number < 10000000000006
