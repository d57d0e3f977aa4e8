-- `cases_archive::large::show_sums` keeps its sums within 64 bits: the one is at most 255 for each byte passed, and that of the running sums at most 255 × 2,048. Assumes nothing.
use Rattle.std.proofs.Common.{◌*◌, ◌≤◌}
use Rattle.cases_archive.proofs.large.show_sums.Given as goal

abbrev pub invariant-loop-byte : goal.invariant-loop-byte
invariant-loop-byte g l = record { sum : l.sum ≤ 255 * l.byte-index; sums : l.sums ≤ 522240 * l.byte-index }
