-- `examination::hundred::out_of_hundred` meets its contract: it divides where the best is above 0, and a hundred times a least gap fits. Assumes
-- nothing.
use mathlib.Core.Path.{sym}
use Rattle.examination.proofs.Laws.Hundred.{mark_of_beside_zero, remainder_of_beside_zero, mark_of_above_zero, remainder_of_above_zero}
use Rattle.examination.proofs.hundred.out_of_hundred.Goals as goal

pub returns-then-best-eq0 : goal.returns-then-best-eq0
returns-then-best-eq0 c = record {
  mark = sym (mark_of_beside_zero c.args.least c.if-best-eq0.true);
  remainder = sym (remainder_of_beside_zero c.args.least c.if-best-eq0.true);
}

pub returns : goal.returns
returns c = record {
  mark = sym (mark_of_above_zero c.args.least c.if-best-eq0.false);
  remainder = sym (remainder_of_above_zero c.args.least c.if-best-eq0.false);
}
