-- `search::place::falls_short` meets its contract, test by test. Assumes nothing.
use Rattle.search.proofs.Laws.Cuts.{short_below_floor, short_anywhere, short_at_floor, stands_above_sum, stands_alone}
use Rattle.search.proofs.place.falls_short.Goals as goal

pub returns-then-upper-cut : goal.returns-then-upper-cut
returns-then-upper-cut c = short_below_floor _ _ _ c.if-upper-cut.true

pub returns-then-cut : goal.returns-then-cut
returns-then-cut c = short_anywhere _ _ _ c.if-upper-cut.false c.in-Some.is c.if-upper-beside.true c.if-cut.true

pub returns-else-cut : goal.returns-else-cut
returns-else-cut c = short_at_floor _ _ _ c.if-upper-cut.false c.in-Some.is c.if-upper-beside.true c.if-cut.false

pub returns-else-upper-beside : goal.returns-else-upper-beside
returns-else-upper-beside c = stands_above_sum _ _ _ c.if-upper-cut.false c.in-Some.is c.if-upper-beside.false

pub returns-in-None : goal.returns-in-None
returns-in-None c = stands_alone _ _ _ c.if-upper-cut.false c.in-None.is
