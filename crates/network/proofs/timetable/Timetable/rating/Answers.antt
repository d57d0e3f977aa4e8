-- `network::timetable::Timetable::rating` meets its contract: the rows of gaps and of served stops give the rating. Assumes nothing.
use mathlib.Core.Path.{◌∙◌}
use native.Mathlib.Omega.{arith}
use Rattle.network.specs.Engine.Stored.{net_of}
use Rattle.network.proofs.Laws.Rate.{ones_are, served_rating, stop_gap_le_max_period}
use Rattle.network.proofs.timetable.Timetable.rating.Goals as goal

pub rating_over-requires : goal.rating_over-requires
rating_over-requires c stop h k = let e = c.stop_gaps-gaps.ensures stop h k in
    (omega (arith, e, stop_gap_le_max_period c.args.self.now.network.now.valid c.args.self.now.starts.now stop), omega (arith, ones_are stop h))

pub returns : goal.returns
returns c = c.rating_over.ensures
    ∙ served_rating (net_of c.args.self.now.network.now.rows) c.served_stops-counts.result c.served_stops-counts.ensures c.args.self.now.starts.now c.stop_gaps-gaps.result c.stop_gaps-gaps.ensures
