-- `network::timetable::Timetable::put_gaps` meets its contract: the rows of gaps and of served stops give the gap row and the rating. Assumes nothing.
use Prim.Native.Nat.{ℕ, ◌<◌, ◌≤◌}
use mathlib.Core.Bool.{true, false}
use mathlib.Core.Path.{◌≡◌, ◌∙◌}
use native.Mathlib.Omega.{arith}
use lib.ListN.{get_or}
use Rattle.network.specs.Engine.Stored.{net_of}
use Rattle.network.proofs.Laws.Rate.{ones_are, served_rating, stop_gap_le_max_period}
use Rattle.network.proofs.Laws.GapRow.{gap_row_of_rows}
use Rattle.network.proofs.timetable.Timetable.put_gaps.Goals as goal
use Rattle.network.proofs.timetable.Timetable.put_gaps.Goals.{After-stop_gaps-gaps}

-- No gap is longer than a period
small :
    (g : After-stop_gaps-gaps) (stop : ℕ)
    → stop < 64
    → get_or g.served_stops-counts.result stop false ≡ true
    → get_or g.stop_gaps-gaps.result stop 0 ≤ 1440
small g stop h k =
    omega (arith, g.stop_gaps-gaps.ensures stop h k, stop_gap_le_max_period g.args.self.now.network.now.valid g.args.self.now.starts.now stop)

pub row_of-requires : goal.row_of-requires
row_of-requires c = small (goal.at.row_of-requires c).After-stop_gaps-gaps

pub rating_over-requires : goal.rating_over-requires
rating_over-requires c stop h k = (small (goal.at.rating_over-requires c).After-stop_gaps-gaps stop h k, omega (arith, ones_are stop h))

pub returns : goal.returns
returns c =
    let starts = c.args.self.now.starts.now in
    let n = net_of c.args.self.now.network.now.rows in
    let counts = c.served_stops-counts in
    let gaps = c.stop_gaps-gaps in
    record {
      answer = c.rating_over.ensures ∙ served_rating n counts.result counts.ensures starts gaps.result gaps.ensures;
      row = c.row_of.ensures ∙ gap_row_of_rows n starts gaps.result counts.result counts.ensures gaps.ensures;
    }
