-- `network::timetable::Timetable::weighted_rating` meets its contract: the rows give the rating over the lowest stops with their weights. Assumes nothing.
use Prim.Native.Nat.{ℕ}
use mathlib.Core.Path.{◌≡◌, ap, ◌∙◌}
use mathlib.Core.List.{List}
use native.Mathlib.Omega.{arith}
use lib.Dec.{eqb}
use lib.ListN.{get_or}
use Rattle.network.specs.Network.{Net}
use Rattle.network.specs.Rating.{rating_over}
use Rattle.network.specs.Engine.Scan.{counted_stops}
use Rattle.network.specs.Engine.Stored.{net_of}
use Rattle.network.specs.Classes.{class_row, weight_row, lowest_stops}
use Rattle.network.specs.ClassCall.{weighted_rating}
use Rattle.network.proofs.Laws.Rate.{rating_of_rows, stop_gap_le_max_period}
use Rattle.network.proofs.Laws.Weighted.{counted_lowest, weight_small}
use Rattle.network.proofs.timetable.Timetable.weighted_rating.Goals as goal

pub rating_over-requires : goal.rating_over-requires
rating_over-requires c stop h k = (
  omega (arith, c.stop_gaps-gaps.ensures stop h k, stop_gap_le_max_period c.args.self.now.network.now.valid c.args.self.now.starts.now stop),
  omega (arith, ap (λ (l : List ℕ). get_or l stop 0) c.fill_rows.ensures.weight_row_after, weight_small (net_of c.args.self.now.network.now.rows) stop h),
)

-- The stops that count are the lowest stops, with their weights
pub returns : goal.returns
unfolding weighted_rating
returns c =
    let n : Net = net_of c.args.self.now.network.now.rows in
    let counts = c.lowest_stops-counts.result in
    let weights = c.fill_rows.new.weight_row in
    let counted : counted_stops counts weights ≡ lowest_stops (class_row n) (weight_row n) =
    ap (counted_stops counts) c.fill_rows.ensures.weight_row_after
    ∙ counted_lowest n counts
    (λ stop h. c.lowest_stops-counts.ensures stop h ∙ ap (λ (l : List ℕ). eqb (get_or l stop 0) stop) c.fill_rows.ensures.class_row_after) in
    c.rating_over.ensures
    ∙ rating_of_rows n c.args.self.now.starts.now c.stop_gaps-gaps.result counts weights c.stop_gaps-gaps.ensures
    ∙ ap (rating_over n c.args.self.now.starts.now) counted
