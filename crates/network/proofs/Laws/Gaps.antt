-- The laws on gaps and ratings that other crates use. Assumes nothing.

-- two lines: theorem 3.1.2, trips as differences, and residues
pub use Rattle.network.proofs.Laws.Gap.{theorem_3_1_2, difference_trip, distance_of_difference, fold_is}
pub use Rattle.network.proofs.Laws.Gap.{residue_pos, residue_lt, residue_of_residue, residue_of_add, residue_eq_of_multiple, multiple_of_residue_eq}
-- two calls: their gap by the formula, of which only their lines' starts and periods count
pub use Rattle.network.proofs.Laws.Pairs.{arrival_of_pos, gap_of_calls_is_gap_of, gap_of_calls_is_fold, gap_of_calls_half, SameStart, gap_of_calls_local}
pub use Rattle.network.proofs.Laws.Loops.{gap_of_calls_own, own_gap_is_fold, own_gap_half, own_gap_symmetric}
pub use Rattle.network.proofs.Laws.StopGap.{period_of_is, period_of_pos, period_of_le, period_divides_cycle}
-- any calls: their gap is the least over their pairs, at most half of any g; with one call, the period
pub use Rattle.network.proofs.Laws.Pairs.{gap_of_stop_le_pair, gap_of_stop_attained, gap_of_stop_none, gap_of_stop_single, gap_of_stop_half, gap_of_stop_cong}
pub use Rattle.network.proofs.Laws.Pairs.{least_from_pair_gaps_few, least_from_pair_gaps_more}
pub use Rattle.network.proofs.Laws.Permuted.{gap_of_stop_permuted}
-- the calls of a stop
pub use Rattle.network.proofs.Laws.StopGap.{calls_of_stop_is, calls_of_stop_unserved, calls_of_stop_stated, calls_of_stop_period_pos, served_of_call, stop_gap_is, IsStopGap-unique}
-- those among the first calls, and the row that leads back through them
pub use Rattle.network.proofs.Laws.Scan.{calls_before_none, calls_before_is, calls_before_all, calls_before_hit, calls_before_miss}
pub use Rattle.network.proofs.Laws.Scan.{length_calls_before, calls_of_stop_held, least_from_pair_gaps_snoc}
pub use Rattle.network.proofs.Laws.Scan.{leads_back_at, leads_back_fewer, leads_back_same, calls_before_last_at, last_at_le, last_at_landed, step_back}
pub use Rattle.network.proofs.Laws.Scan.{Scanned, scanned_none, scanned_passed}
-- an accepted network and its common cycle
pub use Rattle.network.proofs.Laws.Valid.{accepted_valid, cycle_pos}
-- the served stops, and the rating by any values of them, gaps or upper values
pub use Rattle.network.proofs.Laws.Rating.{served_list_member, served_list_some, sum_of_served_other, rating_by_counted, rating_by_some, rating_by_numbers}
pub use Rattle.network.proofs.Laws.Rating.{rating_by_least_mono, rating_by_sum_mono}
pub use Rattle.network.proofs.Laws.Rate.{rating_by_same, counted_of_member, counted_served}
-- the rating, and over all trips
pub use Rattle.network.proofs.Laws.Rating.{rating_is_rating_by, rating_some, rating_numbers, rating_is_rating, IsRating-unique}
-- .. and what rate answers of it where the file is refused
pub use Rattle.network.proofs.Laws.Refusals.{rate_refused}
-- starts that rate alike
pub use Rattle.network.proofs.Laws.Starts.{rating_residues, rating_moved_together}
-- two files with the same periods and offsets: the calls of each stop in another order, and the edition
pub use Rattle.network.proofs.Laws.SameNetwork.{plain, plain_same, calls_of_stop_plain, periods_plain, cycle_plain, period_of_plain, pair_gaps_plain}
pub use Rattle.network.proofs.Laws.SameNetwork.{counted_plain}
-- the order of ratings
pub use Rattle.network.proofs.Laws.Order.{Above, above_of_is_above, below_of_not_is_above, is_above_none, none_is_not_above}
pub use Rattle.network.proofs.Laws.Order.{above_none, is_above_irreflexive, not_above_of_above, not_above_transitive, not_above_of_le, is_equal_numbers}
-- .. and by the least gap alone, and by the sum alone
pub use Rattle.network.proofs.Laws.Order.{reaches_by_least, sum_above_none, sum_above_by_sum}
-- how large the numbers of a rating can be
pub use Rattle.network.proofs.Laws.Ranges.{sum_of_served_le, IsRating-range}
