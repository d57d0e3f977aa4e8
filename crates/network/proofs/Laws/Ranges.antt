-- The numbers of an accepted network and its ratings stay within the limits of document 01: a gap is at most a period, there are 1 to 64 served
-- stops and as many classes at most, and a sum has one gap for each served stop. Assumes nothing.
use Prim.Native.Nat.{ℕ, suc, ◌*◌, ◌≤◌}
use mathlib.Core.Path.{◌≡◌, subst}
use mathlib.Core.List.{List}
use native.Mathlib.Nat.{le_trans, mul-le-mul_right}
use native.Mathlib.Omega.{arith}
use lib.Dec.{eqb}
use lib.IntN.{ℤ}
use lib.ListN.{length}
use Rattle.network.specs.declared.Call.{Call}
use Rattle.network.specs.Lists.{sum_of}
use Rattle.network.specs.Network.{Net, max_stop, max_period, stop_count, is_served, calls_anywhere, served_stops}
use Rattle.network.specs.Valid.{Valid, no_call}
use Rattle.network.specs.Rating.{served_list, stop_gap, IsRating, rating}
use Rattle.network.specs.Classes.{is_lowest, class_count}
use Rattle.network.proofs.Laws.Members.{member_of_any, place_of_member}
use Rattle.network.proofs.Laws.Least.{least_of_map_member}
use Rattle.network.proofs.Laws.Tables.{count_below_le, count_below_length}
use Rattle.network.proofs.Laws.Sums.{sum_of_le}
use Rattle.network.proofs.Laws.Rating.{served_list_some, rating_least, rating_sum, IsRating-unique}
use Rattle.network.proofs.Laws.Rate.{stop_gap_le_max_period}
use Rattle.network.proofs.Laws.Classes.{class_count_length}
use Rattle.network.proofs.Laws.Weighted.{lowest_stops_some}

served_list_length : (n : Net) → served_stops n ≡ length (served_list n)
unfolding served_stops served_list
served_list_length n = count_below_length (λ stop. is_served stop n.calls) (suc max_stop)

served_stops_le : (n : Net) → served_stops n ≤ stop_count
unfolding served_stops
served_stops_le n = count_below_le (λ stop. is_served stop n.calls) (suc max_stop)

-- A sum over the served stops of which none has more than the bound
pub sum_of_served_le : (n : Net) (f : ℕ → ℕ) (bound : ℕ) → ((stop : ℕ) → f stop ≤ bound) → sum_of f (served_list n) ≤ stop_count * bound
sum_of_served_le n f bound h =
    le_trans (sum_of_le f bound (served_list n) (λ stop m. h stop))
    (mul-le-mul_right bound (omega (arith, served_list_length n, served_stops_le n)))

class_count_le : (n : Net) → class_count n ≤ stop_count
unfolding class_count
class_count_le n = count_below_le (is_lowest n) (suc max_stop)

module _ {n : Net} (valid : Valid n) where
  pub served_range : (1 ≤ served_stops n) × (served_stops n ≤ stop_count)
  served_range = (omega (arith, served_list_length n, served_list_some valid), served_stops_le n)

  pub class_range : (1 ≤ class_count n) × (class_count n ≤ stop_count)
  class_range = (omega (arith, class_count_length n, lowest_stops_some valid), class_count_le n)

  -- Every line calls somewhere
  pub calls_some : 1 ≤ length n.calls
  unfolding calls_anywhere
  calls_some =
      let (c, m, e) = member_of_any (λ (c : Call). eqb c.line 0) n.calls (valid.every_line_calls 0 valid.some_line) in
      let (k, h, f) = place_of_member n.calls no_call m in
      omega (arith, h)

  module _ (starts : List ℤ) where
    pub least_range : (rating n starts).least ≤ max_period
    least_range =
        let (stop, m, e) = least_of_map_member (stop_gap n starts) (served_list n) (served_list_some valid) in
        rw rating_least (subst (λ (v : ℕ). v ≤ max_period) e (stop_gap_le_max_period valid starts stop))

    -- 92,160 is 64 times 1,440
    pub sum_range : (rating n starts).sum ≤ 92160
    sum_range = omega (arith, rating_sum n starts, sum_of_served_le n (stop_gap n starts) max_period (stop_gap_le_max_period valid starts))

  -- The same of the rating over all trips
  pub IsRating-range : {starts : List ℤ} {least sum : ℕ} → IsRating n starts least sum → (least ≤ max_period) × (sum ≤ 92160)
  IsRating-range {starts} q = let (l, s) = IsRating-unique valid q in (rw l (least_range starts), rw s (sum_range starts))
