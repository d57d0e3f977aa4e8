-- The upper rating of a partial timetable is not below that of any that goes on from it, neither in its least gap nor in its sum, since the
-- gaps of placed pairs stay; and with all lines placed it is the rating, since no gap is above its cap. Assumes nothing.
use Prim.Native.Nat.{ℕ, ◌≤◌, ◌<◌}
use mathlib.Core.Path.{◌≡◌, refl, sym, ap, ap₂, subst, fun_ext, ◌∙◌}
use mathlib.Core.Bool.{Bool, true}
use mathlib.Core.List.{List, [], ◌∷◌, ◌++◌, Memᴰ}
use native.Mathlib.Decide.{dec_lt}
use native.Mathlib.Omega.{arith}
use borrow.Author.Tests.{ltb-true, lt-ltb}
use lib.Dec.{ltb}
use lib.IntN.{ℤ, pos}
use lib.ListN.{length, length-append, get_or-append}
use Rattle.network.specs.declared.Call.{Call}
use Rattle.network.specs.Rating.{Rating}
use Rattle.network.specs.Network.{Net, is_served}
use Rattle.network.specs.Valid.{no_call, Valid}
use Rattle.network.specs.Rating.{gap_of_calls, pair_gaps, gap_of_stop, calls_of_stop, stop_gap}
use Rattle.network.specs.Rating.{served_list, counted, rating_by, rating}
use Rattle.network.specs.Lists.{least_from}
use Rattle.network.proofs.Laws.Members.{AllPairs, keep_pairs, keep_has_pair, keep_every, of_all}
use Rattle.network.proofs.Laws.Least.{least_from_le, least_of_map_member, least_of_map_le}
use Rattle.network.proofs.Laws.Gaps.{gap_of_stop_le_pair, gap_of_stop_attained, calls_of_stop_stated, gap_of_calls_local, gap_of_stop_none}
use Rattle.network.proofs.Laws.Gaps.{gap_of_stop_single, least_from_pair_gaps_few, least_from_pair_gaps_more, rating_is_rating_by}
use Rattle.network.proofs.Laws.Gaps.{rating_by_counted, rating_by_least_mono, rating_by_numbers, rating_by_some, rating_by_sum_mono, stop_gap_is}
use Rattle.network.proofs.Laws.Gaps.{served_list_member, served_list_some}
use Rattle.search.specs.Caps.{cap_of_calls, cap, placed_calls, upper_value, upper_rating}
use Rattle.search.proofs.Laws.Caps.{cap_sound}
use Rattle.search.proofs.Laws.Bounds.{IsUpper, BoundsEach, upper_of_bounds_each}

-- ---- the least of a number and the gaps of all pairs

module _ (n : Net) (starts : List ℤ) (v : ℕ) (cs : List Call) where
  least_from_pairs_le : AllPairs no_call (λ c d. least_from v (pair_gaps n starts cs) ≤ gap_of_calls n starts c d) cs
  least_from_pairs_le j k h l = omega (arith, least_from_pair_gaps_more n starts v cs (omega arith), gap_of_stop_le_pair n starts cs j k h l)

  le_least_from_pairs : (w : ℕ) → w ≤ v → AllPairs no_call (λ c d. w ≤ gap_of_calls n starts c d) cs → w ≤ least_from v (pair_gaps n starts cs)
  le_least_from_pairs w h f = go (dec_lt 1 (length cs))
    where
      go : Dec (1 < length cs) → w ≤ least_from v (pair_gaps n starts cs)
      go (yes more) =
          let (j, k, l, m, e) = gap_of_stop_attained n starts cs more in
          omega (arith, least_from_pair_gaps_more n starts v cs more, f j k l m)
      go (no few) = omega (arith, least_from_pair_gaps_few n starts v cs (omega arith))

-- ---- more lines placed

abbrev is_placed : List ℤ → Call → Bool
is_placed starts c = ltb c.line (length starts)

module _ (n : Net) (placed tail : List ℤ) where
  abbrev longer : List ℤ
  longer = placed ++ tail

  -- A placed call reads the same start ..
  gap_of_calls_append : (c d : Call) → c.line < length placed → d.line < length placed → gap_of_calls n longer c d ≡ gap_of_calls n placed c d
  gap_of_calls_append c d h l =
      gap_of_calls_local n longer placed c d (get_or-append placed tail (pos 0) c.line h) (get_or-append placed tail (pos 0) d.line l)

  -- .. and stays placed
  placed_append : (line : ℕ) → ltb line (length placed) ≡ true → ltb line (length longer) ≡ true
  placed_append line e = lt-ltb line (length longer) (omega (arith, ltb-true line (length placed) e, length-append placed tail))

  pub upper_value_append : (caps : ℕ → ℕ) (stop : ℕ) → upper_value n caps (placed ++ tail) stop ≤ upper_value n caps placed stop
  unfolding upper_value placed_calls
  upper_value_append caps stop =
      le_least_from_pairs n placed (caps stop) (placed_calls placed cs) value (least_from_le (caps stop) _)
      (keep_pairs no_call (is_placed placed) (λ c d. value ≤ gap_of_calls n placed c d) cs value_le_gap)
    where
      cs : List Call
      cs = calls_of_stop n stop

      value : ℕ
      value = upper_value n caps longer stop

      value_le_gap : AllPairs no_call (λ c d. is_placed placed c ≡ true → is_placed placed d ≡ true → value ≤ gap_of_calls n placed c d) cs
      value_le_gap j k h l c d =
          let (p, q, m, o, e, f) = keep_has_pair no_call (is_placed longer) cs j k h l (placed_append _ c) (placed_append _ d) in
          subst (λ v. value ≤ v) (ap₂ (gap_of_calls n longer) e f ∙ gap_of_calls_append _ _ (ltb-true _ _ c) (ltb-true _ _ d))
          (least_from_pairs_le n longer (caps stop) (placed_calls longer cs) p q m o)

-- ---- the order of upper ratings

pub upper_rating_some : (n : Net) (caps : ℕ → ℕ) (starts : List ℤ) → (upper_rating n caps starts).some ≡ true
unfolding upper_rating
upper_rating_some n caps starts = rating_by_some _ (counted n)

pub upper_rating_numbers : (n : Net) (caps : ℕ → ℕ) (starts : List ℤ)
    → record { some = true; least = (upper_rating n caps starts).least; sum = (upper_rating n caps starts).sum } ≡ upper_rating n caps starts
unfolding upper_rating
upper_rating_numbers n caps starts = rating_by_numbers _ (counted n)

-- The upper rating of a partial timetable is an upper bound of those of all that go on from it
pub upper_bounds_each : (n : Net) (caps : ℕ → ℕ) (counts : List ℕ) → BoundsEach (upper_rating n caps) counts
unfolding upper_rating
upper_bounds_each n caps counts =
    record {
      least_bounded = λ placed tail c. rating_by_least_mono _ _ (upper_value_append n placed tail caps) (counted n);
      sum_bounded = λ placed tail c. rating_by_sum_mono _ _ (upper_value_append n placed tail caps) (counted n);
    }

pub upper_is_upper : (n : Net) (caps : ℕ → ℕ) (counts : List ℕ) → IsUpper (upper_rating n caps) counts
upper_is_upper n caps counts =
    upper_of_bounds_each (upper_rating n caps) counts (upper_rating_some n caps) (upper_bounds_each n caps counts)

-- ---- caps

module _ {n : Net} (valid : Valid n) (caps : ℕ → ℕ) (starts : List ℤ) where
  -- An upper least gap is no larger than a served stop's cap ..
  pub upper_least_le_cap : (stop : ℕ) → is_served stop n.calls ≡ true → (upper_rating n caps starts).least ≤ caps stop
  unfolding upper_rating upper_value
  upper_least_le_cap stop served =
      omega (
        arith,
        ap (λ (r : Rating). r.least) (rating_by_counted (upper_value n caps starts) n),
        least_of_map_le (upper_value n caps starts) (served_list n) (served_list_member valid stop served),
        least_from_le (caps stop) (pair_gaps n starts (placed_calls starts (calls_of_stop n stop))),
      )

  -- .. and so no larger than all of them
  pub upper_least_le : (most : ℕ) → ((stop : ℕ) → caps stop ≤ most) → (upper_rating n caps starts).least ≤ most
  unfolding upper_rating upper_value
  upper_least_le most h =
      let (stop, m, e) = least_of_map_member (upper_value n caps starts) (served_list n) (served_list_some valid) in
      omega (
        arith,
        ap (λ (r : Rating). r.least) (rating_by_counted (upper_value n caps starts) n),
        e,
        least_from_le (caps stop) (pair_gaps n starts (placed_calls starts (calls_of_stop n stop))),
        h stop,
      )

-- ---- all lines placed

-- The cap counts for nothing beside the gaps of all pairs; with one call only it is the gap
least_from_cap : (n : Net) (starts : List ℤ) (cs : List Call) → gap_of_stop n starts cs ≤ cap_of_calls n cs
    → least_from (cap_of_calls n cs) (pair_gaps n starts cs) ≡ gap_of_stop n starts cs
unfolding cap_of_calls
least_from_cap n starts [] h = least_from_pair_gaps_few n starts _ [] (omega arith) ∙ sym (gap_of_stop_none n starts [] refl)
least_from_cap n starts (c ∷ []) h = least_from_pair_gaps_few n starts _ (c ∷ []) (omega arith) ∙ sym (gap_of_stop_single n starts (c ∷ []) refl)
least_from_cap n starts (c ∷ d ∷ cs) h =
    let least = least_from_pair_gaps_more n starts (cap_of_calls n (c ∷ d ∷ cs)) (c ∷ d ∷ cs) (omega arith) in omega arith

module _ {n : Net} (valid : Valid n) (starts : List ℤ) (full : length starts ≡ length n.periods) where
  pub upper_value_full : (stop : ℕ) → upper_value n (cap n) starts stop ≡ stop_gap n starts stop
  unfolding upper_value placed_calls cap
  upper_value_full stop =
      ap (λ cs. least_from (cap n stop) (pair_gaps n starts cs)) (keep_every (is_placed starts) (calls_of_stop n stop) placed)
      ∙ least_from_cap n starts (calls_of_stop n stop) (rw stop_gap_is at (cap_sound valid starts stop))
      ∙ sym (stop_gap_is n stop starts)
    where
      placed : (c : Call) → Memᴰ c (calls_of_stop n stop) → is_placed starts c ≡ true
      placed c m =
          rw full (lt-ltb _ _ (of_all (λ (d : Call). d.line < length n.periods) (calls_of_stop n stop) no_call (calls_of_stop_stated valid stop) m))

  pub upper_full : upper_rating n (cap n) starts ≡ rating n starts
  unfolding upper_rating
  upper_full = ap (λ gap. rating_by gap (counted n)) (fun_ext upper_value_full) ∙ sym (rating_is_rating_by n starts)
