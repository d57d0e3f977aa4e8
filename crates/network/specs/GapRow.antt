-- Document 01, "Gap and rating", stop by stop: the gap row, in which a call on a file and a sheet leaves the gap of each served stop. It is defined over
-- all trips, as the rating is; `gap_row_is_gap_row` of proofs/StopGaps.antt says that the computed row is that one, and `rating_of_gap_row` that the
-- rating is the least of its gaps and their sum.
use Rattle.std.specs.Prelude.{ℕ, suc, ◌≤◌, ◌≡◌, true, false, not, List, eqb, ℤ, length, get_or}
use Rattle.network.specs.Lists.{pick, keep, table}
use Rattle.network.specs.Network.{Net, max_stop, stop_count, is_served}
use Rattle.network.specs.Reading.{Reading}
use Rattle.network.specs.Rating.{IsStopGap, stop_gap}
use Rattle.network.specs.Rate.{on_sheet}

-- What the gap row holds for an unserved stop: no gap is as large, since none is longer than a period
abbrev pub no_gap : ℕ
no_gap = 65535

-- ---- Over all trips

-- A gap row: for each served stop its gap, 65,535 if unserved
pub record IsGapRow (n : Net) (starts : List ℤ) (row : List ℕ) : Type 0 where
  pub length_is : length row ≡ stop_count
  pub served : (stop : ℕ) → stop ≤ max_stop → is_served stop n.calls ≡ true → IsStopGap n starts stop (get_or row stop 0)
  pub unserved : (stop : ℕ) → stop ≤ max_stop → is_served stop n.calls ≡ false → get_or row stop 0 ≡ no_gap

-- The gaps in such a row, those of the served stops
unfoldable pub gaps_in : List ℕ → List ℕ
gaps_in row = keep (λ (gap : ℕ). not (eqb gap no_gap)) row

-- ---- As computed

unfoldable pub gap_row : Net → List ℤ → List ℕ
gap_row n starts = table (λ stop. pick (is_served stop n.calls) (stop_gap n starts stop) no_gap) (suc max_stop)

-- What the lent row holds afterwards: the gap row where the call doesn't refuse, else what it held. The call answers what rate answers, and refuses as
-- rate does ("Grounds for refusing": rows stay untouched)
unfoldable pub gap_row_after : List ℕ → Reading → List ℤ → List ℕ
gap_row_after row read sheet = on_sheet gap_row (λ (number place : ℕ). row) read sheet
