-- The gap row is the one over all trips, and the only one, since each stop's computed gap is its gap; the rating is the least of its gaps and their sum,
-- since what the row leaves out are the unserved stops. Assumes nothing.
use Prim.Native.Nat.{ℕ, suc, ◌<◌, ◌≤◌}
use mathlib.Core.Path.{◌≡◌, refl, sym, ap, subst, ◌∙◌}
use mathlib.Core.Bool.{Bool, true, false, not}
use mathlib.Core.List.{List, [], ◌∷◌, map}
use native.Mathlib.Omega.{arith}
use borrow.Author.Tests.{eq-eqb, ne_eqb}
use lib.Dec.{eqb}
use lib.IntN.{ℤ}
use lib.ListN.{length, get_or}
use lib.Seq.{ext_get_or}
use Rattle.network.specs.Lists.{pick, keep, table, sum_of, least_of}
use Rattle.network.specs.Network.{Net, max_stop, stop_count, max_period, is_served}
use Rattle.network.specs.Valid.{Valid}
use Rattle.network.specs.Rating.{IsStopGap, stop_gap, served_list, rating}
use Rattle.network.specs.GapRow.{no_gap, IsGapRow, gaps_in, gap_row, gap_row_after}
use Rattle.network.specs.Rate.{on_sheet}
use Rattle.network.specs.Reading.{Reading, accepted, refused}
use Rattle.network.proofs.Laws.Tables.{length_table, get_d_table, table_same, keep_table}
use Rattle.network.proofs.Laws.Sums.{sum_of_map}
use Rattle.network.proofs.Laws.StopGap.{stop_gap_is_stop_gap, IsStopGap-unique}
use Rattle.network.proofs.Laws.Rating.{rating_least, rating_sum}
use Rattle.network.proofs.Laws.Rate.{stop_gap_le_max_period}

-- The rows of served stops and of their gaps give the gap row
pub gap_row_of_rows :
    (n : Net) (starts : List ℤ) (gaps : List ℕ) (counts : List Bool)
    → ((stop : ℕ) → stop < 64 → get_or counts stop false ≡ is_served stop n.calls)
    → ((stop : ℕ) → stop < 64 → get_or counts stop false ≡ true → get_or gaps stop 0 ≡ stop_gap n starts stop)
    → table (λ (stop : ℕ). pick (get_or counts stop false) (get_or gaps stop 0) no_gap) (suc max_stop) ≡ gap_row n starts
unfolding gap_row
gap_row_of_rows n starts gaps counts flags are =
    table_same _ _ (suc max_stop)
    (λ stop h.
    go stop (omega arith) (get_or counts stop false) refl
    ∙ ap (λ (b : Bool). pick b (stop_gap n starts stop) no_gap) (flags stop (omega arith)))
  where
    go : (stop : ℕ) → stop < 64 → (b : Bool) → get_or counts stop false ≡ b
        → pick b (get_or gaps stop 0) no_gap ≡ pick b (stop_gap n starts stop) no_gap
    go stop low true e = are stop low e
    go stop low false e = refl

-- ---- the row over all trips

gap_row_at : (n : Net) (starts : List ℤ) (stop : ℕ) → stop ≤ max_stop → (t : Bool) → is_served stop n.calls ≡ t
    → get_or (gap_row n starts) stop 0 ≡ pick t (stop_gap n starts stop) no_gap
unfolding gap_row
gap_row_at n starts stop low t e =
    get_d_table _ (suc max_stop) stop 0 (omega arith) ∙ ap (λ (b : Bool). pick b (stop_gap n starts stop) no_gap) e

pub gap_row_is_gap_row : {n : Net} → Valid n → (starts : List ℤ) → IsGapRow n starts (gap_row n starts)
unfolding gap_row
gap_row_is_gap_row {n} valid starts =
    record {
      length_is = length_table _ (suc max_stop);
      served = λ stop low e. subst (IsStopGap n starts stop) (sym (gap_row_at n starts stop low true e)) (stop_gap_is_stop_gap n valid starts stop e);
      unserved = λ stop low e. gap_row_at n starts stop low false e;
    }

-- No other row is one
pub IsGapRow-unique : {n : Net} {starts : List ℤ} {row : List ℕ} → Valid n → IsGapRow n starts row → row ≡ gap_row n starts
IsGapRow-unique {n} {starts} {row} valid is =
    let computed = gap_row_is_gap_row valid starts in
    ext_get_or 0 row (gap_row n starts) (is.length_is ∙ sym computed.length_is)
    (λ stop h.
    let low : stop ≤ max_stop = omega (arith, is.length_is) in
    go stop low (is_served stop n.calls) refl)
  where
    go : (stop : ℕ) → stop ≤ max_stop → (t : Bool) → is_served stop n.calls ≡ t → get_or row stop 0 ≡ get_or (gap_row n starts) stop 0
    go stop low true e = IsStopGap-unique valid (is.served stop low e) ∙ sym (gap_row_at n starts stop low true e)
    go stop low false e = is.unserved stop low e ∙ sym (gap_row_at n starts stop low false e)

-- A served stop's number is a gap, at most the longest period; 65,535 is no gap
pub gap_in_row : {n : Net} {starts : List ℤ} {row : List ℕ} → Valid n → IsGapRow n starts row → (stop : ℕ) → stop ≤ max_stop
    → is_served stop n.calls ≡ true → get_or row stop 0 ≤ max_period
gap_in_row {n} {starts} valid is stop low e =
    rw (IsStopGap-unique valid (is.served stop low e)) (stop_gap_le_max_period valid starts stop)

-- ---- the lent row

-- It stays as long as it was
pub length_gap_row_after : (row : List ℕ) (read : Reading) (sheet : List ℤ) → length row ≡ stop_count → length (gap_row_after row read sheet) ≡ stop_count
unfolding gap_row_after on_sheet gap_row
length_gap_row_after row (refused number place) sheet e = e
length_gap_row_after row (accepted n) sheet e = go (eqb (length sheet) (length n.periods))
  where
    go : (b : Bool) → length (pick b (gap_row n sheet) row) ≡ stop_count
    go true = length_table _ (suc max_stop)
    go false = e

-- ---- the rating of the row

-- The gaps in the row are those of the served stops, ascending by stop
gaps_in_gap_row : {n : Net} → Valid n → (starts : List ℤ) → gaps_in (gap_row n starts) ≡ map (stop_gap n starts) (served_list n)
unfolding gaps_in gap_row served_list keep
gaps_in_gap_row {n} valid starts =
    keep_table (λ (gap : ℕ). not (eqb gap no_gap)) _ (stop_gap n starts) (λ stop. is_served stop n.calls) (suc max_stop)
    (λ stop. go stop (is_served stop n.calls))
  where
    go : (stop : ℕ) (t : Bool)
        → keep (λ (gap : ℕ). not (eqb gap no_gap)) (pick t (stop_gap n starts stop) no_gap ∷ []) ≡ map (stop_gap n starts) (pick t (stop ∷ []) [])
    go stop true =
        ap (λ (b : Bool). pick (not b) (stop_gap n starts stop ∷ []) [])
        (ne_eqb (stop_gap n starts stop) no_gap (λ e. omega (arith, e, stop_gap_le_max_period valid starts stop)))
    go stop false = ap (λ (b : Bool). pick (not b) (no_gap ∷ []) []) (eq-eqb no_gap no_gap refl)

-- The least gap and the sum of the rating are those of the row
pub rating_of_gap_row : {n : Net} → Valid n → (starts : List ℤ)
    → ((rating n starts).least ≡ least_of (gaps_in (gap_row n starts))) × ((rating n starts).sum ≡ sum_of (λ (gap : ℕ). gap) (gaps_in (gap_row n starts)))
rating_of_gap_row {n} valid starts =
    let gaps = gaps_in_gap_row valid starts in (
      rating_least n starts ∙ ap least_of (sym gaps),
      rating_sum n starts ∙ sym (ap (sum_of (λ (gap : ℕ). gap)) gaps ∙ sum_of_map (λ (gap : ℕ). gap) (stop_gap n starts) (served_list n)),
    )
