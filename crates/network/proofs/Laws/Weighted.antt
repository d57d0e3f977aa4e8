-- The class call and the weighted rating: what the rows and the answer are in each case, and that the weighted rating is the rating, for
-- accepted and refused files alike, since a class has one gap. Assumes nothing.
use Prim.Native.Nat.{ℕ, suc, ◌<◌, ◌≤◌}
use mathlib.Core.Path.{◌≡◌, refl, sym, ap, ◌∙◌}
use mathlib.Core.Bool.{Bool, true, false, and-eq-true_iff}
use mathlib.Core.List.Memᴰ
use mathlib.Core.List.{List, [], ◌∷◌, map, Memᴰ}
use mathlib.Core.Logic.{◌↔◌}
use native.Mathlib.Omega.{arith}
use lib.Dec.{eqb}
use lib.IntN.{ℤ}
use lib.ListN.{length, get_or, length-map}
use borrow.Author.Tests.{eq-eqb}
use Rattle.network.specs.declared.Call.{Call}
use Rattle.network.specs.Rating.{Rating}
use Rattle.network.specs.Lists.{pick, count_below, below}
use Rattle.network.specs.Network.{Net, max_stop, calls_anywhere, is_served}
use Rattle.network.specs.Reading.{Reading, accepted, refused, Outcome, values, refusal, read_file}
use Rattle.network.specs.Valid.{IsBytes, Valid}
use Rattle.network.specs.Rate.{rating_values, on_sheet, rated_on_sheet, rate_outcome}
use Rattle.network.specs.Rating.{Counted, IsRatingOver, IsRating, rating}
use Rattle.network.specs.Engine.Scan.{counted_stops}
use Rattle.network.specs.Classes.{lowest_alike, is_lowest, class_row, weight_row, class_count, lowest_stops}
use Rattle.network.specs.ClassCall.{rows_fit, class_outcome, class_row_after, weight_row_after, weighted_rating, weighted_outcome}
use Rattle.network.proofs.Laws.Members.{any_of_member, member_of_any, place_of_member}
use Rattle.network.proofs.Laws.Tables.{count_below_le, below_of_member, member_of_below, below_same}
use Rattle.network.proofs.Laws.Valid.{accepted_valid}
use Rattle.network.proofs.Laws.Rating.{rating_over_is_rating, IsRatingOver-same, rating_is_rating, IsRating-unique}
use Rattle.network.proofs.Laws.Alike.{served_le_max_stop}
use Rattle.network.proofs.Laws.Classes.{lowest_alike_le, lowest_alike_is_lowest, is_in_class_of, class_row_at, weight_row_at}
use Rattle.network.proofs.Laws.Classes.{lowest_stops_rows, lowest_rating}

-- ---- the class call

-- The answer and both rows afterwards
abbrev pub Answered : Reading → List ℕ → List ℕ → Outcome → List ℕ → List ℕ → Type 0
Answered read classes weights answer classes' weights' =
    (answer ≡ class_outcome read (length classes) (length weights))
    × ((classes' ≡ class_row_after read classes weights) × (weights' ≡ weight_row_after read classes weights))

module _ (read : Reading) (classes weights : List ℕ) where
  -- the file is refused
  pub answered_refused : (number place : ℕ) → read ≡ refused number place → Answered read classes weights (refusal number place) classes weights
  unfolding class_outcome class_row_after weight_row_after
  answered_refused number place e = rw e (refl, (refl, refl))

  -- a row isn't 64 long
  pub answered_unfit : (n : Net) → read ≡ accepted n → rows_fit (length classes) (length weights) ≡ false
      → Answered read classes weights (refusal 17 0) classes weights
  unfolding class_outcome class_row_after weight_row_after
  answered_unfit n e f = rw (e, f) (refl, (refl, refl))

  pub answered_filled : (n : Net) (count : ℕ) (classes' weights' : List ℕ) → read ≡ accepted n → rows_fit (length classes) (length weights) ≡ true
      → count ≡ class_count n → classes' ≡ class_row n → weights' ≡ weight_row n
      → Answered read classes weights (values (count ∷ [])) classes' weights'
  unfolding class_outcome class_row_after weight_row_after
  answered_filled n count classes' weights' e f c k w = rw (e, f) (ap (λ (i : ℕ). values (i ∷ [])) c, (k, w))

-- ---- the stops that count

-- A row that counts the stops that the class row names as their own lowest
pub counted_lowest : (n : Net) (counts : List Bool)
    → ((stop : ℕ) → stop < 64 → get_or counts stop false ≡ eqb (get_or (class_row n) stop 0) stop)
    → counted_stops counts (weight_row n) ≡ lowest_stops (class_row n) (weight_row n)
unfolding counted_stops lowest_stops
counted_lowest n counts e =
    ap (map _)
    (below_same _ _ (suc max_stop) (λ s h.
    e s h ∙ ap (λ (k : ℕ). eqb k s) (class_row_at n s 0 (omega arith) ∙ sym (class_row_at n s 255 (omega arith)))))

-- Some stop is served, so some stop is the lowest of its class
pub lowest_stops_some : {n : Net} → Valid n → 0 < length (lowest_stops (class_row n) (weight_row n))
unfolding calls_anywhere is_served
lowest_stops_some {n} v =
    let (c, m, _) = member_of_any _ n.calls (v.every_line_calls 0 v.some_line) in
    let served : is_served c.stop n.calls ≡ true = any_of_member (λ (d : Call). eqb d.stop c.stop) n.calls m (eq-eqb c.stop _ refl) in
    let lowest = member_of_below (is_lowest n) (suc max_stop) (lowest_alike n c.stop) (omega (arith, lowest_alike_le v c.stop served, served_le_max_stop v c.stop served))
    (lowest_alike_is_lowest v c.stop served) in
    let (i, l, _) = place_of_member (below (is_lowest n) (suc max_stop)) 0 lowest in
    rw (lowest_stops_rows, length-map) (omega (arith, l))

-- .. and a lowest stop is served
lowest_stops_served : (n : Net) (s : Counted) → Memᴰ s (lowest_stops (class_row n) (weight_row n)) → is_served s.stop n.calls ≡ true
unfolding is_lowest
lowest_stops_served n s m =
    let (i, k, e) = Memᴰ.of_map (λ (j : ℕ). record { stop = j; weight = get_or (weight_row n) j 0 }) (below (is_lowest n) (suc max_stop)) (rw lowest_stops_rows at m) in
    let is : i ≡ s.stop = ap (λ (c : Counted). c.stop) e in
    rw (← is) ((and-eq-true_iff _ _).0 (below_of_member (is_lowest n) (suc max_stop) k).1).0

-- Over all trips: the lowest stops with their weights have the rating of the network, and no other
pub lowest_is_rating : {n : Net} → Valid n → (starts : List ℤ) {least sum : ℕ}
    → IsRatingOver n starts (lowest_stops (class_row n) (weight_row n)) least sum ↔ IsRating n starts least sum
lowest_is_rating {n} v starts = (
  λ r. let (l, s) = IsRatingOver-same r lowest in rw (l, s) (rating_is_rating n v starts),
  λ r. let (l, s) = IsRating-unique v r in rw (l, s) lowest,
)
  where
    lowest : IsRatingOver n starts (lowest_stops (class_row n) (weight_row n)) (rating n starts).least (rating n starts).sum
    lowest =
        rw (← lowest_rating n v starts)
        (rating_over_is_rating v (lowest_stops (class_row n) (weight_row n)) (lowest_stops_served n) (lowest_stops_some v) starts)

pub weight_small : (n : Net) (stop : ℕ) → stop < 64 → get_or (weight_row n) stop 0 ≤ 64
weight_small n stop h = rw (weight_row_at n stop 0 (omega arith)) (go (is_lowest n stop))
  where
    go : (t : Bool) → pick t (count_below (is_in_class_of n stop) (suc max_stop)) 0 ≤ 64
    go true = count_below_le (is_in_class_of n stop) 64
    go false = omega arith

-- ---- the weighted rating is the rating

pub weighted_is_rate : (file : List ℕ) → IsBytes file → (sheet : List ℤ) → weighted_outcome (read_file file) sheet ≡ rate_outcome (read_file file) sheet
unfolding weighted_outcome weighted_rating rate_outcome on_sheet
weighted_is_rate file bytes sheet = go (read_file file) refl
  where
    go : (read : Reading) → read_file file ≡ read → rated_on_sheet weighted_rating read sheet ≡ rate_outcome read sheet
    go (refused number place) e = refl
    go (accepted n) e =
        ap (λ (r : Rating). pick (eqb (length sheet) (length n.periods)) (rating_values r) (refusal 15 0))
        (lowest_rating n (accepted_valid file n bytes e) sheet)
