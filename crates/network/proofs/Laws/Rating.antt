-- The computed rating is the rating over all trips, and the only one: the least and the sum of the gaps of the served stops, of which
-- there is at least one, since every line calls somewhere. Assumes nothing.
use Prim.Native.Nat.{ℕ, suc, ◌+◌, ◌*◌, ◌≤◌, ◌<◌}
use mathlib.Core.Path.{◌≡◌, refl, sym, ap, ap₂, subst, fun_ext, ◌∙◌}
use mathlib.Core.Bool.{true}
use mathlib.Core.List.Memᴰ
use mathlib.Core.List.{List, [], ◌∷◌, map, Memᴰ}
use native.Mathlib.Nat.{le_antisymm, one-mul, mul-le-mul_left}
use native.Mathlib.Omega.{arith}
use lib.Dec.{eqb}
use lib.IntN.{ℤ}
use lib.ListN.{length, get_or, length-map}
use Rattle.network.specs.declared.Call.{Call}
use Rattle.network.specs.Rating.{Rating}
use Rattle.network.specs.Lists.{sum_of, least_of}
use Rattle.network.specs.Network.{Net, max_stop, is_served, calls_anywhere}
use Rattle.network.specs.Valid.{no_call, Valid}
use Rattle.network.specs.Rating.{Counted, served_list, each_once, counted, IsRatingOver, IsRating, stop_gap, rating_by, rating_over, rating}
use Rattle.network.proofs.Laws.Members.{member_of_any, place_of_member}
use Rattle.network.proofs.Laws.Least.{least_of_map_member, least_of_map_le, least_of_map_mono}
use Rattle.network.proofs.Laws.Tables.{below_of_member, member_of_below}
use Rattle.network.proofs.Laws.Sums.{sum_of_same, sum_of_below_other, sum_of_mono}
use Rattle.network.proofs.Laws.StopGap.{served_of_call, call_of_served, stop_gap_is_stop_gap, IsStopGap-same}

-- ---- the served stops

pub served_of_member : (n : Net) {stop : ℕ} → Memᴰ stop (served_list n) → is_served stop n.calls ≡ true
unfolding served_list
served_of_member n m = (below_of_member (λ stop. is_served stop n.calls) (suc max_stop) m).1

module _ {n : Net} (valid : Valid n) where
  pub stop_of_served : (stop : ℕ) → is_served stop n.calls ≡ true → stop ≤ max_stop
  stop_of_served stop e = let (k, c) = call_of_served n stop e in omega (arith, valid.call_stop k c.stated, c.at_stop)

  pub served_list_member : (stop : ℕ) → is_served stop n.calls ≡ true → Memᴰ stop (served_list n)
  unfolding served_list
  served_list_member stop e = member_of_below (λ stop. is_served stop n.calls) (suc max_stop) stop (omega (arith, stop_of_served stop e)) e

  pub served_list_some : 0 < length (served_list n)
  unfolding calls_anywhere
  served_list_some =
      let (c, m, e) = member_of_any (λ (c : Call). eqb c.line 0) n.calls (valid.every_line_calls 0 valid.some_line) in
      let (k, h, f) = place_of_member n.calls no_call m in
      let served = served_of_call n (get_or n.calls k no_call).stop (record { stated = h; at_stop = refl }) in
      let (i, l, g) = place_of_member (served_list n) 0 (served_list_member (get_or n.calls k no_call).stop served) in
      omega arith

-- ---- the stops that count

-- A stop that counts is served
pub counted_served_stop : (n : Net) {s : Counted} → Memᴰ s (counted n) → is_served s.stop n.calls ≡ true
unfolding counted each_once
counted_served_stop n {s} m =
    let (i, k, e) = Memᴰ.of_map (λ (j : ℕ). record { stop = j; weight = 1 }) (served_list n) m in
    let is : i ≡ s.stop = ap (λ (c : Counted). c.stop) e in
    rw (← is) (served_of_member n k)

pub counted_some : {n : Net} → Valid n → 0 < length (counted n)
unfolding counted each_once
counted_some valid = rw length-map (served_list_some valid)

-- ---- the rating as the least and the sum over the served stops

map_each_once : (f : ℕ → ℕ) (stops : List ℕ) → map (λ (s : Counted). f s.stop) (each_once stops) ≡ map f stops
unfolding each_once
map_each_once f [] = refl
map_each_once f (s ∷ stops) = ap (λ l. f s ∷ l) (map_each_once f stops)

sum_each_once : (f : ℕ → ℕ) (stops : List ℕ) → sum_of (λ (s : Counted). s.weight * f s.stop) (each_once stops) ≡ sum_of f stops
unfolding each_once sum_of
sum_each_once f [] = refl
sum_each_once f (s ∷ stops) = ap₂ ◌+◌ (one-mul (f s)) (sum_each_once f stops)

-- By any values of the stops, gaps or upper values
pub rating_by_counted : (f : ℕ → ℕ) (n : Net) → rating_by f (counted n) ≡ record { some = true; least = least_of (map f (served_list n)); sum = sum_of f (served_list n) }
unfolding rating_by counted
rating_by_counted f n =
    ap₂ (λ (l v : ℕ). record { some = true; least = l; sum = v }) (ap least_of (map_each_once f (served_list n))) (sum_each_once f (served_list n))

module _ (n : Net) (starts : List ℤ) where
  pub rating_least : (rating n starts).least ≡ least_of (map (stop_gap n starts) (served_list n))
  unfolding rating rating_over
  rating_least = ap (λ (r : Rating). r.least) (rating_by_counted (stop_gap n starts) n)

  pub rating_sum : (rating n starts).sum ≡ sum_of (stop_gap n starts) (served_list n)
  unfolding rating rating_over
  rating_sum = ap (λ (r : Rating). r.sum) (rating_by_counted (stop_gap n starts) n)

-- Networks and starts with the same gaps have the same ratings
pub rating_over_cong : (n m : Net) (starts moved : List ℤ) → ((stop : ℕ) → stop_gap n starts stop ≡ stop_gap m moved stop)
    → (stops : List Counted) → rating_over n starts stops ≡ rating_over m moved stops
unfolding rating_over
rating_over_cong n m starts moved f stops = ap (λ gap. rating_by gap stops) (fun_ext f)

pub rating_cong : (n m : Net) (starts moved : List ℤ) → counted n ≡ counted m
    → ((stop : ℕ) → stop_gap n starts stop ≡ stop_gap m moved stop) → rating n starts ≡ rating m moved
unfolding rating
rating_cong n m starts moved e f = rating_over_cong n m starts moved f (counted n) ∙ ap (rating_over m moved) e

-- ---- over all trips, for any stops that are served

module _ {n : Net} (valid : Valid n) (stops : List Counted) (served : (s : Counted) → Memᴰ s stops → is_served s.stop n.calls ≡ true) where
  pub rating_over_is_rating : 0 < length stops → (starts : List ℤ)
      → IsRatingOver n starts stops (rating_over n starts stops).least (rating_over n starts stops).sum
  unfolding rating_over rating_by
  rating_over_is_rating some starts =
      let gap : Counted → ℕ = λ s. stop_gap n starts s.stop in
      let (s, m, e) = least_of_map_member gap stops some in
      record {
        gap = stop_gap n starts;
        is_gap = λ s m. stop_gap_is_stop_gap n valid starts s.stop (served s m);
        attained = (s, m, e);
        is_least = λ s m. least_of_map_le gap stops m;
        is_sum = refl;
      }

IsRatingOver-least-le : {n : Net} {starts : List ℤ} {stops : List Counted} {l s m t : ℕ} → IsRatingOver n starts stops l s → IsRatingOver n starts stops m t
    → l ≤ m
IsRatingOver-least-le {l = l} r q =
    let (s, m, f) = q.attained in
    subst (λ v. l ≤ v) (IsStopGap-same (r.is_gap s m) (q.is_gap s m) ∙ f) (r.is_least s m)

-- Two ratings over the same stops are one
pub IsRatingOver-same : {n : Net} {starts : List ℤ} {stops : List Counted} {l s m t : ℕ} → IsRatingOver n starts stops l s → IsRatingOver n starts stops m t
    → (l ≡ m) × (s ≡ t)
IsRatingOver-same {stops = stops} r q = (
  le_antisymm (IsRatingOver-least-le r q) (IsRatingOver-least-le q r),
  r.is_sum
      ∙ sum_of_same _ _ stops (λ s m. ap (λ (v : ℕ). s.weight * v) (IsStopGap-same (r.is_gap s m) (q.is_gap s m)))
      ∙ sym q.is_sum,
)

-- ---- the rating of a network

pub rating_is_rating : (n : Net) → Valid n → (starts : List ℤ) → IsRating n starts (rating n starts).least (rating n starts).sum
unfolding rating
rating_is_rating n valid starts = rating_over_is_rating valid (counted n) (λ s m. counted_served_stop n m) (counted_some valid) starts

pub IsRating-unique : {n : Net} {starts : List ℤ} {least sum : ℕ} → Valid n → IsRating n starts least sum
    → (least ≡ (rating n starts).least) × (sum ≡ (rating n starts).sum)
IsRating-unique {n} {starts} valid r = IsRatingOver-same r (rating_is_rating n valid starts)

-- ---- what the numbers of a rating are

pub rating_by_some : (f : ℕ → ℕ) (stops : List Counted) → (rating_by f stops).some ≡ true
unfolding rating_by
rating_by_some f stops = refl

-- It is its two numbers
pub rating_by_numbers : (f : ℕ → ℕ) (stops : List Counted)
    → record { some = true; least = (rating_by f stops).least; sum = (rating_by f stops).sum } ≡ rating_by f stops
unfolding rating_by
rating_by_numbers f stops = refl

pub rating_numbers : (n : Net) (starts : List ℤ)
    → record { some = true; least = (rating n starts).least; sum = (rating n starts).sum } ≡ rating n starts
unfolding rating rating_over
rating_numbers n starts = rating_by_numbers (stop_gap n starts) (counted n)

pub rating_some : (n : Net) (starts : List ℤ) → (rating n starts).some ≡ true
unfolding rating rating_over
rating_some n starts = rating_by_some (stop_gap n starts) (counted n)

-- The rating is that of the stops that count, by their gaps
pub rating_is_rating_by : (n : Net) (starts : List ℤ) → rating n starts ≡ rating_by (stop_gap n starts) (counted n)
unfolding rating rating_over
rating_is_rating_by n starts = refl

-- Where no gap is larger, neither the least gap nor the sum is
module _ (f g : ℕ → ℕ) (h : (stop : ℕ) → f stop ≤ g stop) (stops : List Counted) where
  pub rating_by_least_mono : (rating_by f stops).least ≤ (rating_by g stops).least
  unfolding rating_by
  rating_by_least_mono = least_of_map_mono (λ t. f t.stop) (λ t. g t.stop) (λ t. h t.stop) stops

  pub rating_by_sum_mono : (rating_by f stops).sum ≤ (rating_by g stops).sum
  unfolding rating_by
  rating_by_sum_mono = sum_of_mono (λ t. t.weight * f t.stop) (λ t. t.weight * g t.stop) (λ t. mul-le-mul_left t.weight (h t.stop)) stops

-- A served stop has another value
pub sum_of_served_other : (n : Net) → Valid n → (f : ℕ → ℕ) (s : ℕ) → is_served s n.calls ≡ true → (g : ℕ → ℕ) → ((t : ℕ) → (t ≡ s → ⊥) → g t ≡ f t)
    → sum_of g (served_list n) + f s ≡ sum_of f (served_list n) + g s
unfolding served_list
sum_of_served_other n valid f s served g others =
    sum_of_below_other f g s others (λ stop. is_served stop n.calls) (suc max_stop) (omega (arith, stop_of_served valid s served)) served
