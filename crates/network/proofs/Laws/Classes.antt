-- The classes of stops: two served stops are alike exactly when their lowest are the same, the rows hold what the definitions say, and the
-- rating over the lowest stops with the weights is the rating, since a class has one gap and counts with all its stops. Assumes nothing.
use Prim.Native.Nat.{ℕ, suc, ◌*◌, ◌<◌, ◌≤◌}
use mathlib.Core.Path.{◌≡◌, refl, sym, ap, ap₂, ◌∙◌}
use mathlib.Core.Bool.{Bool, true, false, ◌&&◌}
use mathlib.Core.Logic.{◌↔◌}
use mathlib.Core.List.{List, map, map-map, Memᴰ}
use native.Mathlib.Nat.{le_antisymm}
use native.Mathlib.Decide.{dec_lt}
use native.Mathlib.Omega.{arith}
use lib.Dec.{eqb}
use lib.IntN.{ℤ}
use lib.ListN.{length, get_or, length-map}
use borrow.Author.Tests.{eq-eqb, ne_eqb}
use Rattle.network.specs.Lists.{pick, count_below, below, sum_of, least_of}
use Rattle.network.specs.Network.{Net, max_stop, is_served}
use Rattle.network.specs.Valid.{Valid}
use Rattle.network.specs.Rating.{Counted, served_list, each_once, counted, rating_by, rating_over, rating, stop_gap}
use Rattle.network.specs.Classes.{Alike, is_alike, lowest_alike, is_lowest, class_row, weight_row, class_count, lowest_stops}
use Rattle.network.proofs.Laws.Lists.{zero_ne_one, and_both}
use Rattle.network.proofs.Laws.Tables.{IsFirst, first_below_is_first, length_table, get_d_table, below_of_member, below_same}
use Rattle.network.proofs.Laws.Tables.{count_below_length}
use Rattle.network.proofs.Laws.Sums.{sum_of_same, sum_of_one, sum_of_map}
use Rattle.network.proofs.Laws.Representatives.{StandsForEach, sum_of_representatives, least_of_representatives}
use Rattle.network.proofs.Laws.Alike.{served_le_max_stop, alike_is_alike, alike_refl, alike_sym, alike_trans}
use Rattle.network.proofs.Laws.AlikeGap.{alike_same_gap}

-- ---- the lowest stop alike to a stop

pub first_alike : (n : Net) (s : ℕ) → IsFirst (λ t. is_alike n t s) (suc max_stop) (lowest_alike n s)
unfolding lowest_alike
first_alike n s = first_below_is_first (λ t. is_alike n t s) (suc max_stop)

module _ {n : Net} (v : Valid n) where
  -- no lower stop is alike
  pub lowest_alike_lowest : {s t : ℕ} → Alike n t s → lowest_alike n s ≤ t
  lowest_alike_lowest {s} {t} a = go (dec_lt t (lowest_alike n s))
    where
      go : Dec (t < lowest_alike n s) → lowest_alike n s ≤ t
      go (yes l) = let e = (first_alike n s).none_before t l in let f = (alike_is_alike v t s).1 a in absurd (zero_ne_one (cc))
      go (no l) = omega arith

  pub lowest_alike_le : (s : ℕ) → is_served s n.calls ≡ true → lowest_alike n s ≤ s
  lowest_alike_le s e = lowest_alike_lowest (alike_refl n s e)

  pub lowest_alike_alike : (s : ℕ) → is_served s n.calls ≡ true → Alike n (lowest_alike n s) s
  lowest_alike_alike s e =
      (alike_is_alike v (lowest_alike n s) s).0 ((first_alike n s).passes (omega (arith, lowest_alike_le s e, served_le_max_stop v s e)))

  lowest_alike_same : {s t : ℕ} → Alike n s t → lowest_alike n s ≡ lowest_alike n t
  lowest_alike_same {s} {t} a =
      le_antisymm (lowest_alike_lowest (alike_trans (lowest_alike_alike t a.second_served) (alike_sym a)))
      (lowest_alike_lowest (alike_trans (lowest_alike_alike s a.first_served) a))

  pub alike_iff_lowest_alike : (s t : ℕ) → is_served s n.calls ≡ true → is_served t n.calls ≡ true
      → Alike n s t ↔ (lowest_alike n s ≡ lowest_alike n t)
  alike_iff_lowest_alike s t e f =
      (lowest_alike_same, λ k. alike_trans (alike_sym (lowest_alike_alike s e)) (rw k (lowest_alike_alike t f)))

  pub lowest_alike_idempotent : (s : ℕ) → is_served s n.calls ≡ true → lowest_alike n (lowest_alike n s) ≡ lowest_alike n s
  lowest_alike_idempotent s e = lowest_alike_same (lowest_alike_alike s e)

  pub lowest_alike_is_lowest : (s : ℕ) → is_served s n.calls ≡ true → is_lowest n (lowest_alike n s) ≡ true
  unfolding is_lowest
  lowest_alike_is_lowest s e = and_both _ _ (lowest_alike_alike s e).first_served (eq-eqb _ _ (lowest_alike_idempotent s e))

-- ---- the rows

-- The stop `t` is served, and `s` is the lowest of its class
abbrev pub is_in_class_of : Net → ℕ → ℕ → Bool
is_in_class_of n s t = is_served t n.calls && eqb (lowest_alike n t) s

pub length_class_row : (n : Net) → length (class_row n) ≡ suc max_stop
unfolding class_row
length_class_row n = length_table _ (suc max_stop)

pub length_weight_row : (n : Net) → length (weight_row n) ≡ suc max_stop
unfolding weight_row
length_weight_row n = length_table _ (suc max_stop)

pub class_row_at : (n : Net) (s d : ℕ) → s ≤ max_stop → get_or (class_row n) s d ≡ pick (is_served s n.calls) (lowest_alike n s) 255
unfolding class_row
class_row_at n s d h = get_d_table _ (suc max_stop) s d (omega arith)

-- The size of a stop's class, if it is the lowest of it
pub weight_row_at : (n : Net) (s d : ℕ) → s ≤ max_stop
    → get_or (weight_row n) s d ≡ pick (is_lowest n s) (count_below (is_in_class_of n s) (suc max_stop)) 0
unfolding weight_row
weight_row_at n s d h = get_d_table _ (suc max_stop) s d (omega arith)

-- The class row names as their own lowest those that are
pub below_class_row : (n : Net) → below (λ s. eqb (get_or (class_row n) s 255) s) (suc max_stop) ≡ below (is_lowest n) (suc max_stop)
unfolding is_lowest
below_class_row n = below_same _ _ (suc max_stop) (λ s h. rw (class_row_at n s 255 (omega arith)) (go s (is_served s n.calls) (omega arith)))
  where
    go : (s : ℕ) (t : Bool) → s ≤ max_stop → eqb (pick t (lowest_alike n s) 255) s ≡ (t && eqb (lowest_alike n s) s)
    go s true h = refl
    go s false h = ne_eqb 255 s (λ e. omega arith)

pub lowest_stops_rows : (n : Net)
    → lowest_stops (class_row n) (weight_row n)
    ≡ map (λ s. record { stop = s; weight = get_or (weight_row n) s 0 }) (below (is_lowest n) (suc max_stop))
unfolding lowest_stops
lowest_stops_rows n = ap (map _) (below_class_row n)

pub class_count_length : (n : Net) → class_count n ≡ length (lowest_stops (class_row n) (weight_row n))
unfolding class_count
class_count_length n = rw (lowest_stops_rows, length-map) (count_below_length (is_lowest n) (suc max_stop))

-- The weight of a lowest stop is the sum over its class of 1
weight_row_sum : (n : Net) (s : ℕ) → Memᴰ s (below (is_lowest n) (suc max_stop))
    → get_or (weight_row n) s 0 ≡ sum_of (λ _. 1) (below (is_in_class_of n s) (suc max_stop))
weight_row_sum n s m =
    let (h, e) = below_of_member (is_lowest n) (suc max_stop) m in
    weight_row_at n s 0 (omega arith) ∙ rw e (count_below_length _ (suc max_stop) ∙ sym (sum_of_one (below _ (suc max_stop))))

-- ---- the rating over the lowest stops

module _ {n : Net} (v : Valid n) where
  represents : StandsForEach (λ s. is_served s n.calls) (lowest_alike n) (suc max_stop)
  represents =
      record {
        bound = λ s h e. omega (arith, lowest_alike_le v s e);
        passes = λ s h e. (lowest_alike_alike v s e).first_served;
        itself = λ s h e. lowest_alike_idempotent v s e;
      }

  module _ (starts : List ℤ) where
    lowest_same_gap : (s : ℕ) → s < suc max_stop → is_served s n.calls ≡ true → stop_gap n starts (lowest_alike n s) ≡ stop_gap n starts s
    lowest_same_gap s h e = alike_same_gap v (lowest_alike_alike v s e) starts

    pub lowest_least : least_of (map (stop_gap n starts) (below (is_lowest n) (suc max_stop))) ≡ least_of (map (stop_gap n starts) (served_list n))
    unfolding is_lowest served_list
    lowest_least = least_of_representatives _ (lowest_alike n) (suc max_stop) represents (stop_gap n starts) lowest_same_gap

    -- where each stop has a weight, and a lowest stop those of its class
    pub lowest_sum : (w : ℕ → ℕ)
        → sum_of (λ s. sum_of w (below (is_in_class_of n s) (suc max_stop)) * stop_gap n starts s) (below (is_lowest n) (suc max_stop))
        ≡ sum_of (λ s. w s * stop_gap n starts s) (served_list n)
    unfolding is_lowest served_list
    lowest_sum w = sum_of_representatives _ (lowest_alike n) (suc max_stop) represents (stop_gap n starts) lowest_same_gap w

pub lowest_rating : (n : Net) → Valid n → (starts : List ℤ) → rating_over n starts (lowest_stops (class_row n) (weight_row n)) ≡ rating n starts
unfolding rating rating_over rating_by counted each_once
lowest_rating n v starts = ap₂ (λ (l s : ℕ). record { some = true; least = l; sum = s }) least sum
  where
    gap : ℕ → ℕ
    gap = stop_gap n starts

    least : least_of (map (λ (s : Counted). gap s.stop) (lowest_stops (class_row n) (weight_row n)))
        ≡ least_of (map (λ (s : Counted). gap s.stop) (each_once (served_list n)))
    least = simp (lowest_stops_rows, map-map) (lowest_least v starts)

    sum : sum_of (λ (s : Counted). s.weight * gap s.stop) (lowest_stops (class_row n) (weight_row n))
        ≡ sum_of (λ (s : Counted). s.weight * gap s.stop) (each_once (served_list n))
    sum = simp (lowest_stops_rows, sum_of_map)
        (sum_of_same _ _ _ (λ s m. ap (λ (w : ℕ). w * gap s) (weight_row_sum n s m)) ∙ lowest_sum v starts (λ _. 1))
