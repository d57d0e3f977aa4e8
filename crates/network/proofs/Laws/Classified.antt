-- The class row and the weight row by what they mean: a served stop's entry is the least stop alike to it, and a stop's weight is how many
-- stops have it for their entry. Assumes nothing.
use Prim.Native.Nat.{ℕ, suc, ◌≤◌, ◌<◌}
use mathlib.Core.Path.{◌≡◌, sym, ap, ◌∙◌}
use mathlib.Core.Bool.{Bool, true, false}
use native.Mathlib.Omega.{arith}
use lib.Dec.{eqb}
use lib.ListN.{get_or}
use Rattle.network.specs.Lists.{pick, count_below}
use Rattle.network.specs.Network.{Net, max_stop, stop_count, is_served}
use Rattle.network.specs.Valid.{Valid}
use Rattle.network.specs.Classes.{Alike, lowest_alike, is_lowest, unserved, class_row, weight_row, class_count}
use Rattle.network.proofs.Laws.Tables.{count_below_same}
use Rattle.network.proofs.Laws.Classes.{is_in_class_of, lowest_alike_alike, lowest_alike_lowest, class_row_at, weight_row_at}
use Rattle.network.proofs.Laws.ClassRows.{class_at_in, weight_is}

module _ (n : Net) (s : ℕ) (low : s ≤ max_stop) where
  -- The entry of a served stop, and of an unserved one
  entry_served : is_served s n.calls ≡ true → get_or (class_row n) s 0 ≡ lowest_alike n s
  entry_served e = class_row_at n s 0 low ∙ ap (λ (b : Bool). pick b (lowest_alike n s) unserved) e

  pub entry_unserved : is_served s n.calls ≡ false → get_or (class_row n) s 0 ≡ unserved
  entry_unserved e = class_row_at n s 0 low ∙ ap (λ (b : Bool). pick b (lowest_alike n s) unserved) e

-- The test that a stop has another for its entry
entry_is : (n : Net) (s : ℕ) → s ≤ max_stop → (t : ℕ) → t < suc max_stop → is_in_class_of n s t ≡ eqb (get_or (class_row n) t 0) s
entry_is n s low t h = class_at_in n t s (omega arith) ∙ ap (λ (k : ℕ). eqb k s) (sym (class_row_at n t 0 (omega arith)))

module _ {n : Net} (v : Valid n) (s : ℕ) (low : s ≤ max_stop) where
  pub entry_alike : is_served s n.calls ≡ true → Alike n (get_or (class_row n) s 0) s
  entry_alike e = rw (entry_served n s low e) (lowest_alike_alike v s e)

  pub entry_least : {t : ℕ} → Alike n t s → get_or (class_row n) s 0 ≤ t
  entry_least a = rw (entry_served n s low a.second_served) (lowest_alike_lowest v a)

  pub weight_counts : get_or (weight_row n) s 0 ≡ count_below (λ t. eqb (get_or (class_row n) t 0) s) stop_count
  weight_counts =
      weight_row_at n s 0 low ∙ sym (weight_is v s) ∙ count_below_same (is_in_class_of n s) _ stop_count (entry_is n s low)

pub classes_count : (n : Net) → class_count n ≡ count_below (λ s. eqb (get_or (class_row n) s 0) s) stop_count
unfolding class_count is_lowest
classes_count n = count_below_same (is_lowest n) _ stop_count (λ s h. entry_is n s (omega arith) s h)
