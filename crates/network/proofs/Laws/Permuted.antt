-- Neither the gap of a stop nor the rating depends on the order in which calls are listed: what holds of all elements of a list, or of
-- all its pairs whichever comes first, holds of each of its permutations. Assumes nothing.
use Prim.Native.Nat.{ℕ, zero, suc, ◌≤◌, ◌<◌}
use mathlib.Core.Path.{◌≡◌, refl, sym, ap, subst, fun_ext, ◌∙◌}
use mathlib.Core.List.{List}
use mathlib.Core.List.{Permᴰ}
use mathlib.Core.List.Permᴰ
use native.Mathlib.Nat.{le_antisymm}
use native.Mathlib.Omega.{arith}
use lib.Dec.{eqb}
use lib.IntN.{ℤ}
use lib.ListN.{length, get_or}
use Rattle.network.specs.declared.Call.{Call}
use Rattle.network.specs.Lists.{below}
use Rattle.network.specs.Network.{Net, max_stop, is_served}
use Rattle.network.specs.Valid.{no_call, Valid}
use Rattle.network.specs.Rating.{period_of, gap_of_calls, gap_of_stop, calls_of_stop, stop_gap, served_list, each_once, counted, rating}
use Rattle.network.proofs.Laws.Members.{All, AllPairs}
use Rattle.network.proofs.Laws.Permutations.{all_permuted, any_permuted, keep_permuted, length_permuted, pairs_permuted}
use Rattle.network.proofs.Laws.Pairs.{gap_of_calls_symmetric, gap_of_stop_le_pair, gap_of_stop_attained, gap_of_stop_none, gap_of_stop_single}
use Rattle.network.proofs.Laws.Pairs.{gap_of_stop_periods}
use Rattle.network.proofs.Laws.StopGap.{calls_of_stop_period_pos}
use Rattle.network.proofs.Laws.Rating.{rating_cong}

module _ (n : Net) (starts : List ℤ) where
  -- No pair of the one list is closer than the other's gap
  gap_of_stop_le_permuted : {cs ds : List Call} → Permᴰ cs ds → All no_call (λ c. 0 < period_of n c) cs → 1 < length ds
      → gap_of_stop n starts cs ≤ gap_of_stop n starts ds
  gap_of_stop_le_permuted {cs} {ds} π positive h =
      let (j, k, l, m, e) = gap_of_stop_attained n starts ds h in
      subst (λ v. gap_of_stop n starts cs ≤ v) e (pairs_permuted no_call R swap π far j k l m).2
    where
      R : Call → Call → Type 0
      R c d = (0 < period_of n c) × (0 < period_of n d) × (gap_of_stop n starts cs ≤ gap_of_calls n starts c d)

      swap : (c d : Call) → R c d → R d c
      swap c d (p, q, l) = (q, p, rw (gap_of_calls_symmetric n starts d c q p) l)

      far : AllPairs no_call R cs
      far j k l m = (positive j (omega arith), positive k m, gap_of_stop_le_pair n starts cs j k l m)

  pub gap_of_stop_permuted : {cs ds : List Call} → Permᴰ cs ds → All no_call (λ c. 0 < period_of n c) cs
      → gap_of_stop n starts cs ≡ gap_of_stop n starts ds
  gap_of_stop_permuted {cs} {ds} π positive = go (length cs) refl (sym (length_permuted π))
    where
      first : ℕ
      first = period_of n (get_or cs 0 no_call)

      only : length cs ≡ 1 → All no_call (λ c. first ≡ period_of n c) cs
      only e i h = ap (λ (i : ℕ). period_of n (get_or cs i no_call)) (omega arith)

      go : (l : ℕ) → length cs ≡ l → length ds ≡ length cs → gap_of_stop n starts cs ≡ gap_of_stop n starts ds
      go zero e f = gap_of_stop_none n starts cs e ∙ sym (gap_of_stop_none n starts ds (f ∙ e))
      go (suc zero) e f =
          gap_of_stop_single n starts cs e ∙ all_permuted no_call (λ c. first ≡ period_of n c) π (only e) 0 (omega arith)
          ∙ sym (gap_of_stop_single n starts ds (f ∙ e))
      go (suc (suc l)) e f =
          le_antisymm (gap_of_stop_le_permuted π positive (omega arith))
          (gap_of_stop_le_permuted (Permᴰ.symm π) (all_permuted no_call (λ c. 0 < period_of n c) π positive) (omega arith))

-- Two networks with the same periods, the calls in another order
module _ (n m : Net) (valid : Valid n) (periods : n.periods ≡ m.periods) (π : Permᴰ n.calls m.calls) where
  pub counted_permuted : counted n ≡ counted m
  unfolding counted served_list is_served
  counted_permuted = ap (λ p. each_once (below p (suc max_stop))) (fun_ext (λ stop. any_permuted (λ (c : Call). eqb c.stop stop) π))

  pub stop_gap_permuted : (starts : List ℤ) (stop : ℕ) → stop_gap n starts stop ≡ stop_gap m starts stop
  unfolding stop_gap calls_of_stop
  stop_gap_permuted starts stop =
      gap_of_stop_permuted n starts (keep_permuted (λ (c : Call). eqb c.stop stop) π) (calls_of_stop_period_pos valid stop)
      ∙ gap_of_stop_periods n m periods starts (calls_of_stop m stop)

  pub rating_permuted : (starts : List ℤ) → rating n starts ≡ rating m starts
  rating_permuted starts = rating_cong n m starts starts counted_permuted (stop_gap_permuted starts)
