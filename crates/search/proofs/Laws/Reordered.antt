-- The walk is the same whatever order a file lists its calls in, and in either edition: caps and upper values depend on a stop's calls and not on
-- their order, since what a pair caps its stop at and gaps are those of a pair whichever comes first, and a sum is that of its terms. Assumes
-- nothing.
use Prim.Native.Nat.{ℕ, zero, suc, ◌/◌, ◌<◌, min}
use mathlib.Core.Path.{◌≡◌, refl, sym, ap, ap₂, fun_ext, ◌∙◌}
use mathlib.Core.List.{List, [], ◌∷◌, Permᴰ}
use native.Mathlib.Decide.{dec_lt, ℕ_discrete}
use native.Mathlib.Omega.{arith}
use lib.Dec.{eqb, ltb}
use lib.IntN.{ℤ}
use lib.ListN.{length}
use borrow.Author.Tests.{eq-eqb, ne_eqb}
use Rattle.network.specs.declared.Call.{Call}
use Rattle.network.specs.Rating.{Rating}
use Rattle.network.specs.Archive.{SameOffsets}
use Rattle.network.specs.Lists.{pick, least_of, pairs_of, sum_of, least_from}
use Rattle.network.specs.Divisor.{gcd}
use Rattle.network.specs.Loops.{own_gap}
use Rattle.network.specs.Network.{Net, cycle}
use Rattle.network.specs.Rating.{period_of, pair_gaps, calls_of_stop, rating_by}
use Rattle.network.specs.Valid.{no_call, Valid}
use Rattle.network.proofs.Laws.Divisor.{gcd_comm}
use Rattle.network.proofs.Laws.Gaps.{gap_of_stop_permuted, least_from_pair_gaps_few, least_from_pair_gaps_more, calls_of_stop_period_pos, own_gap_is_fold, own_gap_symmetric}
use Rattle.network.proofs.Laws.Gaps.{plain, plain_same, calls_of_stop_plain, periods_plain, cycle_plain, period_of_plain, pair_gaps_plain, counted_plain}
use Rattle.network.proofs.Laws.Least.{least_of_permuted}
use Rattle.network.proofs.Laws.Members.{All, keep_all}
use Rattle.network.proofs.Laws.Permutations.{length_permuted, keep_permuted, sum_of_permuted, pairs_of_permuted}
use Rattle.network.proofs.Laws.Sums.{sum_of_nil, sum_of_snoc}
use Rattle.search.specs.Caps.{half_of, pair_cap, pair_caps, even_spacing, cap_of_calls, cap, placed_calls, upper_value, upper_rating}
use Rattle.search.specs.Search.{start_counts, walked}
use Rattle.search.specs.Walk.{Rule, at_first, walk}

-- ---- caps

module _ (n : Net) where
  pair_cap_symmetric : (c d : Call) → pair_cap n c d ≡ pair_cap n d c
  unfolding pair_cap half_of
  pair_cap_symmetric c d = go (ℕ_discrete c.line d.line)
    where
      go : Dec (c.line ≡ d.line) → pick (eqb c.line d.line) (own_gap n c d) (half_of n c d) ≡ pick (eqb d.line c.line) (own_gap n d c) (half_of n d c)
      go (yes same) = rw (eq-eqb c.line d.line same, eq-eqb d.line c.line (sym same)) (own_gap_symmetric n c d same)
      go (no differ) =
          rw (ne_eqb c.line d.line differ, ne_eqb d.line c.line (λ e. differ (sym e)))
          (ap (λ (g : ℕ). g / 2) (gcd_comm (period_of n c) (period_of n d)))

  pair_caps_permuted : {cs ds : List Call} → Permᴰ cs ds → least_of (pair_caps n cs) ≡ least_of (pair_caps n ds)
  unfolding pair_caps
  pair_caps_permuted π = least_of_permuted (pairs_of_permuted (pair_cap n) pair_cap_symmetric π)

  even_spacing_permuted : {cs ds : List Call} → Permᴰ cs ds → even_spacing n cs ≡ even_spacing n ds
  unfolding even_spacing
  even_spacing_permuted π = ap (λ (k : ℕ). cycle n / k) (sum_of_permuted (λ (c : Call). cycle n / period_of n c) π)

  -- by how many calls there are
  cap_by : ℕ → List Call → ℕ
  cap_by zero cs = 0
  cap_by (suc zero) cs = sum_of (period_of n) cs
  cap_by (suc (suc k)) cs = min (least_of (pair_caps n cs)) (even_spacing n cs)

  cap_by_is : (cs : List Call) → cap_of_calls n cs ≡ cap_by (length cs) cs
  unfolding cap_of_calls cap_by
  cap_by_is [] = refl
  cap_by_is (c ∷ []) = omega (arith, sum_of_snoc (period_of n) [] c, sum_of_nil (period_of n))
  cap_by_is (c ∷ d ∷ cs) = refl

  cap_by_permuted : (k : ℕ) {cs ds : List Call} → Permᴰ cs ds → cap_by k cs ≡ cap_by k ds
  unfolding cap_by
  cap_by_permuted zero π = refl
  cap_by_permuted (suc zero) π = sum_of_permuted (period_of n) π
  cap_by_permuted (suc (suc k)) π = ap₂ min (pair_caps_permuted π) (even_spacing_permuted π)

  cap_of_calls_permuted : {cs ds : List Call} → Permᴰ cs ds → cap_of_calls n cs ≡ cap_of_calls n ds
  cap_of_calls_permuted {cs} {ds} π =
      cap_by_is cs ∙ ap (λ (k : ℕ). cap_by k cs) (length_permuted π) ∙ cap_by_permuted (length ds) π ∙ sym (cap_by_is ds)

-- ---- the least of a number and the gaps of all pairs

least_from_permuted : (n : Net) (starts : List ℤ) (v : ℕ) {cs ds : List Call} → Permᴰ cs ds → All no_call (λ c. 0 < period_of n c) cs
    → least_from v (pair_gaps n starts cs) ≡ least_from v (pair_gaps n starts ds)
least_from_permuted n starts v {cs} {ds} π positive = go (dec_lt 1 (length cs))
  where
    go : Dec (1 < length cs) → least_from v (pair_gaps n starts cs) ≡ least_from v (pair_gaps n starts ds)
    go (yes h) =
        least_from_pair_gaps_more n starts v cs h
        ∙ ap (min v) (gap_of_stop_permuted n starts π positive)
        ∙ sym (least_from_pair_gaps_more n starts v ds (rw (← length_permuted π) h))
    go (no h) =
        least_from_pair_gaps_few n starts v cs (omega arith) ∙ sym (least_from_pair_gaps_few n starts v ds (omega (arith, length_permuted π)))

-- ---- a network with its calls in order, in the first edition

module _ {n : Net} (valid : Valid n) where
  own_gap_plain : (c d : Call) → own_gap (plain n) c d ≡ own_gap n c d
  own_gap_plain c d =
      sym (own_gap_is_fold (plain n) c d (period_of (plain n) c) refl)
      ∙ own_gap_is_fold n c d (period_of (plain n) c) (ap (λ (period : Call → ℕ). period c) (period_of_plain n))

  pair_cap_plain : pair_cap (plain n) ≡ pair_cap n
  unfolding pair_cap half_of
  pair_cap_plain =
      fun_ext
      (λ c.
      fun_ext
      (λ d.
      ap₂ (pick (eqb c.line d.line)) (own_gap_plain c d)
      (ap (λ (period : Call → ℕ). gcd (period c) (period d) / 2) (period_of_plain n))))

  cap_of_calls_plain : (cs : List Call) → cap_of_calls (plain n) cs ≡ cap_of_calls n cs
  unfolding cap_of_calls pair_caps even_spacing
  cap_of_calls_plain [] = refl
  cap_of_calls_plain (c ∷ []) = ap (λ (period : Call → ℕ). period c) (period_of_plain n)
  cap_of_calls_plain (c ∷ d ∷ cs) =
      ap₂ min (ap (λ (pair : Call → Call → ℕ). least_of (pairs_of pair (c ∷ d ∷ cs))) pair_cap_plain)
      (ap₂ (λ (period : Call → ℕ) (common : ℕ). common / sum_of (λ (c : Call). common / period c) (c ∷ d ∷ cs)) (period_of_plain n) (cycle_plain n))

  cap_plain : (stop : ℕ) → cap (plain n) stop ≡ cap n stop
  unfolding cap
  cap_plain stop = cap_of_calls_plain (calls_of_stop (plain n) stop) ∙ sym (cap_of_calls_permuted n (calls_of_stop_plain n stop))

  upper_value_plain : (starts : List ℤ) (stop : ℕ) → upper_value (plain n) (cap (plain n)) starts stop ≡ upper_value n (cap n) starts stop
  unfolding upper_value placed_calls
  upper_value_plain starts stop =
      ap₂ (λ (v : ℕ) (gaps : List ℤ → List Call → List ℕ). least_from v (gaps starts (placed_calls starts (calls_of_stop (plain n) stop)))) (cap_plain stop) (pair_gaps_plain n)
      ∙ sym
      (least_from_permuted n starts (cap n stop) (keep_permuted (λ (c : Call). ltb c.line (length starts)) (calls_of_stop_plain n stop))
      (keep_all no_call (λ (c : Call). ltb c.line (length starts)) (λ c. 0 < period_of n c) (calls_of_stop n stop)
      (λ i h _. calls_of_stop_period_pos valid stop i h)))

  upper_rating_plain : upper_rating (plain n) (cap (plain n)) ≡ upper_rating n (cap n)
  unfolding upper_rating
  upper_rating_plain = fun_ext (λ starts. ap₂ rating_by (fun_ext (upper_value_plain starts)) (counted_plain valid))

  walked_plain : (rule : Rule) (budget : ℕ) → walked (plain n) rule budget ≡ walked n rule budget
  unfolding walked
  walked_plain rule budget =
      ap₂ (λ (upper : List ℤ → Rating) (periods : List ℕ). walk upper rule budget (start_counts periods) [] at_first) upper_rating_plain (periods_plain n)

-- Two files with the same periods and offsets
pub walked_same : {m n : Net} → Valid m → Valid n → SameOffsets m n → (rule : Rule) (budget : ℕ) → walked m rule budget ≡ walked n rule budget
walked_same v w same rule budget =
    sym (walked_plain v rule budget) ∙ ap (λ (k : Net). walked k rule budget) (plain_same same) ∙ walked_plain w rule budget
