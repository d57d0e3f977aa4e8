-- The upper value of a stop, call by call: one more call at it adds its gaps to those before, the calls of the placed lines make it the
-- upper value of document 01, and of the starts only theirs count. It is the least of the cap and the gaps of all pairs, which is the
-- same in whatever order the calls are listed. Assumes nothing.
use Prim.Native.Nat.{ℕ, zero, suc, ◌+◌, ◌≤◌, ◌<◌, min}
use mathlib.Core.Path.{◌≡◌, refl, sym, ap, subst, ◌∙◌}
use mathlib.Core.Bool.{Bool}
use mathlib.Core.List.Permᴰ
use mathlib.Core.List.{List, map, Permᴰ}
use native.Mathlib.Nat.{add-zero, le_trans}
use native.Mathlib.Decide.{dec_lt, ℕ_discrete}
use native.Mathlib.Omega.{arith}
use lib.Dec.{eqb, ltb}
use lib.IntN.{ℤ}
use lib.ListN.{length, get_or}
use Rattle.network.specs.declared.Call.{Call}
use Rattle.network.specs.Lists.{keep, least_from}
use Rattle.network.specs.Network.{Net}
use Rattle.network.specs.Valid.{no_call, Valid}
use Rattle.network.specs.Rating.{period_of, gap_of_calls, pair_gaps, gap_of_stop, calls_of_stop}
use Rattle.network.specs.Engine.Scan.{calls_before}
use Rattle.network.proofs.Laws.Members.{All, keep_all, keep_swap}
use Rattle.network.proofs.Laws.Permutations.{length_permuted, keep_permuted}
use Rattle.network.proofs.Laws.Least.{least_from_le}
use Rattle.network.proofs.Laws.Gaps.{SameStart, gap_of_stop_cong, gap_of_stop_permuted, calls_of_stop_period_pos, calls_before_hit, calls_before_miss}
use Rattle.network.proofs.Laws.Gaps.{calls_before_all, calls_before_is, calls_of_stop_is, gap_of_calls_local, least_from_pair_gaps_few}
use Rattle.network.proofs.Laws.Gaps.{least_from_pair_gaps_more, least_from_pair_gaps_snoc}
use Rattle.search.specs.Caps.{placed_calls, upper_value}
use Rattle.search.specs.Engine.Layout.{by_line, value_after}
use Rattle.search.proofs.Laws.Layout.{by_line_permuted, by_line_prefix}

-- ---- one call more

module _ (n : Net) (caps : ℕ → ℕ) (starts : List ℤ) (calls : List Call) (i : ℕ) (stated : i < length calls) (stop : ℕ) where
  pub value_hit :
      (get_or calls i no_call).stop ≡ stop
      → value_after n caps starts calls (i + 1) stop
      ≡ least_from (value_after n caps starts calls i stop)
      (map (λ d. gap_of_calls n starts d (get_or calls i no_call)) (calls_before stop calls i))
  unfolding value_after
  value_hit e =
      ap (λ cs. least_from (caps stop) (pair_gaps n starts cs)) (calls_before_hit stop calls i stated e)
      ∙ least_from_pair_gaps_snoc n starts (caps stop) (calls_before stop calls i) (get_or calls i no_call)

  pub value_miss :
      ((get_or calls i no_call).stop ≡ stop → ⊥) → value_after n caps starts calls (i + 1) stop ≡ value_after n caps starts calls i stop
  unfolding value_after
  value_miss f = ap (λ cs. least_from (caps stop) (pair_gaps n starts cs)) (calls_before_miss stop calls i stated f)

-- Values only fall
module _ (n : Net) (caps : ℕ → ℕ) (starts : List ℤ) (calls : List Call) (stop : ℕ) where
  value_falls_once : (i : ℕ) → i < length calls → value_after n caps starts calls (i + 1) stop ≤ value_after n caps starts calls i stop
  value_falls_once i h = go (ℕ_discrete (get_or calls i no_call).stop stop)
    where
      go : Dec ((get_or calls i no_call).stop ≡ stop) → value_after n caps starts calls (i + 1) stop ≤ value_after n caps starts calls i stop
      go (yes e) = rw (value_hit n caps starts calls i h stop e) (least_from_le _ _)
      go (no f) = omega (arith, value_miss n caps starts calls i h stop f)

  pub value_falls : (i more : ℕ) → i + more ≤ length calls → value_after n caps starts calls (i + more) stop ≤ value_after n caps starts calls i stop
  value_falls i zero h = rw add-zero (omega arith)
  value_falls i (suc more) h =
      le_trans
      (subst (λ (j : ℕ). value_after n caps starts calls j stop ≤ value_after n caps starts calls (i + more) stop) (omega arith)
      (value_falls_once (i + more) (omega arith)))
      (value_falls i more (omega arith))

-- ---- the gaps of pairs beside a number

-- As many calls with the same gap
least_from_pair_gaps_same :
    (n : Net) (starts moved : List ℤ) (v : ℕ) (cs ds : List Call)
    → length cs ≡ length ds
    → gap_of_stop n starts cs ≡ gap_of_stop n moved ds
    → least_from v (pair_gaps n starts cs) ≡ least_from v (pair_gaps n moved ds)
least_from_pair_gaps_same n starts moved v cs ds e f = go (dec_lt 1 (length cs))
  where
    go : Dec (1 < length cs) → least_from v (pair_gaps n starts cs) ≡ least_from v (pair_gaps n moved ds)
    go (yes h) =
        least_from_pair_gaps_more n starts v cs h ∙ ap (min v) f ∙ sym (least_from_pair_gaps_more n moved v ds (omega arith))
    go (no h) = least_from_pair_gaps_few n starts v cs (omega arith) ∙ sym (least_from_pair_gaps_few n moved v ds (omega arith))

pub least_from_pair_gaps_permuted :
    (n : Net) (starts : List ℤ) (v : ℕ) {cs ds : List Call}
    → Permᴰ cs ds
    → All no_call (λ c. 0 < period_of n c) cs
    → least_from v (pair_gaps n starts cs) ≡ least_from v (pair_gaps n starts ds)
least_from_pair_gaps_permuted n starts v {cs} {ds} π positive =
    least_from_pair_gaps_same n starts starts v cs ds (length_permuted π) (gap_of_stop_permuted n starts π positive)

-- ---- after the calls of the placed lines

pub value_placed :
    (n : Net) → Valid n → (caps : ℕ → ℕ) (starts : List ℤ) (m stop : ℕ) → length starts ≤ m
    → value_after n caps starts (by_line n.calls m) (length (by_line n.calls (length starts))) stop ≡ upper_value n caps starts stop
unfolding value_after upper_value placed_calls
value_placed n valid caps starts m stop h =
    sym (least_from_pair_gaps_permuted n starts (caps stop) reordered
    (keep_all no_call is_placed (λ c. 0 < period_of n c) (calls_of_stop n stop) (λ i l e. calls_of_stop_period_pos valid stop i l)))
  where
    is_placed : Call → Bool
    is_placed c = ltb c.line (length starts)

    is_at : Call → Bool
    is_at c = eqb c.stop stop

    reordered : Permᴰ (keep is_placed (calls_of_stop n stop))
        (calls_before stop (by_line n.calls m) (length (by_line n.calls (length starts))))
    reordered =
        rw (calls_of_stop_is n stop, calls_before_is stop, keep_swap is_placed is_at n.calls, by_line_prefix n.calls (length starts) m h)
        (keep_permuted is_at (Permᴰ.symm (by_line_permuted n.calls (length starts))))

-- ---- which starts count

pub value_local :
    (n : Net) (starts moved : List ℤ) (caps : ℕ → ℕ) (calls : List Call) (i stop : ℕ)
    → ((j : ℕ) → j < i → j < length calls → SameStart starts moved (get_or calls j no_call))
    → value_after n caps starts calls i stop ≡ value_after n caps moved calls i stop
unfolding value_after
value_local n starts moved caps calls i stop f =
    least_from_pair_gaps_same n starts moved (caps stop) (calls_before stop calls i) (calls_before stop calls i) refl
    (gap_of_stop_cong n n starts moved (calls_before stop calls i) (λ j h. refl)
    (λ j k h l. gap_of_calls_local n starts moved _ _ (same j (omega arith)) (same k l)))
  where
    same : All no_call (SameStart starts moved) (calls_before stop calls i)
    same = calls_before_all stop calls (SameStart starts moved) i f
