-- No starts give a stop a gap above its cap: the gap is at most that of each pair, which is at most half of g and of one line the same whatever
-- its start, and the minutes that arrivals kept so far apart take up fit into the common cycle. Assumes nothing.
use Prim.Native.Nat.{ℕ, zero, suc, ◌/◌, ◌≤◌, ◌<◌}
use mathlib.Core.Path.{◌≡◌, refl, sym, ap, subst, ◌∙◌}
use mathlib.Core.Bool.{Bool}
use mathlib.Core.List.{List, [], ◌∷◌}
use native.Mathlib.Decide.{ℕ_discrete}
use native.Mathlib.Nat.{le_trans, zero-lt-suc, le-div_iff_mul-le}
use native.Mathlib.Omega.{arith}
use lib.IntN.{ℤ}
use lib.ListN.{length, get_or}
use borrow.Author.Tests.{eq-eqb, ne_eqb}
use Rattle.network.specs.declared.Call.{Call}
use Rattle.network.specs.Lists.{pick, sum_of, least_of}
use Rattle.network.specs.Divisor.{Divides, gcd}
use Rattle.network.specs.Network.{Net, cycle}
use Rattle.network.specs.Loops.{own_gap}
use Rattle.network.specs.Valid.{no_call, Valid}
use Rattle.network.specs.Rating.{period_of, gap_of_calls, gap_of_stop, calls_of_stop, stop_gap}
use Rattle.network.proofs.Laws.Members.{All, AllPairs, every_two_of_places, member_of_pairs_of, member_of_place, of_all, pair_of_pairs_of, pairs_of_some}
use Rattle.network.proofs.Laws.Least.{least_of_le, least_of_member}
use Rattle.network.proofs.Laws.Sums.{le_sum_of}
use Rattle.network.proofs.Laws.Divisor.{gcd_le_left, pos_of_divides, quotient_pos}
use Rattle.network.proofs.Laws.Gaps.{gap_of_stop_half, gap_of_stop_le_pair, cycle_pos, calls_of_stop_stated, gap_of_stop_none, gap_of_stop_single}
use Rattle.network.proofs.Laws.Gaps.{period_divides_cycle, stop_gap_is, gap_of_calls_half, gap_of_calls_own}
use Rattle.search.specs.Caps.{half_of, pair_cap, pair_caps, even_spacing, cap_of_calls, cap}
use Rattle.search.proofs.Laws.Cover.{cover_calls}

-- ---- a pair

module _ (n : Net) (starts : List ℤ) (c d : Call) where
  -- A line's own pair caps its stop at its gap ..
  pair_cap_own : c.line ≡ d.line → pair_cap n c d ≡ gap_of_calls n starts c d
  unfolding pair_cap
  pair_cap_own same = ap (λ (t : Bool). pick t (own_gap n c d) (half_of n c d)) (eq-eqb _ _ same) ∙ sym (gap_of_calls_own n c d same starts)

  -- .. and one of two lines at the half of g, which is no less
  pair_cap_of_lines : (c.line ≡ d.line → ⊥) → pair_cap n c d ≡ gcd (period_of n c) (period_of n d) / 2
  unfolding pair_cap half_of
  pair_cap_of_lines differ = ap (λ (t : Bool). pick t (own_gap n c d) (half_of n c d)) (ne_eqb _ _ differ)

  pub gap_of_calls_le_pair_cap : gap_of_calls n starts c d ≤ pair_cap n c d
  gap_of_calls_le_pair_cap = go (ℕ_discrete c.line d.line)
    where
      go : Dec (c.line ≡ d.line) → gap_of_calls n starts c d ≤ pair_cap n c d
      go (yes same) = omega (arith, pair_cap_own same)
      go (no differ) = omega (arith, pair_cap_of_lines differ, gap_of_calls_half n starts c d)

-- ---- two calls or more

module _ (n : Net) (starts : List ℤ) (c d : Call) (rest : List Call) where
  abbrev cs : List Call
  cs = c ∷ d ∷ rest

  abbrev gap : ℕ
  gap = gap_of_stop n starts cs

  gap_le_least_pair_cap : gap ≤ least_of (pair_caps n cs)
  unfolding pair_caps
  gap_le_least_pair_cap =
      let (j, k, h, l, e) = pair_of_pairs_of (pair_cap n) no_call cs (least_of_member (pair_caps n cs) (pairs_of_some (pair_cap n) cs (omega arith))) in
      subst (λ v. gap ≤ v) e (le_trans (gap_of_stop_le_pair n starts cs j k h l) (gap_of_calls_le_pair_cap n starts _ _))

  module _ (C-pos : 0 < cycle n) (divides : All no_call (λ c. Divides (period_of n c) (cycle n)) cs) where
    gap_le_period_beside : (j k : ℕ) → (j ≡ k → ⊥) → j < length cs → k < length cs → gap ≤ period_of n (get_or cs j no_call)
    gap_le_period_beside j k f h l =
        let half_le = gcd_le_left _ (period_of n (get_or cs k no_call)) (pos_of_divides _ _ (divides j h) C-pos) in
        omega (arith, gap_of_stop_half n starts cs j k f h l)

    gap_le_period : All no_call (λ c. gap ≤ period_of n c) cs
    gap_le_period zero h = gap_le_period_beside 0 1 (λ e. omega arith) h (omega arith)
    gap_le_period (suc i) h = gap_le_period_beside (suc i) 0 (λ e. omega arith) h (omega arith)

    gap_le_even_spacing : gap ≤ even_spacing n cs
    unfolding even_spacing
    gap_le_even_spacing = (le-div_iff_mul-le some).1
        (cover_calls n starts (cycle n) gap cs C-pos (λ c m. of_all (λ c. Divides (period_of n c) (cycle n)) cs no_call divides m)
        (λ c m. of_all (λ c. gap ≤ period_of n c) cs no_call gap_le_period m)
        (every_two_of_places _ no_call cs (gap_of_stop_le_pair n starts cs)))
      where
        some : 0 < sum_of (λ (c : Call). cycle n / period_of n c) cs
        some =
            omega (
              arith,
              le_sum_of (λ (c : Call). cycle n / period_of n c) cs (member_of_place cs no_call 0 (zero-lt-suc _)),
              quotient_pos (period_of n c) (cycle n) (divides 0 (zero-lt-suc _)) C-pos,
            )

-- ---- any calls, and those of a stop

gap_of_stop_le_cap : (n : Net) (starts : List ℤ) (cs : List Call) → 0 < cycle n
    → All no_call (λ c. Divides (period_of n c) (cycle n)) cs → gap_of_stop n starts cs ≤ cap_of_calls n cs
unfolding cap_of_calls
gap_of_stop_le_cap n starts [] h f = omega (arith, gap_of_stop_none n starts [] refl)
gap_of_stop_le_cap n starts (c ∷ []) h f = omega (arith, gap_of_stop_single n starts (c ∷ []) refl)
gap_of_stop_le_cap n starts (c ∷ d ∷ rest) h f =
    omega (arith, gap_le_least_pair_cap n starts c d rest, gap_le_even_spacing n starts c d rest h f)

-- and no cap is above what a pair gives
cap_of_calls_le_pair : (n : Net) (cs : List Call) → AllPairs no_call (λ c d. cap_of_calls n cs ≤ pair_cap n c d) cs
unfolding cap_of_calls pair_caps
cap_of_calls_le_pair n [] j k h l = absurd (omega arith)
cap_of_calls_le_pair n (c ∷ []) j k h l = absurd (omega arith)
cap_of_calls_le_pair n (c ∷ d ∷ cs) j k h l =
    le_trans (omega arith) (least_of_le (pair_caps n (c ∷ d ∷ cs)) (member_of_pairs_of (pair_cap n) no_call (c ∷ d ∷ cs) j k h l))

pub cap_sound : {n : Net} → Valid n → (starts : List ℤ) (stop : ℕ) → stop_gap n starts stop ≤ cap n stop
unfolding cap
cap_sound {n} valid starts stop =
    rw stop_gap_is
    (gap_of_stop_le_cap n starts (calls_of_stop n stop) (cycle_pos valid) (λ i h. period_divides_cycle n _ (calls_of_stop_stated valid stop i h)))

-- A line's own pair is already in the cap: its gap is never below its stop's cap
pub cap_le_own_gap : (n : Net) (starts : List ℤ) (stop : ℕ) (j k : ℕ) → j < k → k < length (calls_of_stop n stop)
    → (get_or (calls_of_stop n stop) j no_call).line ≡ (get_or (calls_of_stop n stop) k no_call).line
    → cap n stop ≤ gap_of_calls n starts (get_or (calls_of_stop n stop) j no_call) (get_or (calls_of_stop n stop) k no_call)
unfolding cap
cap_le_own_gap n starts stop j k h l same =
    subst (λ (v : ℕ). cap_of_calls n (calls_of_stop n stop) ≤ v) (pair_cap_own n starts _ _ same) (cap_of_calls_le_pair n (calls_of_stop n stop) j k h l)
