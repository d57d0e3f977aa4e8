-- The pass over the calls of a stop computes its cap: one call more adds its C/T and its pairs with those before, and the cap is the lesser
-- of what the pairs and the spacing so made give, at most the longest period. By cases and inductions over lists. Assumes nothing.
use Prim.Native.Nat.{ℕ, ◌+◌, ◌*◌, ◌/◌, ◌<◌, ◌≤◌, min}
use mathlib.Core.Path.{◌≡◌, refl, ap, ◌∙◌}
use mathlib.Core.Bool.{Bool, true, false}
use mathlib.Core.List.{List, [], ◌∷◌, ◌++◌, map, map-append}
use native.Mathlib.Nat.{le_trans, div-le_self, zero-lt-suc}
use native.Mathlib.Decide.{dec_lt}
use native.Mathlib.Omega.{arith}
use lib.Dec.{eqb}
use lib.ListN.{length, get_or}
use Rattle.network.specs.declared.Call.{Call}
use Rattle.network.specs.Lists.{pick, least_of, least_from}
use Rattle.network.specs.Loops.{own_gap}
use Rattle.network.specs.Network.{Net, is_served, cycle, max_period}
use Rattle.network.specs.Rating.{period_of, calls_of_stop}
use Rattle.network.specs.Engine.Scan.{calls_before}
use Rattle.network.specs.Valid.{Valid, no_call}
use Rattle.network.proofs.Laws.Members.{member_of_pairs_of, member_of_place, pairs_of_few, pairs_of_some}
use Rattle.network.proofs.Laws.Least.{least_from_le, least_from_least_of, least_from_min, least_from_nil, least_from_pairs_of_snoc, least_from_snoc}
use Rattle.network.proofs.Laws.Least.{least_of_le}
use Rattle.network.proofs.Laws.Sums.{le_sum_of, sum_of_le, sum_of_nil, sum_of_snoc}
use Rattle.network.proofs.Laws.Divisor.{gcd_le_left, quotient_pos}
use Rattle.network.proofs.Laws.Gaps.{calls_before_hit, calls_before_miss, cycle_pos, calls_before_none, calls_of_stop_unserved, calls_of_stop_stated}
use Rattle.network.proofs.Laws.Gaps.{period_divides_cycle, period_of_le, period_of_pos, own_gap_half}
use Rattle.search.specs.Caps.{half_of, pair_cap, pair_caps, even_spacing, cap_of_calls, cap}
use Rattle.search.specs.Engine.CapScan.{visits_of, least_pair_cap, bounds_of}

-- ---- forward through the calls at a stop

pub least_none : (g : Call → ℕ) (v stop : ℕ) (l : List Call) → least_from v (map g (calls_before stop l 0)) ≡ v
least_none g v stop l = ap (λ cs. least_from v (map g cs)) (calls_before_none stop l) ∙ least_from_nil v

module _ (g : Call → ℕ) (v stop : ℕ) (l : List Call) (k : ℕ) (stated : k < length l) where
  -- a call at the stop is one more of those
  pub least_hit :
      (get_or l k no_call).stop ≡ stop
      → least_from v (map g (calls_before stop l (k + 1))) ≡ min (least_from v (map g (calls_before stop l k))) (g (get_or l k no_call))
  least_hit e =
      ap (λ cs. least_from v (map g cs)) (calls_before_hit stop l k stated e)
      ∙ ap (least_from v) (map-append g (calls_before stop l k) (get_or l k no_call ∷ []))
      ∙ least_from_snoc v (map g (calls_before stop l k)) (g (get_or l k no_call))
      ∙ least_from_min v (g (get_or l k no_call)) (map g (calls_before stop l k))

  -- any other call is none of them
  pub least_miss : ((get_or l k no_call).stop ≡ stop → ⊥) → least_from v (map g (calls_before stop l (k + 1))) ≡ least_from v (map g (calls_before stop l k))
  least_miss f = ap (λ cs. least_from v (map g cs)) (calls_before_miss stop l k stated f)

module _ (n : Net) where
  least_from_pair_caps_few : (v : ℕ) (cs : List Call) → length cs ≤ 1 → least_from v (pair_caps n cs) ≡ v
  unfolding pair_caps
  least_from_pair_caps_few v cs h = ap (least_from v) (pairs_of_few (pair_cap n) cs h) ∙ least_from_nil v

  -- ---- one call more

  pub least_pair_cap_first : (cs : List Call) (d : Call) → length cs ≡ 0 → least_pair_cap n (cs ++ (d ∷ [])) ≡ period_of n d
  unfolding least_pair_cap
  least_pair_cap_first [] d h = least_from_pair_caps_few (period_of n d) (d ∷ []) (omega arith)
  least_pair_cap_first (c ∷ cs) d h = absurd (omega arith)

  pub least_pair_cap_snoc :
      (cs : List Call) (d : Call)
      → 0 < length cs
      → least_pair_cap n (cs ++ (d ∷ [])) ≡ least_from (least_pair_cap n cs) (map (λ c. pair_cap n c d) cs)
  unfolding least_pair_cap pair_caps
  least_pair_cap_snoc [] d h = absurd (omega arith)
  least_pair_cap_snoc (c ∷ cs) d h = least_from_pairs_of_snoc (pair_cap n) (period_of n c) (c ∷ cs) d

  pub visits_of_snoc : (cs : List Call) (d : Call) → visits_of n (cs ++ (d ∷ [])) ≡ visits_of n cs + cycle n / period_of n d
  unfolding visits_of
  visits_of_snoc cs d = sum_of_snoc (λ (c : Call). cycle n / period_of n c) cs d

  -- each call adds a cycle at most
  pub visits_of_le : (k : ℕ) (cs : List Call) → cycle n ≤ k → visits_of n cs ≤ length cs * k
  unfolding visits_of
  visits_of_le k cs h = sum_of_le (λ (c : Call). cycle n / period_of n c) k cs (λ c m. le_trans (div-le_self (cycle n) (period_of n c)) h)

  pub bounds_of_none : bounds_of n [] ≡ record { calls = 0; visits = 0; pair = 0 }
  unfolding bounds_of visits_of least_pair_cap
  bounds_of_none = ap (λ (v : ℕ). record { calls = 0; visits = v; pair = 0 }) (sum_of_nil (λ (c : Call). cycle n / period_of n c))

  pub bounds_of_made :
      (calls visits pair : ℕ) (cs : List Call)
      → calls ≡ length cs
      → visits ≡ visits_of n cs
      → pair ≡ least_pair_cap n cs
      → record { calls = calls; visits = visits; pair = pair } ≡ bounds_of n cs
  unfolding bounds_of
  bounds_of_made calls visits pair cs e f g = cc

  -- ---- the cap of the bounds

  pub cap_of_few : (cs : List Call) → length cs < 2 → least_pair_cap n cs ≡ cap_of_calls n cs
  unfolding cap_of_calls least_pair_cap
  cap_of_few [] h = refl
  cap_of_few (c ∷ []) h = least_from_pair_caps_few (period_of n c) (c ∷ []) (omega arith)
  cap_of_few (c ∷ d ∷ cs) h = absurd (omega arith)

  pair_cap_le_period : (c d : Call) → 0 < period_of n c → pair_cap n c d ≤ period_of n c
  unfolding pair_cap half_of
  pair_cap_le_period c d h = go (eqb c.line d.line)
    where
      go : (t : Bool) → pick t (own_gap n c d) (half_of n c d) ≤ period_of n c
      go true = le_trans (own_gap_half n c d) (div-le_self _ 2)
      go false = le_trans (div-le_self _ 2) (gcd_le_left (period_of n c) (period_of n d) h)

  -- the first call's period is above what each of its pairs gives, so that it may stand beside them
  pub cap_of_many :
      (cs : List Call)
      → 2 ≤ length cs
      → 0 < period_of n (get_or cs 0 no_call)
      → min (least_pair_cap n cs) (cycle n / visits_of n cs) ≡ cap_of_calls n cs
  unfolding cap_of_calls least_pair_cap pair_caps even_spacing visits_of
  cap_of_many [] h p = absurd (omega arith)
  cap_of_many (c ∷ []) h p = absurd (omega arith)
  cap_of_many (c ∷ d ∷ cs) h p =
      ap (λ (v : ℕ). min v (even_spacing n (c ∷ d ∷ cs)))
      (least_from_least_of (period_of n c) (pair_caps n (c ∷ d ∷ cs)) (pairs_of_some (pair_cap n) (c ∷ d ∷ cs) (omega arith)) ∙ omega (arith, below))
    where
      below : least_of (pair_caps n (c ∷ d ∷ cs)) ≤ period_of n c
      below =
          le_trans
          (least_of_le (pair_caps n (c ∷ d ∷ cs)) (member_of_pairs_of (pair_cap n) no_call (c ∷ d ∷ cs) 0 1 (omega arith) (omega arith)))
          (pair_cap_le_period c d p)

  visits_of_pos : (cs : List Call) → 0 < length cs → 0 < cycle n / period_of n (get_or cs 0 no_call) → 0 < visits_of n cs
  unfolding visits_of
  visits_of_pos cs h p = omega (arith, le_sum_of (λ (c : Call). cycle n / period_of n c) cs (member_of_place cs no_call 0 h))

  least_pair_cap_le : (most : ℕ) (cs : List Call) → (0 < length cs → period_of n (get_or cs 0 no_call) ≤ most) → least_pair_cap n cs ≤ most
  unfolding least_pair_cap
  least_pair_cap_le most [] f = omega arith
  least_pair_cap_le most (c ∷ cs) f = le_trans (least_from_le (period_of n c) _) (f (zero-lt-suc _))

-- A stop that isn't served has the cap 0
pub cap_unserved : (n : Net) (stop : ℕ) → is_served stop n.calls ≡ false → cap n stop ≡ 0
unfolding cap cap_of_calls
cap_unserved n stop e = ap (cap_of_calls n) (calls_of_stop_unserved n stop e)

-- The stops of an accepted network
module _ (n : Net) (valid : Valid n) (stop : ℕ) where
  abbrev calls : List Call
  calls = calls_of_stop n stop

  abbrev first_call : Call
  first_call = get_or calls 0 no_call

  first_line : 0 < length calls → first_call.line < length n.periods
  first_line = calls_of_stop_stated valid stop 0

  first_visits : 0 < length calls → 0 < cycle n / period_of n first_call
  first_visits h = quotient_pos (period_of n first_call) (cycle n) (period_divides_cycle n first_call (first_line h)) (cycle_pos valid)

  pub visits_pos : 0 < length calls → 0 < visits_of n calls
  visits_pos h = visits_of_pos n calls h (first_visits h)

  -- the cap of a stop is what the code computes
  pub cap_few : length calls < 2 → least_pair_cap n calls ≡ cap n stop
  unfolding cap
  cap_few = cap_of_few n calls

  pub cap_many : 2 ≤ length calls → min (least_pair_cap n calls) (cycle n / visits_of n calls) ≡ cap n stop
  unfolding cap
  cap_many h = cap_of_many n calls h (period_of_pos valid first_call (first_line (omega arith)))

  pairs_small : least_pair_cap n calls ≤ max_period
  pairs_small = least_pair_cap_le n max_period calls (λ h. period_of_le valid first_call (first_line h))

  -- no cap is above the longest period
  pub cap_le : cap n stop ≤ max_period
  cap_le = go (dec_lt (length calls) 2)
    where
      go : Dec (length calls < 2) → cap n stop ≤ max_period
      go (yes h) = omega (arith, cap_few h, pairs_small)
      go (no f) = omega (arith, cap_many (omega arith), pairs_small)
