-- How the engine computes the caps: over the calls of a stop it counts them, sums C/T, and takes the least of the first one's period and what
-- each pair caps the stop at, looking from each call at those before it.
use Rattle.std.specs.Prelude.{ℕ, ◌/◌, List, [], ◌∷◌, length}
use Rattle.network.specs.declared.Call.{Call}
use Rattle.network.specs.Lists.{sum_of, least_from}
use Rattle.network.specs.Network.{Net, cycle}
use Rattle.network.specs.Rating.{period_of}
use Rattle.search.specs.declared.caps.Bounds.{Bounds}
use Rattle.search.specs.Caps.{pair_caps}

-- The sum of C/T over the calls
unfoldable pub visits_of : Net → List Call → ℕ
visits_of n cs = sum_of (λ (c : Call). cycle n / period_of n c) cs

-- The least of the first call's period and the caps of all pairs; 0 where there is no call
unfoldable pub least_pair_cap : Net → List Call → ℕ
least_pair_cap n [] = 0
least_pair_cap n (c ∷ cs) = least_from (period_of n c) (pair_caps n (c ∷ cs))

-- What the cap of a stop with these calls is made of
unfoldable pub bounds_of : Net → List Call → Bounds
bounds_of n cs = record { calls = length cs; visits = visits_of n cs; pair = least_pair_cap n cs }
