-- Document 01, "Caps", and document 02, A.2: the cap of a stop, its upper value with only some lines placed, and the upper rating. (An upper value is
-- an upper bound of the stop's gap over all completions of a partial timetable, and the upper rating one of the rating.)
use Rattle.std.specs.Prelude.{ℕ, ◌/◌, min, List, [], ◌∷◌, eqb, ltb, ℤ, length}
use Rattle.network.specs.declared.Call.{Call}
use Rattle.network.specs.Lists.{pick, keep, sum_of, least_of, pairs_of, least_from}
use Rattle.network.specs.Divisor.{gcd}
use Rattle.network.specs.Network.{Net, cycle}
use Rattle.network.specs.Loops.{own_gap}
use Rattle.network.specs.Rating.{Rating, period_of, pair_gaps, calls_of_stop, counted, rating_by}

-- The half of g, rounded down, of two calls
unfoldable pub half_of : Net → Call → Call → ℕ
half_of n c d = gcd (period_of n c) (period_of n d) / 2

-- What a pair of calls caps its stop at: of two lines the half of g, of one line its exact gap (A.2)
unfoldable pub pair_cap : Net → Call → Call → ℕ
pair_cap n c d = pick (eqb c.line d.line) (own_gap n c d) (half_of n c d)

-- Over all pairs of different calls
unfoldable pub pair_caps : Net → List Call → List ℕ
pair_caps n cs = pairs_of (pair_cap n) cs

-- The whole part of C / (sum of C/T over the calls)
unfoldable pub even_spacing : Net → List Call → ℕ
even_spacing n cs = cycle n / sum_of (λ (c : Call). cycle n / period_of n c) cs

-- The cap of a stop with these calls
unfoldable pub cap_of_calls : Net → List Call → ℕ
cap_of_calls n [] = 0
cap_of_calls n (c ∷ []) = period_of n c
cap_of_calls n (c ∷ d ∷ cs) = min (least_of (pair_caps n (c ∷ d ∷ cs))) (even_spacing n (c ∷ d ∷ cs))

unfoldable pub cap : Net → ℕ → ℕ
cap n stop = cap_of_calls n (calls_of_stop n stop)

-- A partial timetable places the first lines, one for each of its starts. The calls of placed lines
unfoldable pub placed_calls : List ℤ → List Call → List Call
placed_calls starts cs = keep (λ (c : Call). ltb c.line (length starts)) cs

-- The upper value of a stop: the least of its cap and the gaps of its placed pairs
unfoldable pub upper_value : Net → (ℕ → ℕ) → List ℤ → ℕ → ℕ
upper_value n caps starts stop = least_from (caps stop) (pair_gaps n starts (placed_calls starts (calls_of_stop n stop)))

-- The upper rating: the least upper value, and the sum of upper values
unfoldable pub upper_rating : Net → (ℕ → ℕ) → List ℤ → Rating
upper_rating n caps starts = rating_by (upper_value n caps starts) (counted n)
