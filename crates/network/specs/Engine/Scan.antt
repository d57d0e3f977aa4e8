-- How the engine computes the gaps of all stops in one pass over the calls: from each call it goes back through the calls at the same stop.
use Rattle.std.specs.Prelude.{ℕ, zero, suc, ◌+◌, ◌*◌, ◌-◌, ◌<◌, ◌≤◌, min, ◌≡◌, Bool, true, false, List, [], ◌∷◌, map, eqb, ℤ, ◌-ℤ◌, length, get_or, take}
use Rattle.network.specs.declared.Call.{Call}
use Rattle.network.specs.declared.Rows.{Rows}
use Rattle.network.specs.Lists.{pick, keep, below}
use Rattle.network.specs.Network.{max_lines, max_stop}
use Rattle.network.specs.Engine.Stored.{net_of, calls_in, Sound}
use Rattle.network.specs.Valid.{Valid, no_call}
use Rattle.network.specs.Divisor.{gcd}
use Rattle.network.specs.Gap.{residue, fold}
use Rattle.network.specs.Rating.{Rating, Counted, arrival_of, no_rating, rating_by}

-- One more than the latest of the first `k` calls that is at the stop, 0 where none is
unfoldable pub last_at : ℕ → List Call → ℕ → ℕ
last_at stop calls zero = 0
last_at stop calls (suc k) = pick (eqb (get_or calls k no_call).stop stop) (suc k) (last_at stop calls k)

-- The calls at a stop among the first `k`
unfoldable pub calls_before : ℕ → List Call → ℕ → List Call
calls_before stop calls k = keep (λ (c : Call). eqb c.stop stop) (take k calls)

-- A row that leads from each of the first `k` calls to the one before it at its stop
unfoldable pub LeadsBack : List ℕ → List Call → ℕ → Type 0
LeadsBack previous calls k = (j : ℕ) → j < k → get_or previous j 0 ≡ last_at (get_or calls j no_call).stop calls j

-- The stops that a row counts, with the weights of another
unfoldable pub counted_stops : List Bool → List ℕ → List Counted
counted_stops counts weights =
    map (λ (s : ℕ). record { stop = s; weight = get_or weights s 0 }) (below (λ s. get_or counts s false) (suc max_stop))

-- The weights that a rating takes: 64 stops of 1,440 minutes, each so many times, stay below 2^32
abbrev pub max_weight : ℕ
max_weight = 2000

-- The rating of the stops passed so far, none before the first
unfoldable pub rating_so_far : (ℕ → ℕ) → List Counted → Rating
rating_so_far gap [] = no_rating
rating_so_far gap (s ∷ rest) = rating_by gap (s ∷ rest)

-- A rating with one stop more
unfoldable pub with_stop : Rating → ℕ → ℕ → Rating
with_stop r gap weight =
    record { some = true; least = pick r.some (min r.least gap) gap; sum = r.sum + weight * gap }

-- Rows that are lent in place of a network: its periods and its calls, with how many of each count
pub record Lent (periods list : List ℕ) (lines calls : ℕ) : Type 0 where
  pub network : Rows
  pub sound : Sound network
  pub valid : Valid (net_of network)
  pub periods_are : periods ≡ network.periods
  pub list_is : list ≡ network.list
  pub lines_are : lines ≡ length (net_of network).periods
  pub calls_are : calls ≡ network.count

-- A row that has for each two lines the greatest common divisor of their periods, the pairs of a line side by side
unfoldable pub DivisorsOf : List ℕ → List ℕ → Type 0
DivisorsOf periods divisors =
    (i j : ℕ) → i < length periods → j < length periods → get_or divisors (i * max_lines + j) 0 ≡ gcd (get_or periods i 0) (get_or periods j 0)

-- The gap of two calls by theorem 3.1.2, `g` being the greatest common divisor of their lines' periods
unfoldable pub gap_by : ℕ → List ℤ → Call → Call → ℕ
gap_by g starts c d = fold g (residue (arrival_of starts c -ℤ arrival_of starts d) g)

-- What is beside a network to go back through the calls of a stop: the divisors of its periods, and the way back from each of the first `k` calls
pub record WaysBack (n : Rows) (divisors previous : List ℕ) (k : ℕ) : Type 0 where
  pub divisors_are : DivisorsOf (net_of n).periods divisors
  pub leads : LeadsBack previous (calls_in n.list) k

-- A call of the network beside the first `k` calls, of which the latest is at its stop, and a sheet that fits
pub record Beside (n : Rows) (sheet : List ℤ) (call : Call) (k : ℕ) : Type 0 where
  pub fits : length sheet ≡ length (net_of n).periods
  pub own_line : call.line < length (net_of n).periods
  pub within : k ≤ n.count
  pub lands : 0 < k → (get_or (calls_in n.list) (k - 1) no_call).stop ≡ call.stop
