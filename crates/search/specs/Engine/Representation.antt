-- How the search's code holds the network, a partial timetable and a walk: rows over the calls in line order, and what they stand for.
use Rattle.std.specs.Prelude.{ℕ, zero, suc, ◌+◌, ◌*◌, ◌/◌, ◌%◌, ◌<◌, ◌≤◌, ◌≡◌, Bool, true, false, ◌&&◌, ◌||◌, List, [], ◌∷◌, ◌++◌, map, ◌⊎◌, ltb, leb, ℤ, pos, length, get_or, take, drop, Option, Some, None, Result, Ok, Err}
use Rattle.network.specs.declared.Call.{Call}
use Rattle.network.specs.declared.grounds.Refusal.{Refusal}
use Rattle.network.specs.Numbers.{number_of}
use Rattle.network.specs.Rating.{Rating}
use Rattle.network.specs.Lists.{pick, least_from}
use Rattle.network.specs.Divisor.{gcd}
use Rattle.network.specs.Network.{Net, is_served, max_lines, max_period, stop_count}
use Rattle.network.specs.Rating.{gap_of_calls}
use Rattle.network.specs.Engine.Scan.{last_at, calls_before}
use Rattle.network.specs.Engine.Rated.{ranked}
use Rattle.network.specs.Engine.Stored.{packed}
use Rattle.network.specs.Valid.{Valid, no_call}
use Rattle.search.specs.declared.Cut.{Cut}
use Rattle.search.specs.declared.Placed.{Placed}
use Rattle.search.specs.declared.Rule as declared_rule
use Rattle.search.specs.declared.Rule.TheVariants as rules
use Rattle.search.specs.declared.Starts.{Starts}
use Rattle.search.specs.declared.Task.{Task}
use Rattle.search.specs.declared.Try.{Try}
use Rattle.search.specs.declared.Walk as declared_walk
use Rattle.search.specs.Caps.{cap, upper_value, upper_rating}
use Rattle.search.specs.Walk.{State, Rule, one_try, each_start, walk}
use Rattle.search.specs.Search.{start_counts, above_best, by_sum}
use Rattle.search.specs.Wanted.{at_least}
use Rattle.search.specs.Engine.Layout.{by_line}

-- More than any arrival of the walk: a start below 1,440 and an offset below 65,536
abbrev pub arrival_limit : ℕ
arrival_limit = 67000

-- The most that 64 upper values of 16 bits add up to
abbrev pub max_upper_sum : ℕ
max_upper_sum = 4194240

-- The reciprocal of a divisor: 2^40 over it, rounded up
unfoldable pub reciprocal : ℕ → ℕ
reciprocal g = 1099511627775 / g + 1

-- A divisor below 2,048 and its reciprocal in one number, 0 for 0
unfoldable pub with_reciprocal : ℕ → ℕ
with_reciprocal zero = 0
with_reciprocal (suc g) = reciprocal (suc g) * 2048 + suc g

-- The calls of a network in the order of their lines
abbrev pub calls_by_line : Net → List Call
calls_by_line n = by_line n.calls (length n.periods)

-- The place of a line's first call and the number of its starts, which stand in one number
abbrev pub first_in : ℕ → ℕ
first_in code = code % 512

abbrev pub count_in : ℕ → ℕ
count_in code = code / 512

-- Rows that hold a valid network in the order of its lines: the calls, each packed, the way back at a stop, the divisors of the periods, and the
-- first call of each line with the number of its starts
pub record NetworkRows (n : Net) (codes previous divisors lines : List ℕ) : Type 0 where
  pub valid : Valid n
  pub code_of : (i : ℕ) → i < length n.calls → get_or codes i 0 ≡ packed (get_or (calls_by_line n) i no_call)
  pub leads : (j : ℕ) → j < length n.calls → get_or previous j 0 ≡ last_at (get_or (calls_by_line n) j no_call).stop (calls_by_line n) j
  pub divisor_of :
      (i j : ℕ)
      → i < length n.periods
      → j < length n.periods
      → get_or divisors (i * max_lines + j) 0 ≡ with_reciprocal (gcd (get_or n.periods j 0) (get_or n.periods i 0))
  pub first_of : (k : ℕ) → k ≤ length n.periods → first_in (get_or lines k 0) ≡ length (by_line n.calls k)
  pub count_of : (k : ℕ) → k < length n.periods → count_in (get_or lines k 0) ≡ get_or (start_counts n.periods) k 0

-- The least of a value and the gaps of the call at a place of that order to those before it at its stop
abbrev pub lowered_at : Net → List ℕ → ℕ → ℕ → ℕ
lowered_at n starts at value =
    least_from value
    (map (λ d. gap_of_calls n (map pos starts) d (get_or (calls_by_line n) at no_call))
    (calls_before (get_or (calls_by_line n) at no_call).stop (calls_by_line n) at))

-- The starts of the first `k` lines, as integers
abbrev pub starts_of : ℕ → List ℕ → List ℤ
starts_of k starts = map pos (take k starts)

-- A partial timetable of the first `k` lines: its starts, its upper values and its upper rating
pub record Represents (n : Net) (k : ℕ) (p : Placed) : Type 0 where
  pub starts_row : length p.starts ≡ max_lines
  pub values_row : length p.values ≡ stop_count
  pub starts_low : (i : ℕ) → get_or p.starts i 0 < max_period
  pub value_of :
      (stop : ℕ) → stop < stop_count → is_served stop n.calls ≡ true → get_or p.values stop 0 ≡ upper_value n (cap n) (starts_of k p.starts) stop
  pub sum_low : p.upper.sum ≤ max_upper_sum
  pub rating_of : ◌≡◌ {A = Rating} (record { some = true; least = p.upper.least; sum = p.upper.sum }) (upper_rating n (cap n) (starts_of k p.starts))

-- ---- a walk's rule

-- The rule that a rule of the code stands for
unfoldable pub rule_of : declared_rule.Rule → Rule
rule_of rules.AboveBest = above_best
rule_of (rules.AtLeast wanted) = at_least wanted
rule_of (rules.BySum floor) = by_sum floor

-- An upper rating by its numbers
abbrev pub rated : ℕ → ℕ → Rating
rated least sum = record { some = true; least = least; sum = sum }

-- A sum that isn't above another, if there is another
unfoldable pub is_no_above : Option ℕ → ℕ → Bool
is_no_above None sum = false
is_no_above (Some beside) sum = leb sum beside

-- What falls short of a cut
unfoldable pub is_short : Cut → ℕ → ℕ → Bool
is_short cut least sum = ltb least cut.floor || ((cut.anywhere || leb least cut.floor) && is_no_above cut.sum sum)

-- The cut of a rule beside the best so far
abbrev pub IsCut : declared_rule.Rule → Rating → Cut → Type 0
IsCut rule best cut = (least sum : ℕ) → is_short cut least sum ≡ (rule_of rule).drops (rated least sum) best

-- ---- placing a line

-- The partial timetable with one line more, at a start
abbrev pub with_start : ℕ → ℕ → Placed → List ℤ
with_start line start p = starts_of line p.starts ++ (pos start ∷ [])

-- A line can be placed at a start: the lines before it are placed
pub record CanPlace (n : Net) (line start : ℕ) (p : Placed) : Type 0 where
  pub stated : line < length n.periods
  pub start_low : start < max_period
  pub before : Represents n line p

-- It is placed
pub record PlacedMore (n : Net) (line start : ℕ) (p r : Placed) : Type 0 where
  pub one_more : Represents n (line + 1) r
  pub appended : starts_of (line + 1) r.starts ≡ with_start line start p

-- Or it is given up: what it has come to falls short, and so does its upper rating
pub record GivenUp (n : Net) (cut : Cut) (line start : ℕ) (p r : Placed) : Type 0 where
  pub come_to : is_short cut r.upper.least r.upper.sum ≡ true
  pub upper :
      is_short cut (upper_rating n (cap n) (with_start line start p)).least (upper_rating n (cap n) (with_start line start p)).sum ≡ true

-- The one or the other
abbrev pub PlacedOr : Net → Cut → Try → (p r : Placed) → Type 0
PlacedOr n cut due p r = PlacedMore n due.line due.start p r ⊎ GivenUp n cut due.line due.start p r

-- ---- the walk

-- The walk that a walk of the code over so many lines stands for; where it has no best, it has no starts
unfoldable pub state_by : ℕ → declared_walk.Walk → State
state_by lines w =
    record {
      tries = w.tries;
      stopped = w.stopped;
      best = ranked w.best;
      starts = pick (ranked w.best).some (starts_of lines w.starts) [];
    }

unfoldable pub state_of : Net → declared_walk.Walk → State
state_of n w = state_by (length n.periods) w

-- The walk on a network by a rule, from a partial timetable of the first `k` lines on
unfoldable pub walk_from : Net → Rule → ℕ → ℕ → List ℤ → State → State
walk_from n rule budget k placed s = walk (upper_rating n (cap n)) rule budget (drop k (start_counts n.periods)) placed s

-- One try of line `k` at start `x`
unfoldable pub try_at : Net → Rule → ℕ → ℕ → List ℤ → ℕ → State → State
try_at n rule budget k placed x s =
    one_try rule budget (upper_rating n (cap n) (placed ++ (pos x ∷ []))) (walk_from n rule budget (suc k) (placed ++ (pos x ∷ []))) s

-- One try, and each of a line's starts, by a task
abbrev pub one_of : Net → Task → Try → Placed → State → State
one_of n task due p = try_at n (rule_of task.rule) task.budget due.line (starts_of due.line p.starts) due.start

abbrev pub each_of : Net → Task → Starts → Placed → State → State
each_of n task starts p =
    each_start (try_at n (rule_of task.rule) task.budget starts.line (starts_of starts.line p.starts)) starts.from starts.count

-- A line can be tried: the lines before it are placed
pub record CanTry (n : Net) (line : ℕ) (p : Placed) : Type 0 where
  pub stated : line < length n.periods
  pub before : Represents n line p

-- ---- a walk on a file

-- How it ends: the walk at its end, or a refusal
pub data Ending : Type 0 where
  ended : State → Ending
  refusal : (number place : ℕ) → Ending

-- The ending that an ending of the code stands for, with a start row of so many places
unfoldable pub ending_of : ℕ → Result declared_walk.Walk Refusal → Ending
ending_of lines (Ok w) = ended (state_by lines w)
ending_of lines (Err r) = refusal (number_of r.reason) r.place

-- What a call makes of it
unfoldable pub from_ending : {A : Type 0} → (State → A) → (ℕ → ℕ → A) → Ending → A
from_ending answers refuses (ended s) = answers s
from_ending answers refuses (refusal number place) = refuses number place
