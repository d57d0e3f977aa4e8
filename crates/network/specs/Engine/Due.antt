-- How the engine lists a board: rows with a place for each call at the stop, in their order, and the minutes since each call's latest arrival brought
-- forward from minute to minute.
use Rattle.std.specs.Prelude.{ℕ, zero, suc, ◌+◌, ◌/◌, ◌<◌, ◌≤◌, ◌≡◌, Bool, not, ◌||◌, List, [], ◌∷◌, ◌++◌, map, eqb, ltb, ℤ, pos, ◌-ℤ◌, length, get_or, take, drop}
use Rattle.network.specs.Lists.{pick, count_below, below}
use Rattle.network.specs.Network.{Net, max_period, max_stop, max_at_stop}
use Rattle.network.specs.Gap.{residue}
use Rattle.network.specs.Rating.{arrival_of, period_of}
use Rattle.network.specs.Classes.{ordered, ordered_call}
use Rattle.network.specs.Grounds.{Ground, ◌at◌when◌}
use Rattle.network.specs.Reading.{Outcome, values, refusal}
use Rattle.network.specs.Board.{Arrival, times, lines, max_minutes}

-- The call at a place is due: with one minute more its period has passed
unfoldable pub due_in : List ℕ → List ℕ → ℕ → Bool
due_in periods since j = eqb (get_or since j 0 + 1) (get_or periods j 0)

-- The minutes since the latest arrival, one minute later
unfoldable pub one_later : List ℕ → List ℕ → ℕ → ℕ
one_later periods since j = pick (due_in periods since j) 0 (get_or since j 0 + 1)

-- A row in which the numbers below `j` that pass a test are listed from a place on, by what each gives, and behind them what stood there
unfoldable pub listed_in : {A : Type 0} → List A → ℕ → (ℕ → A) → (ℕ → Bool) → ℕ → List A
listed_in row place f p j = take place row ++ map f (below p j) ++ drop (place + count_below p j) row

-- How many arrivals the first `count` calls have in so many minutes
unfoldable pub arrivals_in : List ℕ → List ℕ → ℕ → ℕ → ℕ
arrivals_in periods since minutes zero = 0
arrivals_in periods since minutes (suc j) = arrivals_in periods since minutes j + (minutes + get_or since j 0) / get_or periods j 0

-- Rows of so many calls: the minutes since each one's latest arrival are fewer than its period
pub record WithinPeriods (count : ℕ) (periods since : List ℕ) : Type 0 where
  pub few : count ≤ max_at_stop
  pub since_row : length since ≡ max_at_stop
  pub since_low : (j : ℕ) → j < count → get_or since j 0 < get_or periods j 0
  pub period_low : (j : ℕ) → j < count → get_or periods j 0 ≤ max_period

-- The rows of a stop's calls before a minute
pub record Ready (n : Net) (starts : List ℤ) (stop : ℕ) (time : ℤ) (count : ℕ) (lines periods since : List ℕ) : Type 0 where
  pub since_row : length since ≡ max_at_stop
  pub count_is : count ≡ length (ordered n stop)
  pub line_is : (j : ℕ) → j < count → get_or lines j 0 ≡ (ordered_call n stop j).line
  pub period_is : (j : ℕ) → j < count → get_or periods j 0 ≡ period_of n (ordered_call n stop j)
  pub since_is :
      (j : ℕ)
      → j < count
      → get_or since j 0 ≡ residue (time -ℤ pos 1 -ℤ arrival_of starts (ordered_call n stop j)) (period_of n (ordered_call n stop j))

-- ---- The board call's parts

-- The grounds that need no list
unfoldable pub asked_grounds : (lines starts stop minutes : ℕ) → List Ground
asked_grounds lines starts stop minutes =
    (15 at 0 when not (eqb starts lines)) ∷ (8 at 0 when ltb max_stop stop) ∷ (22 at 0 when ltb max_minutes minutes) ∷ []

-- Ground 23: a row is shorter than the list
unfoldable pub too_short : List Arrival → ℕ → ℕ → Bool
too_short list time_row line_row = ltb time_row (length list) || ltb line_row (length list)

-- What is answered where none of the others applies, and what the rows hold
unfoldable pub listed_outcome : List Arrival → ℕ → ℕ → Outcome
listed_outcome list time_row line_row = pick (too_short list time_row line_row) (refusal 23 0) (values (length list ∷ []))

unfoldable pub listed_times : List Arrival → List ℤ → List ℕ → List ℤ
listed_times list time_row line_row = pick (too_short list (length time_row) (length line_row)) time_row (times list ++ drop (length list) time_row)

unfoldable pub listed_lines : Net → List Arrival → List ℤ → List ℕ → List ℕ
listed_lines n list time_row line_row = pick (too_short list (length time_row) (length line_row)) line_row (lines n list ++ drop (length list) line_row)
