-- Document 02, A.7: the board of a stop (its arrival board: what arrives there in a window of time), from a first minute until before that minute plus
-- a length, by time, then line, then offset; and what the board call answers and leaves in the lent rows. A board's list by what it is, and as
-- computed minute by minute: `board_is_board` of proofs/StopBoard.antt says that the one is the other.
use Rattle.std.specs.Prelude.{ℕ, zero, suc, ◌<◌, ◌≤◌, ◌≡◌, Bool, not, ◌||◌, List, [], ◌∷◌, ◌++◌, map, eqb, ltb, ℤ, pos, ◌+ℤ◌, ◌-ℤ◌, length, get_or, drop, Result, Ok, Err}
use Rattle.network.specs.declared.Call.{Call}
use Rattle.network.specs.declared.grounds.Refusal.{Refusal}
use Rattle.network.specs.Lists.{keep, below}
use Rattle.network.specs.Network.{Net, max_stop}
use Rattle.network.specs.Valid.{no_call}
use Rattle.network.specs.Gap.{trip, residue}
use Rattle.network.specs.Rating.{arrival_of, period_of, CallsThere}
use Rattle.network.specs.Tidy.{sort_by, not_after}
use Rattle.network.specs.Grounds.{Ground, ◌at◌when◌, Check, Passes, Refused, first}
use Rattle.network.specs.Numbers.{number_of}
use Rattle.network.specs.Reading.{Reading, accepted, refused, Outcome, values, refusal}

-- What is asked: a stop, the first minute, and the length in minutes (a half-open interval of time)
pub record Window : Type 0 where
  pub stop : ℕ
  pub from : ℤ
  pub minutes : ℕ

abbrev pub window : ℕ → ℤ → ℕ → Window
window stop from minutes = record { stop = stop; from = from; minutes = minutes }

-- An arrival on a board: a call, by its place in the file, and the minute
pub record Arrival : Type 0 where
  pub call : ℕ
  pub time : ℤ

-- The call at a place of the file
abbrev pub call_at : Net → ℕ → Call
call_at n c = get_or n.calls c no_call

-- ---- Over all trips

-- The arrival of a call's trip, past or future (equation 2.1.1, and document 01, "Gap and rating")
abbrev pub trip_at : Net → List ℤ → ℕ → ℤ → ℤ
trip_at n starts c k = trip (arrival_of starts (call_at n c)) (period_of n (call_at n c)) k

-- From the first minute until before that minute plus the length
abbrev pub InWindow : Window → ℤ → Type 0
InWindow w time = (m : ℕ) × (m < w.minutes) × (time ≡ w.from +ℤ pos m)

-- The first arrival may stand before the second: by time, then line, then offset
pub data NotLater (n : Net) (a b : Arrival) : Type 0 where
  earlier : (k : ℕ) → b.time ≡ a.time +ℤ pos (suc k) → NotLater n a b
  lower_line : a.time ≡ b.time → (call_at n a.call).line < (call_at n b.call).line → NotLater n a b
  no_higher_offset :
      a.time ≡ b.time
      → (call_at n a.call).line ≡ (call_at n b.call).line
      → (call_at n a.call).offset ≤ (call_at n b.call).offset
      → NotLater n a b

-- Behind a list's end
abbrev pub no_arrival : Arrival
no_arrival = record { call = 0; time = pos 0 }

-- A list is a board: it has one place for each call at the stop and each of its trips that arrives in the window, and no other place; and the arrivals
-- stand in their order
pub record IsBoard (n : Net) (starts : List ℤ) (w : Window) (list : List Arrival) : Type 0 where
  -- each such trip of each such call has a place ..
  pub listed :
      (c : ℕ) (k : ℤ)
      → CallsThere n w.stop c
      → InWindow w (trip_at n starts c k)
      → (i : ℕ) × (i < length list) × (get_or list i no_arrival ≡ record { call = c; time = trip_at n starts c k })
  -- .. and only one
  pub once : (i j : ℕ) → i < length list → j < length list → get_or list i no_arrival ≡ get_or list j no_arrival → i ≡ j
  -- and every place is that of such a trip of such a call
  pub no_other :
      (i : ℕ)
      → i < length list
      → CallsThere n w.stop (get_or list i no_arrival).call
      × InWindow w (get_or list i no_arrival).time
      × ((k : ℤ) × ((get_or list i no_arrival).time ≡ trip_at n starts (get_or list i no_arrival).call k))
  pub in_order : (i j : ℕ) → i < j → j < length list → NotLater n (get_or list i no_arrival) (get_or list j no_arrival)

-- ---- As computed

-- Some trip of the call arrives at this minute: it is a whole multiple of the period from one of its arrivals
unfoldable pub arrives : Net → List ℤ → ℤ → Call → Bool
arrives n starts time c = eqb (residue (time -ℤ arrival_of starts c) (period_of n c)) 0

-- The calls at the stop, by line and then offset
unfoldable pub board_calls : Net → ℕ → List ℕ
board_calls n stop =
    sort_by (λ c d. not_after (call_at n c) (call_at n d)) (below (λ c. eqb (call_at n c).stop stop) (length n.calls))

-- The arrivals at one minute
unfoldable pub board_at : Net → List ℤ → ℕ → ℤ → List Arrival
board_at n starts stop time =
    map (λ (c : ℕ). record { call = c; time = time }) (keep (λ c. arrives n starts time (call_at n c)) (board_calls n stop))

-- The arrivals of the first `m` minutes from a minute on
unfoldable pub board_from : Net → List ℤ → ℕ → ℤ → ℕ → List Arrival
board_from n starts stop from zero = []
board_from n starts stop from (suc m) = board_from n starts stop from m ++ board_at n starts stop (from +ℤ pos m)

unfoldable pub board : Net → List ℤ → Window → List Arrival
board n starts w = board_from n starts w.stop w.from w.minutes

-- Its times and its lines, of which the lent rows take one each
unfoldable pub times : List Arrival → List ℤ
times list = map (λ (a : Arrival). a.time) list

unfoldable pub lines : Net → List Arrival → List ℕ
lines n list = map (λ (a : Arrival). (call_at n a.call).line) list

-- ---- What the board call answers

-- The longest board
abbrev pub max_minutes : ℕ
max_minutes = 10080

-- The call's own grounds, after the file's, on a row of so many times and one of so many lines
unfoldable pub board_grounds : Net → List ℤ → Window → ℕ → ℕ → List Ground
board_grounds n starts w time_row line_row =
    (15 at 0 when not (eqb (length starts) (length n.periods))) ∷
    (8 at 0 when ltb max_stop w.stop) ∷
    (22 at 0 when ltb max_minutes w.minutes) ∷
    (23 at 0 when ltb time_row (length (board n starts w)) || ltb line_row (length (board n starts w))) ∷
    []

-- The board call's answer: the count; or the refusal
unfoldable pub board_answer : Result ℕ Refusal → Outcome
board_answer (Ok count) = values (count ∷ [])
board_answer (Err r) = refusal (number_of r.reason) r.place

-- A refusal, or what stands where no ground applies
unfoldable pub refused_or : {A : Type 0} → Check → (ℕ → ℕ → A) → A → A
refused_or (Refused number place) refuses a = refuses number place
refused_or Passes refuses a = a

-- What the board call has to answer, given how long the rows are: the file's refusal, then its own grounds, then the count
unfoldable pub board_outcome : Window → ℕ → ℕ → Reading → List ℤ → Outcome
board_outcome w time_row line_row (refused number place) starts = refusal number place
board_outcome w time_row line_row (accepted n) starts =
    refused_or (first (board_grounds n starts w time_row line_row)) refusal (values (length (board n starts w) ∷ []))

-- What the lent row of times holds afterwards, given both rows as they were: the board's times and behind them what it held; where the call refuses,
-- what it held
unfoldable pub time_row_after : Window → List ℤ → List ℕ → Reading → List ℤ → List ℤ
time_row_after w time_row line_row (refused number place) starts = time_row
time_row_after w time_row line_row (accepted n) starts =
    refused_or (first (board_grounds n starts w (length time_row) (length line_row))) (λ number place. time_row)
    (times (board n starts w) ++ drop (length (board n starts w)) time_row)

-- The same of the lent row of lines
unfoldable pub line_row_after : Window → List ℤ → List ℕ → Reading → List ℤ → List ℕ
line_row_after w time_row line_row (refused number place) starts = line_row
line_row_after w time_row line_row (accepted n) starts =
    refused_or (first (board_grounds n starts w (length time_row) (length line_row))) (λ number place. line_row)
    (lines n (board n starts w) ++ drop (length (board n starts w)) line_row)
