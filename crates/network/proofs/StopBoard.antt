-- What document 02, A.7, asks of the board of a stop, of every accepted file that is lent to a board call and all integer starts: the computed list is the
-- board over all trips, past and future, and its rows are the only ones. It holds since minute by minute the calls that arrive are those with a trip then, in
-- their order: Laws/Board.antt; the cases compute. And what the order demands of the board call. The theorems on calls are about every one that has returned,
-- where it keeps the contract in src/, which every call does. Assumes nothing.
use Prim.Native.Nat.{ℕ, ◌+◌, ◌*◌, ◌<◌, ◌≤◌}
use mathlib.Core.Path.{◌≡◌, refl, sym, ap, ap₂, ◌∙◌}
use native.Mathlib.Omega.{arith}
use mathlib.Core.Bool.{false}
use mathlib.Core.List.{List, [], ◌∷◌, ◌++◌, map}
use lib.IntN.{ℤ, pos, negsuc, ◌+ℤ◌}
use borrow.Fn.World.{ArgsD, ResD}
use borrow.Fn.Kinds.{ended_of}
use contract.Lifetimes.{Lfts}
use denote.Triple.Clauses.{AtExit}
use lib.ListN.{length, get_or, drop}
use Rattle.network.specs.declared.Call.{Call}
use Rattle.network.specs.Lists.{keep, below}
use Rattle.network.specs.Network.{Net, net_with, max_stop, is_served}
use Rattle.network.specs.Valid.{Valid}
use Rattle.network.specs.Gap.{residue}
use Rattle.network.specs.Rating.{arrival_of, period_of, CallsThere}
use Rattle.network.specs.Archive.{SameOffsets}
use Rattle.network.specs.Tidy.{insert_by, sort_by, not_after}
use Rattle.network.specs.Reading.{Outcome, values, refusal, read_file, accepted, refused}
use Rattle.network.specs.Refusals.{Fits, BoardRefuses, of_file, of_sheet, of_stop, of_length, of_row, Demand1}
use Rattle.network.specs.Board.{Window, window, Arrival, call_at, trip_at, InWindow, IsBoard, arrives, board_calls, board_at, board_from, board, times, lines}
use Rattle.network.specs.Board.{max_minutes, board_answer}
use Rattle.network.proofs.Laws.Board as law
use Rattle.network.proofs.Laws.BoardCall.{board_refuses, board_refuses_only, board_rows_as_found, board_answers, board_answers_none}
use Rattle.network.proofs.Laws.Gap.{trip_injective}
use Rattle.network.proofs.Laws.Reading.{no_8_at_0}
use Rattle.network.proofs.Laws.Valid.{accepted_valid}
use Rattle.network.proofs.Demands.{alike_of_bytes}
use Rattle.network.specs.contracts.board.board as board_call
use Rattle.network.proofs.board.board.Kinds as board_kinds
use Rattle.network.proofs.board.board.Reads as board_contract
-- ---- What each answer of the call tells: the count, or number and place of the refusal

pub use Rattle.network.proofs.Laws.Answers.{board_answer_listed, board_answer_refused}

-- What is lent to a call, and the rows at its exit
module _ (κs : Lfts 4) (a : ArgsD board_call.signature κs) where
  abbrev pub file : List ℕ
  file = a.0.now

  abbrev pub sheet : List ℤ
  sheet = a.1.0.now

  abbrev pub asked : Window
  asked = window a.1.1.0 a.1.1.1.0 a.1.1.1.1.0

  abbrev pub time_row : List ℤ
  time_row = a.1.1.1.1.1.0.now

  abbrev pub line_row : List ℕ
  line_row = a.1.1.1.1.1.1.0.now

module _ (κs : Lfts 4) (s : AtExit (ended_of 4 board_kinds.ps board_kinds.r) κs) where
  abbrev pub times_after : List ℤ
  times_after = s.1.1.1.1.1.0.now

  abbrev pub lines_after : List ℕ
  lines_after = s.1.1.1.1.1.1.0.now

-- ---- A board's list, of every network and all integer starts

-- An unserved stop has none
pub board_unserved : (n : Net) (starts : List ℤ) (w : Window) → is_served w.stop n.calls ≡ false → board n starts w ≡ []
board_unserved = law.board_unserved

-- In no minutes none arrives
pub board_no_minutes : (n : Net) (starts : List ℤ) (stop : ℕ) (from : ℤ) → board n starts (window stop from 0) ≡ []
board_no_minutes = law.board_no_minutes

-- Both rows take one number for each arrival
pub board_rows_length : (n : Net) (starts : List ℤ) (w : Window)
    → (length (times (board n starts w)) ≡ length (board n starts w)) × (length (lines n (board n starts w)) ≡ length (board n starts w))
board_rows_length n starts w = (law.length_times (board n starts w), law.length_lines n (board n starts w))

-- Two windows side by side have the one's arrivals and then the other's
pub board_side_by_side : (n : Net) (starts : List ℤ) (stop : ℕ) (from : ℤ) (a b : ℕ)
    → board n starts (window stop from (a + b)) ≡ board n starts (window stop from a) ++ board n starts (window stop (from +ℤ pos a) b)
board_side_by_side = law.board_side_by_side

-- ---- .. of every accepted file that is lent

-- At most 32 arrive in a minute, each of 16 lines twice: of every network within the limits, for the export's page too
pub valid_board_length_le : {n : Net} → Valid n → (starts : List ℤ) (w : Window) → length (board n starts w) ≤ 32 * w.minutes
valid_board_length_le = law.board_length_le

module _ (κs : Lfts 4) (a : ArgsD board_call.signature κs) (r : ResD board_call.signature κs)
    (s : AtExit (ended_of 4 board_kinds.ps board_kinds.r) κs) (kept : board_contract.Post κs a r s) {n : Net}
    (reads : read_file (file κs a) ≡ accepted n) where
  valid : Valid n
  valid = accepted_valid (file κs a) n kept.1.1.1 reads

  -- The computed list has one place for each trip of each call at the stop that arrives in the window, and no other; by time, then line, then offset
  pub board_is_board : (starts : List ℤ) (w : Window) → IsBoard n starts w (board n starts w)
  board_is_board = law.board_is_board valid

  -- .. where a call's trips are told apart by their minutes
  pub trips_apart : (starts : List ℤ) (stop c : ℕ) → CallsThere n stop c → (j k : ℤ) → trip_at n starts c j ≡ trip_at n starts c k → j ≡ k
  unfolding period_of
  trips_apart starts stop c calls j k e = trip_injective _ _ (valid.period_pos (call_at n c).line (valid.call_line c calls.stated)) j k e

  -- All such lists have the same times and lines, and one length: what is left open is the order of a line's two calls with one offset, which no row shows
  pub IsBoard-rows : {starts : List ℤ} {w : Window} {xs ys : List Arrival} → IsBoard n starts w xs → IsBoard n starts w ys
      → (times xs ≡ times ys) × (lines n xs ≡ lines n ys) × (length xs ≡ length ys)
  IsBoard-rows = law.IsBoard-rows valid

  -- .. so that whatever list is a board, the computed rows are its rows
  pub board_rows_only : (starts : List ℤ) (w : Window) (xs : List Arrival) → IsBoard n starts w xs
      → (times (board n starts w) ≡ times xs) × (lines n (board n starts w) ≡ lines n xs)
  board_rows_only starts w xs b =
      let rows = law.IsBoard-rows valid (law.board_is_board valid starts w) b in (rows.0, rows.1)

  -- At most 32 arrive in a minute
  pub board_length_le : (starts : List ℤ) (w : Window) → length (board n starts w) ≤ 32 * w.minutes
  board_length_le = valid_board_length_le valid

  -- Every time is in the window
  pub board_times_in_window : (starts : List ℤ) (w : Window) (i : ℕ) → i < length (times (board n starts w))
      → InWindow w (get_or (times (board n starts w)) i (pos 0))
  board_times_in_window = law.times_in_window valid

  -- Every line is one of the network
  pub board_lines_stated : (starts : List ℤ) (w : Window) (i : ℕ) → i < length (lines n (board n starts w))
      → get_or (lines n (board n starts w)) i 0 < length n.periods
  board_lines_stated = law.lines_stated valid

  -- Where all starts and the window move by `k`, so does every arrival, and nothing else changes
  pub board_moved : (starts : List ℤ) → length starts ≡ length n.periods → (k : ℤ) (stop : ℕ) (from : ℤ) (minutes : ℕ)
      → board n (map (λ x. x +ℤ k) starts) (window stop (from +ℤ k) minutes)
      ≡ map (λ (a : Arrival). record { call = a.call; time = a.time +ℤ k }) (board n starts (window stop from minutes))
  board_moved = law.board_moved valid

  -- .. so that each time is moved, and the lines are the same
  pub board_rows_moved : (starts : List ℤ) → length starts ≡ length n.periods → (k : ℤ) (stop : ℕ) (from : ℤ) (minutes : ℕ)
      → (times (board n (map (λ x. x +ℤ k) starts) (window stop (from +ℤ k) minutes)) ≡ map (λ x. x +ℤ k) (times (board n starts (window stop from minutes))))
      × (lines n (board n (map (λ x. x +ℤ k) starts) (window stop (from +ℤ k) minutes)) ≡ lines n (board n starts (window stop from minutes)))
  board_rows_moved = law.board_rows_moved valid

-- ---- The board call

pub board_asks_nothing : (κs : Lfts 4) (a : ArgsD board_call.signature κs) → board_contract.Pre κs a
board_asks_nothing κs a = tt

-- What it answers and leaves in the rows where no ground applies
pub record Lists (n : Net) (sheet : List ℤ) (w : Window) (answer : Outcome) (time_row : List ℤ) (line_row : List ℕ) (times_after : List ℤ) (lines_after : List ℕ) : Type 0 where
  -- the rows hold the times and lines of a board, and what lies behind stays; the answer is its count
  pub list : List Arrival
  pub is_board : IsBoard n sheet w list
  pub answered : answer ≡ values (length list ∷ [])
  pub times_written : times_after ≡ times list ++ drop (length list) time_row
  pub lines_written : lines_after ≡ lines n list ++ drop (length list) line_row
  -- whichever list is a board, these are its rows and its count
  pub only : (xs : List Arrival) → IsBoard n sheet w xs → (times xs ≡ times list) × (lines n xs ≡ lines n list) × (length xs ≡ length list)
  -- at most 32 for each minute; each time is in the window, and each line one of the network
  pub count_range : length list ≤ 32 * w.minutes
  pub times_in_window : (i : ℕ) → i < length (times list) → InWindow w (get_or (times list) i (pos 0))
  pub lines_stated : (i : ℕ) → i < length (lines n list) → get_or (lines n list) i 0 < length n.periods

pub lists : {n : Net} → Valid n → (sheet : List ℤ) (w : Window) (time_row : List ℤ) (line_row : List ℕ)
    → Lists n sheet w (values (length (board n sheet w) ∷ [])) time_row line_row (times (board n sheet w) ++ drop (length (board n sheet w)) time_row) (lines n (board n sheet w) ++ drop (length (board n sheet w)) line_row)
lists {n} valid sheet w time_row line_row =
    record {
      list = board n sheet w;
      is_board = law.board_is_board valid sheet w;
      answered = refl;
      times_written = refl;
      lines_written = refl;
      only = λ xs b. law.IsBoard-rows valid b (law.board_is_board valid sheet w);
      count_range = law.board_length_le valid sheet w;
      times_in_window = law.times_in_window valid sheet w;
      lines_stated = law.lines_stated valid sheet w;
    }

module _ (κs : Lfts 4) (a : ArgsD board_call.signature κs) (r : ResD board_call.signature κs)
    (s : AtExit (ended_of 4 board_kinds.ps board_kinds.r) κs) (kept : board_contract.Post κs a r s) where
  pub board_demand_1 : Demand1 (λ number place. board_answer r ≡ refusal number place) (BoardRefuses (file κs a) (Fits (sheet κs a)) (sheet κs a) (asked κs a) (time_row κs a) (line_row κs a))
      ((times_after κs s ≡ time_row κs a) × (lines_after κs s ≡ line_row κs a))
  board_demand_1 =
      record {
        faulty_is_refused = λ number place f. kept.0 ∙ board_refuses (file κs a) (sheet κs a) (asked κs a) (time_row κs a) (line_row κs a) f;
        no_other_is_refused = λ number place e. board_refuses_only (file κs a) (sheet κs a) (asked κs a) (time_row κs a) (line_row κs a) (sym kept.0 ∙ e);
        rows_as_found = λ number place e.
            let (times_are, lines_are) = board_rows_as_found (file κs a) (sheet κs a) (asked κs a) (time_row κs a) (line_row κs a) (sym kept.0 ∙ e) in
            (kept.1.0 ∙ times_are, kept.1.1.0 ∙ lines_are);
      }

  -- A refusal by 8 at place 0 is by the stop that was asked for: no file is refused so
  pub board_eight_at_zero : board_answer r ≡ refusal 8 0 → max_stop < (asked κs a).stop
  board_eight_at_zero e = go (board_demand_1.no_other_is_refused 8 0 e) refl refl
    where
      go : {number place : ℕ} → BoardRefuses (file κs a) (Fits (sheet κs a)) (sheet κs a) (asked κs a) (time_row κs a) (line_row κs a) number place
          → number ≡ 8 → place ≡ 0 → max_stop < (asked κs a).stop
      go (of_file {number = number} {place = place} reads) is there = absurd (no_8_at_0 (file κs a) (reads ∙ ap₂ refused is there))
      go (of_sheet reads differ) is there = absurd (omega (arith, is))
      go (of_stop reads fits high) is there = high
      go (of_length reads fits low long) is there = absurd (omega (arith, is))
      go (of_row reads fits low within short) is there = absurd (omega (arith, is))

  -- Every arrival in the window, on an accepted file and a sheet that fits, at a stop up to 63 and for up to 10,080 minutes, in rows that are long enough
  pub board_lists : {n : Net} → read_file (file κs a) ≡ accepted n → length (sheet κs a) ≡ length n.periods → (asked κs a).stop ≤ max_stop → (asked κs a).minutes ≤ max_minutes
      → length (board n (sheet κs a) (asked κs a)) ≤ length (time_row κs a) → length (board n (sheet κs a) (asked κs a)) ≤ length (line_row κs a)
      → Lists n (sheet κs a) (asked κs a) (board_answer r) (time_row κs a) (line_row κs a) (times_after κs s) (lines_after κs s)
  board_lists {n} reads fits low within times_fit lines_fit =
      let (told, times_are, lines_are) = board_answers (file κs a) (sheet κs a) (asked κs a) (time_row κs a) (line_row κs a) reads fits low within times_fit lines_fit in
      rw (kept.0 ∙ told, kept.1.0 ∙ times_are, kept.1.1.0 ∙ lines_are) (lists (accepted_valid (file κs a) n kept.1.1.1 reads) (sheet κs a) (asked κs a) (time_row κs a) (line_row κs a))

  none_listed : {n : Net} → read_file (file κs a) ≡ accepted n → length (sheet κs a) ≡ length n.periods → (asked κs a).stop ≤ max_stop
      → (asked κs a).minutes ≤ max_minutes → board n (sheet κs a) (asked κs a) ≡ []
      → (board_answer r ≡ values (0 ∷ [])) × (times_after κs s ≡ time_row κs a) × (lines_after κs s ≡ line_row κs a)
  none_listed reads fits low within none =
      let (told, times_are, lines_are) = board_answers_none (file κs a) (sheet κs a) (asked κs a) (time_row κs a) (line_row κs a) reads fits low within none in
      (kept.0 ∙ told, kept.1.0 ∙ times_are, kept.1.1.0 ∙ lines_are)

  -- An unserved stop, and 0 minutes, answer 0 and leave rows of any length, 0 too, as found
  pub board_call_unserved : {n : Net} → read_file (file κs a) ≡ accepted n → length (sheet κs a) ≡ length n.periods → (asked κs a).stop ≤ 63
      → (asked κs a).minutes ≤ 10080 → is_served (asked κs a).stop n.calls ≡ false
      → (board_answer r ≡ values (0 ∷ [])) × (times_after κs s ≡ time_row κs a) × (lines_after κs s ≡ line_row κs a)
  board_call_unserved {n} reads fits low within unserved = none_listed reads fits low within (board_unserved n (sheet κs a) (asked κs a) unserved)

  pub board_call_no_minutes : {n : Net} → read_file (file κs a) ≡ accepted n → length (sheet κs a) ≡ length n.periods → (asked κs a).stop ≤ 63
      → (asked κs a).minutes ≡ 0
      → (board_answer r ≡ values (0 ∷ [])) × (times_after κs s ≡ time_row κs a) × (lines_after κs s ≡ line_row κs a)
  board_call_no_minutes {n} reads fits low none =
      none_listed reads fits low (omega (arith, none))
      (ap (λ (minutes : ℕ). board n (sheet κs a) (window (asked κs a).stop (asked κs a).from minutes)) none
      ∙ board_no_minutes n (sheet κs a) (asked κs a).stop (asked κs a).from)

-- Two files with the same periods and offsets, in either edition, a file and its archive form among them, have one board: rows of the same content before have the
-- same content afterwards
module _ (κs : Lfts 4) (a : ArgsD board_call.signature κs) (r : ResD board_call.signature κs)
    (s : AtExit (ended_of 4 board_kinds.ps board_kinds.r) κs) (kept : board_contract.Post κs a r s) (κs' : Lfts 4)
    (a' : ArgsD board_call.signature κs') (r' : ResD board_call.signature κs') (s' : AtExit (ended_of 4 board_kinds.ps board_kinds.r) κs')
    (kept' : board_contract.Post κs' a' r' s') where
  pub same_network_board_alike : {m n : Net} → read_file (file κs a) ≡ accepted m → read_file (file κs' a') ≡ accepted n → SameOffsets m n
      → sheet κs a ≡ sheet κs' a' → asked κs a ≡ asked κs' a' → time_row κs a ≡ time_row κs' a' → line_row κs a ≡ line_row κs' a'
      → (board_answer r ≡ board_answer r') × (times_after κs s ≡ times_after κs' s') × (lines_after κs s ≡ lines_after κs' s')
  same_network_board_alike reads reads' same sheets windows time_rows line_rows =
      let alike = alike_of_bytes (file κs a) (file κs' a') kept.1.1.1 kept'.1.1.1 reads reads' same in
      let (answers, times_are, lines_are) = alike.board_alike (asked κs a) (time_row κs a) (line_row κs a) (sheet κs a) in (
        kept.0 ∙ answers ∙ (cc) ∙ sym kept'.0,
        kept.1.0 ∙ times_are ∙ (cc) ∙ sym kept'.1.0,
        kept.1.1.0 ∙ lines_are ∙ (cc) ∙ sym kept'.1.1.0,
      )

-- ---- Boards of some networks, by the definitions: each side computes

-- A call of a line at stop 0, so many minutes after its start
abbrev call_after : ℕ → ℕ → Call
call_after line offset = record { line = line; stop = 0; offset = offset }

-- A list's rows
abbrev rows : Net → List Arrival → List ℤ × List ℕ
rows n list = (times list, lines n list)

-- Lines every 15 and 20 minutes, which call at stop 0 after 8 and 17 minutes
abbrev two : Net
two = net_with 1 (15 ∷ 20 ∷ []) (call_after 0 8 ∷ call_after 1 17 ∷ [])

-- One line every 10 minutes, with two calls at stop 0 after these
abbrev loop : ℕ → ℕ → Net
loop first second = net_with 1 (10 ∷ []) (call_after 0 first ∷ call_after 0 second ∷ [])

-- Lines every 20 and 30 minutes, the second's call stated first, with the higher offset or the lower
abbrev crossing : Net
crossing = net_with 1 (20 ∷ 30 ∷ []) (call_after 1 5 ∷ call_after 0 2 ∷ [])

abbrev crossed : Net
crossed = net_with 1 (20 ∷ 30 ∷ []) (call_after 1 2 ∷ call_after 0 5 ∷ [])

-- One line every 7 minutes, whose call has the greatest offset
abbrev seven : Net
seven = net_with 1 (7 ∷ []) (call_after 0 65535 ∷ [])

-- An hour from 0; and the 20 minutes before
pub two_lines : (rows two (board two (pos 0 ∷ pos 0 ∷ []) (window 0 (pos 0) 60))
    ≡ (pos 8 ∷ pos 17 ∷ pos 23 ∷ pos 37 ∷ pos 38 ∷ pos 53 ∷ pos 57 ∷ [], 0 ∷ 1 ∷ 0 ∷ 1 ∷ 0 ∷ 0 ∷ 1 ∷ []))
    × (rows two (board two (pos 0 ∷ pos 0 ∷ []) (window 0 (negsuc 19) 20)) ≡ (negsuc 6 ∷ negsuc 2 ∷ [], 0 ∷ 1 ∷ []))
unfolding board board_from board_at board_calls arrives residue arrival_of period_of keep below insert_by sort_by not_after times lines
two_lines = (refl, refl)

-- The first minute counts, and the one behind the last doesn't
pub half_open : (times (board two (pos 0 ∷ pos 0 ∷ []) (window 0 (pos 8) 9)) ≡ pos 8 ∷ [])
    × (times (board two (pos 0 ∷ pos 0 ∷ []) (window 0 (pos 8) 10)) ≡ pos 8 ∷ pos 17 ∷ [])
unfolding board board_from board_at board_calls arrives residue arrival_of period_of keep below insert_by sort_by not_after times
half_open = (refl, refl)

-- At one minute: a loop's two calls are two arrivals, in order of offset, and two lines come in order of line, whatever order the
-- file has and whichever offset is higher
pub one_minute : (rows (loop 3 3) (board (loop 3 3) (pos 0 ∷ []) (window 0 (pos 0) 10)) ≡ (pos 3 ∷ pos 3 ∷ [], 0 ∷ 0 ∷ []))
    × (board (loop 13 3) (pos 0 ∷ []) (window 0 (pos 0) 10) ≡ record { call = 1; time = pos 3 } ∷ record { call = 0; time = pos 3 } ∷ [])
    × (rows crossing (board crossing (pos 4 ∷ pos 1 ∷ []) (window 0 (pos 0) 10)) ≡ (pos 6 ∷ pos 6 ∷ [], 0 ∷ 1 ∷ []))
    × (rows crossed (board crossed (pos 1 ∷ pos 4 ∷ []) (window 0 (pos 0) 10)) ≡ (pos 6 ∷ pos 6 ∷ [], 0 ∷ 1 ∷ []))
unfolding board board_from board_at board_calls arrives residue arrival_of period_of keep below insert_by sort_by not_after times lines
one_minute = (refl, refl, refl, refl)

-- Far apart: from the least 32-bit number on, under the greatest start and offset, none arrives in 4 minutes and one in 5; from the greatest on, two in 10, at
-- minutes above every 32-bit number
pub far_apart : (board seven (pos 2147483647 ∷ []) (window 0 (negsuc 2147483647) 4) ≡ [])
    × (rows seven (board seven (pos 2147483647 ∷ []) (window 0 (negsuc 2147483647) 5)) ≡ (negsuc 2147483643 ∷ [], 0 ∷ []))
    × (rows seven (board seven (pos 2147483647 ∷ []) (window 0 (pos 2147483647) 10)) ≡ (pos 2147483648 ∷ pos 2147483655 ∷ [], 0 ∷ 0 ∷ []))
unfolding board board_from board_at board_calls arrives residue arrival_of period_of keep below insert_by sort_by not_after times lines
far_apart = (refl, refl, refl)
