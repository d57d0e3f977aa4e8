-- Document 02, A.7, on the export of the board call, said of what a host sees: what its return value, its number and both rows mean. Each theorem holds of every
-- call that has returned, where it keeps the contract in src/exports.rt, which every call does. Assumes nothing.
use Prim.Native.Nat.{ℕ, ◌*◌, ◌<◌, ◌≤◌}
use mathlib.Core.Path.{◌≡◌, refl, ap, ◌∙◌}
use mathlib.Core.Bool.{false}
use mathlib.Core.List.{List, [], ◌∷◌, ◌++◌}
use mathlib.Core.Logic.{◌↔◌}
use native.Mathlib.Omega.{arith}
use borrow.Fn.World.{ArgsD, ResD}
use borrow.Fn.Kinds.{ended_of}
use contract.Lifetimes.{Lfts}
use denote.Triple.Clauses.{AtExit}
use lib.IntN.{ℤ}
use lib.ListN.{length, get_or, drop}
use Rattle.network.specs.Network.{Net, max_stop, max_lines, is_served}
use Rattle.network.specs.Board.{Window, window, board, times, lines, max_minutes, board_outcome, time_row_after, line_row_after}
use Rattle.network.specs.Reading.{refusal, values, accepted, read_file}
use Rattle.network.specs.Refusals.{BoardRefuses, of_file, of_sheet, of_stop, of_length, of_row, Demand1}
use Rattle.network.specs.Valid.{Valid}
use Rattle.network.proofs.StopBoard.{Lists, lists, valid_board_length_le, board_unserved, board_no_minutes}
use Rattle.network.proofs.Laws.BoardCall.{board_answers}
use Rattle.network.proofs.Laws.Gaps.{accepted_valid}
use Rattle.network.proofs.Laws.Lists.{zero_ne_one}
use Rattle.examination.specs.Bytes.{starts, IsSheet, BytesFit}
use Rattle.examination.specs.Exports.{TellsRefusal}
use Rattle.examination.proofs.Codes.{export_demand_1, status_tells, status_code}
use Rattle.examination.proofs.ExportDemands.{row_as_found, answered, on_its_bytes}
use Rattle.examination.proofs.Laws.Bytes.{length_starts_fit}
use Rattle.examination.proofs.Laws.BoardBytes.{board_refuses_range, board_bytes_refuse, board_bytes_refuse_only, board_bytes_rows_as_found, board_bytes_none}
use Rattle.examination.proofs.SheetBytes.{bytes_are_a_sheet}
use Rattle.examination.specs.contracts.exports.examination_board as exported
use Rattle.examination.proofs.exports.examination_board.Kinds as board_kinds
use Rattle.examination.proofs.exports.examination_board.Reads as board_contract

-- ---- It may be called: it asks nothing of what is lent

pub board_export_asks_nothing : (κs : Lfts 5) (a : ArgsD exported.signature κs) → board_contract.Pre κs a
board_export_asks_nothing κs a = tt

-- ---- What is lent, and the rows at its exit

module _ (κs : Lfts 5) (a : ArgsD exported.signature κs) where
  abbrev pub file : List ℕ
  file = a.0.now

  abbrev pub bytes : List ℕ
  bytes = a.1.0.now

  abbrev pub asked : Window
  asked = window a.1.1.0 a.1.1.1.0 a.1.1.1.1.0

  abbrev pub time_row : List ℤ
  time_row = a.1.1.1.1.1.0.now

  abbrev pub line_row : List ℕ
  line_row = a.1.1.1.1.1.1.0.now

  abbrev pub answer_row : List ℕ
  answer_row = a.1.1.1.1.1.1.1.0.now

module _ (κs : Lfts 5) (s : AtExit (ended_of 5 board_kinds.ps board_kinds.r) κs) where
  abbrev pub times_after : List ℤ
  times_after = s.1.1.1.1.1.0.now

  abbrev pub lines_after : List ℕ
  lines_after = s.1.1.1.1.1.1.0.now

  abbrev pub answer_after : List ℕ
  answer_after = s.1.1.1.1.1.1.1.0.now

-- ---- What a host sees of it where no ground applies

pub record HallBoard (n : Net) (sheet : List ℤ) (w : Window) (returned : ℕ) (answer : List ℕ) (time_row : List ℤ) (line_row : List ℕ) (times_after : List ℤ) (lines_after : List ℕ) : Type 0 where
  pub returns : returned ≡ 0
  -- the answer's one number is the count, the rows hold the board's times and lines, and what lies behind stays; each time is in the window
  pub listed : Lists n sheet w (values answer) time_row line_row times_after lines_after
  -- at most 322,560 arrivals, of lines below 16
  pub count_range : length listed.list ≤ 322560
  pub lines_low : (i : ℕ) → i < length (lines n listed.list) → get_or (lines n listed.list) i 0 < max_lines

hall_board : {n : Net} → Valid n → (sheet : List ℤ) (w : Window) → w.minutes ≤ max_minutes → (time_row : List ℤ) (line_row : List ℕ)
    → HallBoard n sheet w 0 (length (board n sheet w) ∷ []) time_row line_row (times (board n sheet w) ++ drop (length (board n sheet w)) time_row) (lines n (board n sheet w) ++ drop (length (board n sheet w)) line_row)
hall_board {n} valid sheet w within time_row line_row =
    record {
      returns = refl;
      listed = lists valid sheet w time_row line_row;
      count_range = omega (arith, (lists valid sheet w time_row line_row).count_range, within);
      lines_low = λ i h. omega (arith, (lists valid sheet w time_row line_row).lines_stated i h, valid.lines);
    }

number_of : {k : ℕ} {vs : List ℕ} → values vs ≡ values (k ∷ []) → vs ≡ k ∷ []
number_of e = cc

module _ (κs : Lfts 5) (a : ArgsD exported.signature κs) (r : ResD exported.signature κs)
    (s : AtExit (ended_of 5 board_kinds.ps board_kinds.r) κs) (kept : board_contract.Post κs a r s) where
  pub board_export_demand_1 :
      Demand1 (TellsRefusal r) (BoardRefuses (file κs a) (BytesFit (bytes κs a)) (starts (bytes κs a)) (asked κs a) (time_row κs a) (line_row κs a))
      ((times_after κs s ≡ time_row κs a) × (lines_after κs s ≡ line_row κs a) × (answer_after κs s ≡ answer_row κs a))
  board_export_demand_1 =
      let is_bytes = kept.1.1.1.1.0 in
      export_demand_1
      (record {
        faulty_is_refused = λ number place f. board_bytes_refuse (file κs a) is_bytes (bytes κs a) (asked κs a) (time_row κs a) (line_row κs a) f;
        no_other_is_refused = λ number place e. board_bytes_refuse_only (file κs a) is_bytes (bytes κs a) (asked κs a) (time_row κs a) (line_row κs a) e;
        rows_as_found = λ number place e.
            let (times_are, lines_are) = board_bytes_rows_as_found (file κs a) is_bytes (bytes κs a) (asked κs a) (time_row κs a) (line_row κs a) e in
            (kept.1.1.0 ∙ times_are, kept.1.1.1.0 ∙ lines_are, kept.1.0 ∙ row_as_found (answer_row κs a) e);
      })
      (λ number place f. omega (arith, board_refuses_range f)) (status_code kept.0) (status_tells _ kept.0)

  -- Whatever 4 bytes for each line are lent, they are a sheet's
  pub board_export_sheet : {lines : ℕ} → length (bytes κs a) ≡ 4 * lines → IsSheet lines (bytes κs a)
  board_export_sheet = bytes_are_a_sheet kept.1.1.1.1.1

  -- Every arrival in the window under the sheet whose bytes are lent, in rows that are long enough
  pub board_export_lists : {n : Net} → read_file (file κs a) ≡ accepted n → BytesFit (bytes κs a) n
      → (asked κs a).stop ≤ max_stop → (asked κs a).minutes ≤ max_minutes
      → length (board n (starts (bytes κs a)) (asked κs a)) ≤ length (time_row κs a)
      → length (board n (starts (bytes κs a)) (asked κs a)) ≤ length (line_row κs a)
      → HallBoard n (starts (bytes κs a)) (asked κs a) r (answer_after κs s) (time_row κs a) (line_row κs a) (times_after κs s) (lines_after κs s)
  board_export_lists {n} reads fit low within times_fit lines_fit =
      let read = read_file (file κs a) in
      let sheet = starts (bytes κs a) in
      let (answers, times_are, lines_are) = board_answers (file κs a) sheet (asked κs a) (time_row κs a) (line_row κs a) reads
      (length_starts_fit (bytes κs a) fit) low within times_fit lines_fit in
      let told = on_its_bytes (board_outcome (asked κs a) (length (time_row κs a)) (length (line_row κs a))) refusal read reads (bytes κs a) fit ∙ answers in
      let q = answered (answer_row κs a) kept.0 kept.1.0 told in
      let times_left = kept.1.1.0
      ∙ on_its_bytes (time_row_after (asked κs a) (time_row κs a) (line_row κs a)) (λ (number place : ℕ). time_row κs a) read reads (bytes κs a) fit
      ∙ times_are in
      let lines_left = kept.1.1.1.0
      ∙ on_its_bytes (line_row_after (asked κs a) (time_row κs a) (line_row κs a)) (λ (number place : ℕ). line_row κs a) read reads (bytes κs a) fit
      ∙ lines_are in
      rw (q.0, number_of (q.1 ∙ told), times_left, lines_left)
      (hall_board (accepted_valid (file κs a) n kept.1.1.1.1.0 reads) sheet (asked κs a) within (time_row κs a) (line_row κs a))

  -- Rows of 32 places for each minute are long enough
  pub board_export_room : {n : Net} → read_file (file κs a) ≡ accepted n → (sheet : List ℤ)
      → 32 * (asked κs a).minutes ≤ length (time_row κs a) → 32 * (asked κs a).minutes ≤ length (line_row κs a)
      → (length (board n sheet (asked κs a)) ≤ length (time_row κs a)) × (length (board n sheet (asked κs a)) ≤ length (line_row κs a))
  board_export_room {n} reads sheet times_fit lines_fit =
      let few = valid_board_length_le (accepted_valid (file κs a) n kept.1.1.1.1.0 reads) sheet (asked κs a) in
      (omega (arith, few, times_fit), omega (arith, few, lines_fit))

  none_listed : {n : Net} → read_file (file κs a) ≡ accepted n → length (bytes κs a) ≡ 4 * length n.periods → (asked κs a).stop ≤ max_stop
      → (asked κs a).minutes ≤ max_minutes → ((sheet : List ℤ) → board n sheet (asked κs a) ≡ [])
      → (r ≡ 0) × (answer_after κs s ≡ 0 ∷ []) × (times_after κs s ≡ time_row κs a) × (lines_after κs s ≡ line_row κs a)
  none_listed reads fit low within none =
      let (told, times_are, lines_are) = board_bytes_none (file κs a) kept.1.1.1.1.0 (bytes κs a) (asked κs a) (time_row κs a) (line_row κs a) reads fit low within none in
      let q = answered (answer_row κs a) kept.0 kept.1.0 told in
      (q.0, number_of (q.1 ∙ told), kept.1.1.0 ∙ times_are, kept.1.1.1.0 ∙ lines_are)

  -- An unserved stop, and 0 minutes, answer 0 and leave rows of any length, 0 too, as found
  pub board_export_unserved : {n : Net} → read_file (file κs a) ≡ accepted n → length (bytes κs a) ≡ 4 * length n.periods → (asked κs a).stop ≤ 63
      → (asked κs a).minutes ≤ 10080 → is_served (asked κs a).stop n.calls ≡ false
      → (r ≡ 0) × (answer_after κs s ≡ 0 ∷ []) × (times_after κs s ≡ time_row κs a) × (lines_after κs s ≡ line_row κs a)
  board_export_unserved {n} reads fit low within unserved = none_listed reads fit low within (λ sheet. board_unserved n sheet (asked κs a) unserved)

  pub board_export_no_minutes : {n : Net} → read_file (file κs a) ≡ accepted n → length (bytes κs a) ≡ 4 * length n.periods → (asked κs a).stop ≤ 63
      → (asked κs a).minutes ≡ 0
      → (r ≡ 0) × (answer_after κs s ≡ 0 ∷ []) × (times_after κs s ≡ time_row κs a) × (lines_after κs s ≡ line_row κs a)
  board_export_no_minutes {n} reads fit low none =
      none_listed reads fit low (omega (arith, none))
      (λ sheet. ap (λ (minutes : ℕ). board n sheet (window (asked κs a).stop (asked κs a).from minutes)) none
      ∙ board_no_minutes n sheet (asked κs a).stop (asked κs a).from)

  -- On an accepted file the return value is 524,288, ground 8 at place 0, exactly where the sheet fits and the stop asked for is above 63
  pub board_export_eight_at_zero : {n : Net} → read_file (file κs a) ≡ accepted n
      → (r ≡ 524288) ↔ ((length (bytes κs a) ≡ 4 * length n.periods) × (63 < (asked κs a).stop))
  board_export_eight_at_zero {n} reads = (
    λ e. go (board_export_demand_1.no_other_is_refused 8 0 (omega (arith, e), omega (arith, e), omega (arith, e))) refl,
    λ (fit, high). let told = board_export_demand_1.faulty_is_refused 8 0 (of_stop reads fit high) in omega (arith, told.1, told.2),
  )
    where
      go : {number place : ℕ} → BoardRefuses (file κs a) (BytesFit (bytes κs a)) (starts (bytes κs a)) (asked κs a) (time_row κs a) (line_row κs a) number place
          → number ≡ 8 → (length (bytes κs a) ≡ 4 * length n.periods) × (63 < (asked κs a).stop)
      go (of_file e) is = absurd (zero_ne_one (cc))
      go (of_sheet e differ) is = absurd (omega (arith, is))
      go (of_stop {n = m} e fit high) is = let same : m ≡ n = cc in (fit ∙ ap (λ (k : Net). 4 * length k.periods) same, high)
      go (of_length e fit low long) is = absurd (omega (arith, is))
      go (of_row e fit low within short) is = absurd (omega (arith, is))
