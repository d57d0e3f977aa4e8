-- The board call on a sheet's bytes: it answers, and leaves in the rows, what it does on the sheet that the bytes stand for, and refuses where that is refused:
-- a sheet that doesn't fit is its own first ground. Assumes nothing.
use Prim.Native.Nat.{ℕ, ◌≤◌, ◌<◌}
use mathlib.Core.Path.{◌≡◌, refl, sym, ◌∙◌}
use mathlib.Core.Bool.{false}
use mathlib.Core.List.{List, [], ◌∷◌}
use native.Mathlib.Omega.{arith}
use borrow.Author.Tests.{eq-eqb, eqb-false}
use lib.IntN.{ℤ}
use lib.ListN.{length}
use Rattle.network.specs.Network.{Net, max_stop}
use Rattle.network.specs.Board.{Window, board, max_minutes, board_outcome, time_row_after, line_row_after}
use Rattle.network.specs.Reading.{accepted, refused, values, refusal, read_file}
use Rattle.network.specs.Refusals.{Fits, Unfit, BoardRefuses, of_file, of_sheet, of_stop, of_length, of_row}
use Rattle.network.specs.Valid.{IsBytes}
use Rattle.network.proofs.Laws.BoardCall.{called_refused, called_unfit, board_refuses, board_refuses_only, board_rows_as_found, board_answers_none}
use Rattle.network.proofs.Laws.Gaps.{accepted_valid}
use Rattle.network.proofs.Laws.Reading.{refused_number_range, refused_place}
use Rattle.examination.specs.Bytes.{starts, bytes_fit, BytesFit, board_bytes, time_row_bytes, line_row_bytes}
use Rattle.examination.specs.Exports.{place_limit}
use Rattle.examination.specs.Sheets.{fits}
use Rattle.examination.specs.Engine.Taken.{sheet_of}
use Rattle.examination.proofs.Laws.Bytes.{sheet_of_fit, call_on_bytes}
use Rattle.examination.proofs.Laws.Refusals.{fit_of_bytes, bytes_of_fit}

-- ---- the answer and the rows

unfit_of : (n : Net) (sheet : List ℤ) → fits n sheet ≡ false → Unfit sheet n
unfolding fits
unfit_of n sheet e = eqb-false (length sheet) (length n.periods) e

module _ (w : Window) (time_row : List ℤ) (line_row : List ℕ) (file : List ℕ) (is_bytes : IsBytes file) (bytes : List ℕ) where
  pub board_on_bytes : board_outcome w (length time_row) (length line_row) (read_file file) (sheet_of bytes) ≡ board_bytes w (length time_row) (length line_row) (read_file file) bytes
  board_on_bytes =
      call_on_bytes (board_outcome w (length time_row) (length line_row)) refusal
      (λ number place sheet. sym (called_refused w (refused number place) sheet time_row line_row refl).0)
      (λ n sheet e. sym (called_unfit w (accepted n) sheet time_row line_row refl (unfit_of n sheet e)).0) file is_bytes bytes

  pub times_on_bytes : time_row_after w time_row line_row (read_file file) (sheet_of bytes) ≡ time_row_bytes w time_row line_row (read_file file) bytes
  times_on_bytes =
      call_on_bytes (time_row_after w time_row line_row) (λ (number place : ℕ). time_row)
      (λ number place sheet. sym (called_refused w (refused number place) sheet time_row line_row refl).1.0)
      (λ n sheet e. sym (called_unfit w (accepted n) sheet time_row line_row refl (unfit_of n sheet e)).1.0) file is_bytes bytes

  pub lines_on_bytes : line_row_after w time_row line_row (read_file file) (sheet_of bytes) ≡ line_row_bytes w time_row line_row (read_file file) bytes
  lines_on_bytes =
      call_on_bytes (line_row_after w time_row line_row) (λ (number place : ℕ). line_row)
      (λ number place sheet. sym (called_refused w (refused number place) sheet time_row line_row refl).1.1)
      (λ n sheet e. sym (called_unfit w (accepted n) sheet time_row line_row refl (unfit_of n sheet e)).1.1) file is_bytes bytes

-- ---- when it refuses

-- A board's refusal has a number 1 to 23 and a place up to 1,331, which is 0 for the call's own grounds
pub board_refuses_range : {file : List ℕ} {fits : Net → Type 0} {sheet : List ℤ} {w : Window} {time_row : List ℤ} {line_row : List ℕ} {number place : ℕ}
    → BoardRefuses file fits sheet w time_row line_row number place → (1 ≤ number) × (number ≤ 23) × (place ≤ 1331)
board_refuses_range {file} (of_file e) = omega (arith, refused_number_range file _ _ e, refused_place file _ _ e)
board_refuses_range (of_sheet e differ) = omega arith
board_refuses_range (of_stop e fit high) = omega arith
board_refuses_range (of_length e fit low long) = omega arith
board_refuses_range (of_row e fit low within short) = omega arith

module _ (file : List ℕ) (is_bytes : IsBytes file) (bytes : List ℕ) (w : Window) (time_row : List ℤ) (line_row : List ℕ) where
  -- Bytes that fit stand for their starts
  starts_here : (n : Net) → read_file file ≡ accepted n → BytesFit bytes n → sheet_of bytes ≡ starts bytes
  unfolding bytes_fit
  starts_here n e same = sheet_of_fit n (accepted_valid file n is_bytes e).lines bytes (eq-eqb _ _ same)

  to_bytes : {number place : ℕ} → BoardRefuses file (Fits (sheet_of bytes)) (sheet_of bytes) w time_row line_row number place
      → BoardRefuses file (BytesFit bytes) (starts bytes) w time_row line_row number place
  to_bytes (of_file e) = of_file e
  to_bytes (of_sheet {n = n} e differ) = of_sheet e (λ same. differ (fit_of_bytes file is_bytes bytes n e same))
  to_bytes (of_stop {n = n} e fit high) = of_stop e (bytes_of_fit file is_bytes bytes n e fit) high
  to_bytes (of_length {n = n} e fit low long) = of_length e (bytes_of_fit file is_bytes bytes n e fit) low long
  to_bytes (of_row {n = n} e fit low within short) =
      let same = bytes_of_fit file is_bytes bytes n e fit in
      of_row e same low within (rw (starts_here n e same) at short)

  of_bytes : {number place : ℕ} → BoardRefuses file (BytesFit bytes) (starts bytes) w time_row line_row number place
      → BoardRefuses file (Fits (sheet_of bytes)) (sheet_of bytes) w time_row line_row number place
  of_bytes (of_file e) = of_file e
  of_bytes (of_sheet {n = n} e differ) = of_sheet e (λ fit. differ (bytes_of_fit file is_bytes bytes n e fit))
  of_bytes (of_stop {n = n} e same high) = of_stop e (fit_of_bytes file is_bytes bytes n e same) high
  of_bytes (of_length {n = n} e same low long) = of_length e (fit_of_bytes file is_bytes bytes n e same) low long
  of_bytes (of_row {n = n} e same low within short) =
      of_row e (fit_of_bytes file is_bytes bytes n e same) low within (rw (starts_here n e same) short)

  -- Where none arrives, whatever the sheet, the answer is 0, and rows of any length, 0 too, stay
  pub board_bytes_none : {n : Net} → read_file file ≡ accepted n → BytesFit bytes n → w.stop ≤ max_stop → w.minutes ≤ max_minutes
      → ((sheet : List ℤ) → board n sheet w ≡ [])
      → (board_bytes w (length time_row) (length line_row) (read_file file) bytes ≡ values (0 ∷ []))
      × (time_row_bytes w time_row line_row (read_file file) bytes ≡ time_row)
      × (line_row_bytes w time_row line_row (read_file file) bytes ≡ line_row)
  board_bytes_none {n} reads same low within none =
      let fit = fit_of_bytes file is_bytes bytes n reads same in
      let (told, times_are, lines_are) = board_answers_none file (sheet_of bytes) w time_row line_row reads fit low within (none (sheet_of bytes)) in (
        sym (board_on_bytes w time_row line_row file is_bytes bytes) ∙ told,
        sym (times_on_bytes w time_row line_row file is_bytes bytes) ∙ times_are,
        sym (lines_on_bytes w time_row line_row file is_bytes bytes) ∙ lines_are,
      )

  module _ {number place : ℕ} where
    pub board_bytes_refuse : BoardRefuses file (BytesFit bytes) (starts bytes) w time_row line_row number place
        → board_bytes w (length time_row) (length line_row) (read_file file) bytes ≡ refusal number place
    board_bytes_refuse f = sym (board_on_bytes w time_row line_row file is_bytes bytes) ∙ board_refuses file (sheet_of bytes) w time_row line_row (of_bytes f)

    module _ (e : board_bytes w (length time_row) (length line_row) (read_file file) bytes ≡ refusal number place) where
      pub board_bytes_refuse_only : BoardRefuses file (BytesFit bytes) (starts bytes) w time_row line_row number place
      board_bytes_refuse_only = to_bytes (board_refuses_only file (sheet_of bytes) w time_row line_row (board_on_bytes w time_row line_row file is_bytes bytes ∙ e))

      pub board_bytes_low : place < place_limit
      board_bytes_low = omega (arith, board_refuses_range board_bytes_refuse_only)

      pub board_bytes_rows_as_found : (time_row_bytes w time_row line_row (read_file file) bytes ≡ time_row) × (line_row_bytes w time_row line_row (read_file file) bytes ≡ line_row)
      board_bytes_rows_as_found =
          let (times_are, lines_are) = board_rows_as_found file (sheet_of bytes) w time_row line_row (board_on_bytes w time_row line_row file is_bytes bytes ∙ e) in (
            sym (times_on_bytes w time_row line_row file is_bytes bytes) ∙ times_are,
            sym (lines_on_bytes w time_row line_row file is_bytes bytes) ∙ lines_are,
          )
