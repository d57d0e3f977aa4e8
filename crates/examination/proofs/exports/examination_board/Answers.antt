-- `examination::exports::examination_board` meets its contract: it hands on what the board call answers, and leaves in the rows, on the sheet that the bytes
-- stand for. Assumes nothing.
use Prim.Native.Nat.{ℕ}
use mathlib.Core.Path.{◌≡◌, refl, sym, ap, ap₂, ◌∙◌}
use mathlib.Core.List.{List}
use lib.IntN.{ℤ}
use lib.ListN.{length}
use mir.Syntax.{w32}
use mir.Val.{to_z, of_z}
use mir.Facts.{to_z-of_z}
use Rattle.std.specs.Prelude.{Result, Ok, Err}
use Rattle.network.specs.declared.grounds.Refusal.{Refusal}
use Rattle.network.specs.ClassCall.{class_answer}
use Rattle.network.specs.Board.{Window, window, board_answer, board_outcome, time_row_after, line_row_after}
use Rattle.network.specs.Reading.{Reading, Outcome, read_file}
use Rattle.network.specs.Valid.{IsBytes}
use Rattle.examination.specs.Bytes.{board_bytes, time_row_bytes, line_row_bytes}
use Rattle.examination.specs.Exports.{status, row_after}
use Rattle.examination.specs.Engine.Taken.{sheet_of}
use Rattle.examination.proofs.Laws.BoardBytes.{board_on_bytes, times_on_bytes, lines_on_bytes, board_bytes_low}
use Rattle.examination.proofs.exports.examination_board.Goals as goal
use Rattle.examination.proofs.exports.examination_board.Goals.{After-board-told}

-- Once the call has returned
module _ (b : After-board-told) where
  abbrev asked : Window
  asked = window b.args.stop b.args.from b.args.minutes

  abbrev time_row : List ℤ
  time_row = b.args.time_row.now

  abbrev line_row : List ℕ
  line_row = b.args.line_row.now

  abbrev read : Reading
  read = read_file b.args.file.now

  -- The answer that is due
  abbrev due : Outcome
  due = board_bytes asked (length time_row) (length line_row) read b.args.sheet.now

  bytes_here : IsBytes b.args.file.now
  bytes_here = b.board-told.ensures.bytes

  sheet_bytes : IsBytes b.args.sheet.now
  unfolding IsBytes
  sheet_bytes i = (b.type_inv.sheet i).fits

  -- What is lent to the call is the sheet that the bytes stand for, and the first minute
  sheet_is : b.starts.result.now ≡ sheet_of b.args.sheet.now
  sheet_is = b.starts.ensures ∙ b.sheet_of-taken.ensures

  from_is : to_z w32 (of_z w32 b.args.from) ≡ b.args.from
  from_is = to_z-of_z b.ranges.from

  answered : board_answer b.board-told.result ≡ due
  answered =
      b.board-told.ensures.answer
      ∙ ap₂ (λ (x : ℤ) (sheet : List ℤ). board_outcome (window b.args.stop x b.args.minutes) (length time_row) (length line_row) read sheet) from_is
      sheet_is
      ∙ board_on_bytes asked time_row line_row b.args.file.now bytes_here b.args.sheet.now

  times_left : b.board-told.new.time_row ≡ time_row_bytes asked time_row line_row read b.args.sheet.now
  times_left =
      b.board-told.ensures.times
      ∙ ap₂ (λ (x : ℤ) (sheet : List ℤ). time_row_after (window b.args.stop x b.args.minutes) time_row line_row read sheet) from_is sheet_is
      ∙ times_on_bytes asked time_row line_row b.args.file.now bytes_here b.args.sheet.now

  lines_left : b.board-told.new.line_row ≡ line_row_bytes asked time_row line_row read b.args.sheet.now
  lines_left =
      b.board-told.ensures.lines
      ∙ ap₂ (λ (x : ℤ) (sheet : List ℤ). line_row_after (window b.args.stop x b.args.minutes) time_row line_row read sheet) from_is sheet_is
      ∙ lines_on_bytes asked time_row line_row b.args.file.now bytes_here b.args.sheet.now

-- A number of arrivals is handed on as a number of classes is
as_count : (t : Result ℕ Refusal) → class_answer t ≡ board_answer t
unfolding class_answer board_answer
as_count (Ok n) = refl
as_count (Err r) = refl

pub put_count-requires : goal.put_count-requires
put_count-requires c number place e =
    let u = (goal.at.put_count-requires c).After-board-told in
    board_bytes_low c.args.file.now (bytes_here u) c.args.sheet.now (asked u) (time_row u) (line_row u)
    (sym (answered u) ∙ sym (as_count c.board-told.result) ∙ e)

pub returns : goal.returns
returns c =
    let u = (goal.at.returns c).After-board-told in
    let told = as_count c.board-told.result ∙ answered u in record {
      returned = c.put_count.ensures.returned ∙ ap status told;
      row = c.put_count.ensures.row ∙ ap (λ (o : Outcome). row_after o c.args.answer.now) told;
      times = times_left u;
      lines = lines_left u;
      bytes = bytes_here u;
      sheet = sheet_bytes u;
    }
