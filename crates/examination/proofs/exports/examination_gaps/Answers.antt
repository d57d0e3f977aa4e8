-- `examination::exports::examination_gaps` meets its contract: it hands on what the gaps call answers, and leaves in the row, on the sheet that the bytes
-- stand for. Assumes nothing.
use mathlib.Core.Path.{◌≡◌, sym, ap, ◌∙◌}
use mathlib.Core.List.{List}
use lib.IntN.{ℤ}
use Rattle.network.specs.Rating.{rating}
use Rattle.network.specs.Rate.{rate_answer, rated_on_sheet, rate_outcome}
use Rattle.network.specs.GapRow.{gap_row_after}
use Rattle.network.specs.Reading.{Outcome, refusal, read_file}
use Rattle.network.specs.Valid.{IsBytes}
use Rattle.examination.specs.Bytes.{by_bytes, gap_row_bytes}
use Rattle.examination.specs.Exports.{status, row_after}
use Rattle.examination.specs.Engine.Taken.{sheet_of}
use Rattle.examination.proofs.Laws.Bytes.{rated_on_bytes, gap_row_on_bytes}
use Rattle.examination.proofs.Laws.Refusals.{sheet_low}
use Rattle.examination.proofs.exports.examination_gaps.Goals as goal
use Rattle.examination.proofs.exports.examination_gaps.Goals.{After-gaps, After-sheet_of-taken}

-- Once the call has returned
module _ (c : After-gaps) where
  lent : c.starts.result.now ≡ sheet_of c.args.sheet.now
  lent = c.starts.ensures ∙ c.sheet_of-taken.ensures

  -- What is lent to the call is the sheet that the bytes stand for: what it answers there is due on the bytes
  answered : rate_answer c.gaps.result ≡ by_bytes rate_outcome refusal (read_file c.args.file.now) c.args.sheet.now
  unfolding rate_outcome
  answered =
      c.gaps.ensures.answer
      ∙ ap (λ (sheet : List ℤ). rated_on_sheet rating (read_file c.args.file.now) sheet) lent
      ∙ rated_on_bytes rating c.args.file.now c.gaps.ensures.bytes c.args.sheet.now

  row_left : c.gaps.new.row ≡ gap_row_bytes c.args.gap_row.now (read_file c.args.file.now) c.args.sheet.now
  row_left =
      c.gaps.ensures.row
      ∙ ap (λ (sheet : List ℤ). gap_row_after c.args.gap_row.now (read_file c.args.file.now) sheet) lent
      ∙ gap_row_on_bytes c.args.gap_row.now c.args.file.now c.gaps.ensures.bytes c.args.sheet.now

-- What was lent as a sheet are bytes
sheet_bytes : (c : After-sheet_of-taken) → IsBytes c.args.sheet.now
unfolding IsBytes
sheet_bytes c i = (c.type_inv.sheet i).fits

pub put_rating-requires : goal.put_rating-requires
unfolding rate_outcome
put_rating-requires c = λ number place e. sheet_low c.args.file.now rating _ (sym c.gaps.ensures.answer ∙ e)

pub returns : goal.returns
returns c =
    let u = (goal.at.returns c).After-gaps in
    let told = answered u in record {
      returned = c.put_rating.ensures.returned ∙ ap status told;
      row = c.put_rating.ensures.row ∙ ap (λ (o : Outcome). row_after o c.args.answer.now) told;
      gaps = row_left u;
      bytes = c.gaps.ensures.bytes;
      sheet = sheet_bytes (goal.at.returns c).After-sheet_of-taken;
    }
