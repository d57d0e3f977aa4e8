-- `examination::exports::examination_rate` meets its contract: it hands on what rate answers on the sheet that the bytes stand for. Assumes nothing.
use mathlib.Core.Path.{◌≡◌, sym, ap, ◌∙◌}
use mathlib.Core.List.{List}
use lib.IntN.{ℤ}
use Rattle.network.specs.Rating.{rating}
use Rattle.network.specs.Rate.{rate_answer, rated_on_sheet, rate_outcome}
use Rattle.network.specs.Reading.{Outcome, refusal, read_file}
use Rattle.network.specs.Valid.{IsBytes}
use Rattle.examination.specs.Bytes.{by_bytes}
use Rattle.examination.specs.Exports.{status, row_after}
use Rattle.examination.proofs.Laws.Bytes.{rated_on_bytes}
use Rattle.examination.proofs.Laws.Refusals.{sheet_low}
use Rattle.examination.proofs.exports.examination_rate.Goals as goal
use Rattle.examination.proofs.exports.examination_rate.Goals.{After-rate, After-sheet_of-taken}

-- What rate answers on the starts is due on the bytes
answered : (c : After-rate) → rate_answer c.rate.result ≡ by_bytes rate_outcome refusal (read_file c.args.file.now) c.args.sheet.now
unfolding rate_outcome
answered c =
    c.rate.ensures.answer
    ∙ ap (λ (sheet : List ℤ). rated_on_sheet rating (read_file c.args.file.now) sheet) (c.starts.ensures ∙ c.sheet_of-taken.ensures)
    ∙ rated_on_bytes rating c.args.file.now c.rate.ensures.bytes c.args.sheet.now

-- What was lent as a sheet are bytes
sheet_bytes : (c : After-sheet_of-taken) → IsBytes c.args.sheet.now
unfolding IsBytes
sheet_bytes c i = (c.type_inv.sheet i).fits

pub put_rating-requires : goal.put_rating-requires
unfolding rate_outcome
put_rating-requires c = λ number place e. sheet_low c.args.file.now rating _ (sym c.rate.ensures.answer ∙ e)

pub returns : goal.returns
returns c = let told = answered (goal.at.returns c).After-rate in record {
  returned = c.put_rating.ensures.returned ∙ ap status told;
  row = c.put_rating.ensures.row ∙ ap (λ (o : Outcome). row_after o c.args.answer.now) told;
  bytes = c.rate.ensures.bytes;
  sheet = sheet_bytes (goal.at.returns c).After-sheet_of-taken;
}
