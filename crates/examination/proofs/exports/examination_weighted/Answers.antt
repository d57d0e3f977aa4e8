-- `examination::exports::examination_weighted` meets its contract: it hands on what weighted answers on the sheet that the bytes stand for. Assumes nothing.
use mathlib.Core.Path.{◌≡◌, sym, ap, ◌∙◌}
use mathlib.Core.List.{List}
use lib.IntN.{ℤ}
use Rattle.network.specs.ClassCall.{weighted_rating, weighted_outcome}
use Rattle.network.specs.Rate.{rate_answer, rated_on_sheet}
use Rattle.network.specs.Reading.{Outcome, refusal, read_file}
use Rattle.network.specs.Valid.{IsBytes}
use Rattle.examination.specs.Bytes.{by_bytes}
use Rattle.examination.specs.Exports.{status, row_after}
use Rattle.examination.proofs.Laws.Bytes.{rated_on_bytes}
use Rattle.examination.proofs.Laws.Refusals.{sheet_low}
use Rattle.examination.proofs.exports.examination_weighted.Goals as goal
use Rattle.examination.proofs.exports.examination_weighted.Goals.{After-weighted, After-sheet_of-taken}

-- What weighted answers on the starts is due on the bytes
answered : (c : After-weighted) → rate_answer c.weighted.result ≡ by_bytes weighted_outcome refusal (read_file c.args.file.now) c.args.sheet.now
unfolding weighted_outcome
answered c =
    c.weighted.ensures.answer
    ∙ ap (λ (sheet : List ℤ). rated_on_sheet weighted_rating (read_file c.args.file.now) sheet) (c.starts.ensures ∙ c.sheet_of-taken.ensures)
    ∙ rated_on_bytes weighted_rating c.args.file.now c.weighted.ensures.bytes c.args.sheet.now

-- What was lent as a sheet are bytes
sheet_bytes : (c : After-sheet_of-taken) → IsBytes c.args.sheet.now
unfolding IsBytes
sheet_bytes c i = (c.type_inv.sheet i).fits

pub put_rating-requires : goal.put_rating-requires
unfolding weighted_outcome
put_rating-requires c = λ number place e. sheet_low c.args.file.now weighted_rating _ (sym c.weighted.ensures.answer ∙ e)

pub returns : goal.returns
returns c = let told = answered (goal.at.returns c).After-weighted in record {
  returned = c.put_rating.ensures.returned ∙ ap status told;
  row = c.put_rating.ensures.row ∙ ap (λ (o : Outcome). row_after o c.args.answer.now) told;
  bytes = c.weighted.ensures.bytes;
  sheet = sheet_bytes (goal.at.returns c).After-sheet_of-taken;
}
