-- `examination::exports::examination_mark` meets its contract: it hands on what mark answers on the sheet that the bytes stand for.
-- Assumes nothing.
use mathlib.Core.Path.{sym, ap, ◌∙◌}
use Rattle.network.specs.Valid.{IsBytes}
use Rattle.examination.specs.Exports.{mark_status, mark_row}
use Rattle.examination.specs.Sheets.{MarkOutcome}
use Rattle.examination.proofs.Laws.Refusals.{mark_bytes_low}
use Rattle.examination.proofs.exports.examination_mark.Goals as goal
use Rattle.examination.proofs.exports.examination_mark.Goals.{After-mark_bytes}

-- What was lent as a sheet are bytes
sheet_bytes : (c : After-mark_bytes) → IsBytes c.args.sheet.now
unfolding IsBytes
sheet_bytes c i = (c.type_inv.sheet i).fits

pub put_mark-requires : goal.put_mark-requires
put_mark-requires c number place e = mark_bytes_low c.args.file.now c.mark_bytes.ensures.bytes c.args.sheet.now c.args.budget (sym c.mark_bytes.ensures.answer ∙ e)

pub returns : goal.returns
returns c = let told = c.mark_bytes.ensures.answer in record {
  returned = c.put_mark.ensures.returned ∙ ap mark_status told;
  row = c.put_mark.ensures.row ∙ ap (λ (o : MarkOutcome). mark_row o c.args.answer.now) told;
  bytes = c.mark_bytes.ensures.bytes;
  sheet = sheet_bytes (goal.at.returns c).After-mark_bytes;
}
